-- A tape (document 01, 'The tape'): a header of four words, and then records, all of one layout.
use Rattle.std.specs.Prelude.{◌≡◌, Bool, ◌&&◌, cond, List, [], ◌∷◌, ℕ, zero, suc, ◌+◌, ◌≤◌, leb, eqb, length, get_or, set}
use Rattle.std.proofs.lemmas.List.Edits.{sets}
use Rattle.tape.specs.Layout.{width, word_of, room_of, words_of, record_by}
use Rattle.tape.specs.declared.Record.{Record}

-- header

-- word 0: records used
abbrev pub used : List ℕ → ℕ
used t = get_or t 0 0

-- how many records it has room for
abbrev pub room : Bool → List ℕ → ℕ
room slim t = room_of slim (length t)

-- the header is in order: a tape not under 4 words, words 1 to 3 are 4, the words in a record, 0, and used is not over room
unfoldable pub headed : Bool → List ℕ → Bool
headed slim t = leb 4 (length t) && (eqb (get_or t 1 0) 4 && (eqb (get_or t 2 0) (width slim) && (eqb (get_or t 3 0) 0 && leb (used t) (room slim t))))

-- the same as a statement
pub record InOrder (slim : Bool) (t : List ℕ) : Type 0 where
  pub long : 4 ≤ length t
  pub offset : get_or t 1 0 ≡ 4
  pub «width» : get_or t 2 0 ≡ width slim
  pub last : get_or t 3 0 ≡ 0
  pub fits : used t ≤ room slim t

-- the tape with another count of used records, and nothing else changed
abbrev pub with_used : ℕ → List ℕ → List ℕ
with_used n t = set t 0 n

-- records

-- the record at a position
abbrev pub record_at : Bool → List ℕ → ℕ → Record
record_at slim t at = record_by slim (λ (k : ℕ). get_or t (word_of slim at + k) 0)

-- n records, the first at a position
unfoldable pub load : Bool → List ℕ → ℕ → ℕ → List Record
load slim t at zero = []
load slim t at (suc n) = record_at slim t at ∷ load slim t (suc at) n

-- a record put at a position, where its words lie inside the tape; elsewhere nothing changes
unfoldable pub put_at : Bool → List ℕ → ℕ → Record → List ℕ
put_at slim t at r = cond (leb (word_of slim at + width slim) (length t)) (sets t (word_of slim at) (words_of slim r)) t

-- records put one after the other, the first at a position
unfoldable pub store : Bool → List ℕ → ℕ → List Record → List ℕ
store slim t at [] = t
store slim t at (r ∷ rs) = store slim (put_at slim t at r) (suc at) rs
