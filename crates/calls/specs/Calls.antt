-- The calls clear, cut back and read (document 01, 'Numbers a call gives back'), each from what it was lent.
use Rattle.std.specs.Prelude.{◌≡◌, Bool, true, false, ◌&&◌, cond, List, [], ◌∷◌, ℕ, suc, ◌*◌, leb, ltb, length, Result, Ok, Err}
use Rattle.std.proofs.lemmas.List.Edits.{sets}
use Rattle.outcome.specs.Call.{Outcome, After, done, refused, refusal, finished, numbers_of}
use Rattle.outcome.specs.Told.{told}
use Rattle.outcome.specs.declared.Refusal.{Refusal}
use Rattle.outcome.specs.declared.Refusal.TheVariants.{NoTape}
use Rattle.tape.specs.declared.Position.{Position}
use Rattle.calls.specs.Limits.{last_label, last_shape, last_registry}
use Rattle.tape.specs.Record.{label_of, shape_of, zeros, words}
use Rattle.tape.specs.Layout.{width}
use Rattle.tape.specs.Tape.{used, headed, with_used, record_at, load}
use Rattle.tape.specs.declared.Record.{Record}

-- clear

-- the header 0, 4, the words in a record, 0, and nothing else changed
abbrev pub cleared : Bool → List ℕ → List ℕ
cleared slim t = sets t 0 (0 ∷ 4 ∷ width slim ∷ 0 ∷ [])

-- 4 only under 4 words
unfoldable pub clear_call : Bool → List ℕ → After
clear_call slim t = cond (leb 4 (length t)) (finished (cleared slim t)) (refusal 4 t)

-- the count of records, where the header is in order, and refusal 4 where it is not
abbrev pub Counted : Bool → List ℕ → Result Position Refusal → Type 0
Counted slim t (Ok n) = (headed slim t ≡ true) × (n.0 ≡ used t)
Counted slim t (Err e) = (headed slim t ≡ false) × (e ≡ NoTape)

-- cut back

-- no record has word 5 above the mark
unfoldable pub end_by : ℕ → List Record → Bool
end_by mark [] = true
end_by mark (r ∷ rs) = leb r.past.0 mark && end_by mark rs

-- 4, then 6: mark past the count, then 7: a record kept by the cut has word 5 above the mark
unfoldable pub cut_back_call : Bool → List ℕ → ℕ → After
cut_back_call slim t mark =
    cond (headed slim t)
    (cond (leb mark (used t))
    (cond (end_by mark (load slim t 0 mark)) (finished (with_used mark t))
    (refusal 7 t))
    (refusal 6 t))
    (refusal 4 t)

-- read

-- not over 56 as label, not over 8 as shape, word 0 below 393,216 (registry not over 5), start not after end
unfoldable pub readable : Record → Bool
readable r = leb (label_of r) last_label && (leb (shape_of r) last_shape && (ltb r.tag (65536 * suc last_registry) && leb r.start.0 r.end.0))

-- what read gives: the outcome, and the record or six zeros
pub record Reading : Type 0 where
  pub outcome : Outcome
  pub «record» : Record

-- what a refused read gives: a record of six zeros
abbrev pub no_record : ℕ → Reading
no_record answer = record { outcome = refused answer; «record» = zeros }

-- 4, then 6: at or past the count, then 8
unfoldable pub read_call : Bool → List ℕ → ℕ → Reading
read_call slim t at =
    cond (headed slim t)
    (cond (ltb at (used t))
    (cond (readable (record_at slim t at)) (record { outcome = done; «record» = record_at slim t at })
    (no_record 8))
    (no_record 6))
    (no_record 4)

-- what the code's read tells: the record, or the refusal and six zeros
abbrev pub read_told : Result Record Refusal → Reading
read_told (Ok r) = record { outcome = done; «record» = r }
read_told (Err e) = record { outcome = told (Err e); «record» = zeros }

-- the contract of read over the C boundary, where numbers and record are written to places that are lent for them
pub record GivesRecord (meant : Reading) (numbers words' : List ℕ) : Type 0 where
  pub gave : numbers ≡ numbers_of meant.outcome
  pub shown : words' ≡ words meant.«record»
