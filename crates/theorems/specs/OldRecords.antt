-- Old records change nothing: what a call gives depends on no word of the tape but the header's.
use Rattle.std.specs.Prelude.{Bool, ◌≡◌, ◌⊎◌, List, ℕ, ◌+◌, ◌≤◌, ◌<◌, length, get_or, take}
use Rattle.outcome.specs.Call.{After}
use Rattle.tape.specs.Layout.{word_of}
use Rattle.tape.specs.Tape.{used, room, load}

-- tapes with equal headers and room, and any other words
pub record Alike (slim : Bool) (t u : List ℕ) : Type 0 where
  pub header : take 4 t ≡ take 4 u
  pub space : room slim t ≡ room slim u

-- as many words as before, and every word but word 0 and those of the new records is as before
pub record Untouched (slim : Bool) (t : List ℕ) (after : After) : Type 0 where
  pub same_length : length after.lent ≡ length t
  pub others : (k : ℕ) → 1 ≤ k → (k < word_of slim (used t)) ⊎ (word_of slim (used t + after.outcome.written) ≤ k) → get_or after.lent k 0 ≡ get_or t k 0

-- what a call gives and leaves, on the one tape and on the other
pub record Unmoved (slim : Bool) (t u : List ℕ) (one other : After) : Type 0 where
  pub same_outcome : one.outcome ≡ other.outcome
  pub same_header : take 4 one.lent ≡ take 4 other.lent
  pub same_records : load slim one.lent (used t) one.outcome.written ≡ load slim other.lent (used u) other.outcome.written
  pub untouched : Untouched slim t one
  pub untouched' : Untouched slim u other
