-- Two tapes of either layout (document 02, request 09): what it means that from equal records a call gives equal records.
use Rattle.std.specs.Prelude.{◌≡◌, Bool, List, ℕ}
use Rattle.outcome.specs.Call.{After}
use Rattle.tape.specs.Tape.{used, load}
use Rattle.calls.specs.Calls.{clear_call, cut_back_call}
use Rattle.meaning.specs.AreaCall.{walk_call, push_call}

-- the tapes hold equal records, each in its layout
pub record Same (slim slim' : Bool) (t u : List ℕ) : Type 0 where
  pub count : used t ≡ used u
  pub records : load slim t 0 (used t) ≡ load slim' u 0 (used u)

-- the calls that may write to a tape
pub data Writing : Type 0 where
  clear : Writing
  walk push : (registry : ℕ) (area : List ℕ) (base : ℕ) → Writing
  cut_back : (mark : ℕ) → Writing

-- what each gives and leaves
abbrev pub made : Writing → Bool → List ℕ → After
made clear slim t = clear_call slim t
made (walk registry area base) slim t = walk_call slim registry area base t
made (push registry area base) slim t = push_call slim registry area base t
made (cut_back mark) slim t = cut_back_call slim t mark

-- a call is not refused under this number; where it is not under 5, it has room
abbrev pub NotUnder : ℕ → After → Type 0
NotUnder answer after = ¬ (after.outcome.answer ≡ answer)

-- what the two runs of a call have in common that neither tape is refused under 4: as many records are needed, whether there is
-- room or not; and where both have room, the outcome, a refusal too, and the records that are then on the tapes
pub record Agreed (slim slim' : Bool) (one other : After) : Type 0 where
  pub needed : one.outcome.needed ≡ other.outcome.needed
  pub outcome : NotUnder 5 one → NotUnder 5 other → one.outcome ≡ other.outcome
  pub records : NotUnder 5 one → NotUnder 5 other → Same slim slim' one.lent other.lent
