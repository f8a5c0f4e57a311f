-- What the nest test's yes means: the used records split into trees, at most 4 containers deep.
use Rattle.std.specs.Prelude.{Bool, ◌≡◌, List, ℕ, ◌-◌, ◌≤◌}
use Rattle.calls.specs.Limits.{deepest}
use Rattle.tape.specs.Tape.{InOrder, used, load}
use Rattle.tape.specs.Forest.{Forest, flat, depth, Formed}

-- the records from at up to end are those of a forest, at most d containers deep
pub record Split (slim : Bool) (t : List ℕ) (d at end : ℕ) : Type 0 where
  pub forest : Forest
  pub held : load slim t at (end - at) ≡ flat at forest
  pub shallow : depth forest ≤ d
  pub formed : Formed forest

-- the header is in order, and the used records are those of a forest
pub record WellNested (slim : Bool) (t : List ℕ) : Type 0 where
  pub header : InOrder slim t
  pub records : Split slim t deepest 0 (used t)
