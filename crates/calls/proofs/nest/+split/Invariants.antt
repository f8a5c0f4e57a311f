use mathlib.Core.Path.{◌≡◌}
use Rattle.calls.specs.Nest.{trees}
use Prim.Native.Nat.{◌-◌}
use Rattle.calls.proofs.nest.+split.Given as goal

abbrev pub decreases-split : goal.decreases-split
decreases-split l = l.depth

abbrev pub invariant-loop-at : goal.invariant-loop-at
invariant-loop-at l = trees l.slim l.tape l.depth l.at l.end.0 ≡ trees l.slim l.tape l.depth l.initial.at l.end.0

abbrev pub decreases-loop-at : goal.decreases-loop-at
decreases-loop-at l = l.end.0 - l.at
