use Prim.Native.Nat.{ℕ}
use lib.ListN.{length}
use Rattle.meaning.specs.Field.{ranges}
use Rattle.meaning.specs.Array.{element_trees}
use Rattle.meaning.specs.Frame.{range_length}
use Rattle.count.specs.Counting.{Counting}
use Rattle.count.proofs.field.ranges.Given as goal

abbrev pub invariant-loop-length : goal.invariant-loop-length
invariant-loop-length l = (registry : ℕ) → Counting range_length (element_trees ranges registry) l.octets l.left l.records

abbrev pub decreases-loop-length : goal.decreases-loop-length
decreases-loop-length l = length l.left
