use lib.ListN.{length}
use Rattle.meaning.specs.Frame.{entry_length}
use Rattle.meaning.specs.Table.{usual}
use Rattle.meaning.specs.Area.{entry_trees}
use Rattle.count.specs.Counting.{Counting}
use Rattle.count.proofs.count_area.Given as goal

abbrev pub invariant-loop-length : goal.invariant-loop-length
invariant-loop-length g l = Counting entry_length (entry_trees usual g.L.Level.inside (g.L.Level.number l.level)) l.area l.left l.records

abbrev pub decreases-loop-length : goal.decreases-loop-length
decreases-loop-length g l = length l.left
