-- Each turn counts an entry.
use native.Mathlib.Omega.{arith}
use Rattle.std.proofs.Common.{rules}
use Rattle.meaning.specs.FrameLaws.{entry_fits}
use Rattle.count.specs.Counting.{counting_start, counting_step, counting_end}
use Rattle.count.specs.AreaCount.{entry_counts, walk_none, walk_counted}
use Rattle.count.proofs.count_area.Goals as goal

pub returns-then-is_empty : goal.returns-then-is_empty
returns-then-is_empty g c = walk_none _ _ (search rules)

pub loop-length-init : goal.loop-length-init
loop-length-init g c = counting_start

pub loop-length-preserved : goal.loop-length-preserved
loop-length-preserved g c =
    let entry = entry_counts c.loop-length.left.now c.in-Some.ensures c.records.ensures in
    counting_step entry_fits c.loop-length.invariant _ c.in-Some.ensures entry.0 entry.1 (omega arith)

pub returns : goal.returns
returns g c = walk_counted _ _ (search rules) (counting_end entry_fits c.loop-length.invariant c.in_default.ensures)
