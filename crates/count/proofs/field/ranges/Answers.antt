-- Each turn counts a range.
use native.Mathlib.Omega.{arith}
use mathlib.Core.Path.{refl}
use Rattle.meaning.specs.FrameLaws.{range_fits}
use Rattle.count.specs.Counting.{counting_start, counting_step, counting_end}
use Rattle.count.specs.LastCount.{range_found, range_counts}
use Rattle.count.proofs.field.ranges.Goals as goal

pub loop-length-init : goal.loop-length-init
loop-length-init c = λ registry. counting_start

pub overflow_add-records : goal.overflow_add-records
overflow_add-records c = omega (arith, (c.loop-length.invariant 0).few)

pub loop-length-preserved : goal.loop-length-preserved
loop-length-preserved c =
    let s = c.loop-length.left.now in
    let is = c.in-Some.ensures in
    λ registry. counting_step range_fits (c.loop-length.invariant registry) 3 is (omega (arith, range_found s is)) (range_counts s is registry) refl

pub overflow_sub-result : goal.overflow_sub-result
overflow_sub-result c = (c.loop-length.invariant 0).inside

pub returns : goal.returns
returns c = λ registry. counting_end range_fits (c.loop-length.invariant registry) c.in_default.ensures
