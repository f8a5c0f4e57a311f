-- The ranges behind the flags.
use native.Mathlib.Omega.{arith}
use Rattle.count.specs.LastCount.{heads_long, ranges_last}
use Rattle.count.proofs.field.flags_and_ranges.Goals as goal

pub with_rest-requires : goal.with_rest-requires
with_rest-requires c = omega (arith, c.in-Some.ensures.lookup.0, (c.ranges-2.ensures 0).few)

pub overflow_add-result : goal.overflow_add-result
overflow_add-result c = omega (arith, c.in-Some.ensures.lookup.0, c.with_rest.ensures.1, (c.ranges-2.ensures 0).few)

pub returns : goal.returns
returns c =
    let v = c.args.value.now in
    let part = c.in-Some.ensures.lookup.0 in
    heads_long part.0 (omega (arith, part, c.with_rest.ensures.1, (c.ranges-2.ensures 0).few))
    (λ registry base. omega (arith, c.with_rest.ensures.0, ranges_last registry v base part.0 part.2 (c.ranges-2.ensures registry)))
