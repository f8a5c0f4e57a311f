-- The SID alone, an overrun, or an inner area.
use native.Mathlib.Omega.{arith}
use Rattle.meaning.specs.Area.{inner_walk}
use Rattle.count.specs.TailCount.{length_behind, bare_count, overrun_count, inner_count}
use Rattle.count.proofs.field.tail.Goals as goal

pub returns-in_default : goal.returns-in_default
returns-in_default c = (omega arith, bare_count c.args.value.now c.args.at c.requires.0 c.in_default.ensures.cases)

pub returns-in_default-get : goal.returns-in_default-get
returns-in_default-get c = (omega arith, overrun_count c.args.value.now c.args.at c.requires.0 c.in-Some.ensures.cases.0 (omega (arith, c.in_default-get.ensures.lookup)))

pub returns : goal.returns
unfolding inner_walk
returns c =
    let v = c.args.value.now in
    let part = c.in-Some-get.ensures.lookup.0 in
    let walk = c.count_area.ensures in (
      omega (arith, c.with_rest.ensures.1, walk.few, part, c.in-Some.ensures.cases.1, length_behind v c.args.at c.requires.0),
      λ registry base. omega (arith, c.with_rest.ensures.0, inner_count v c.args.at c.requires.0 c.in-Some.ensures.cases.0 part.2 part.1 walk registry base),
    )
