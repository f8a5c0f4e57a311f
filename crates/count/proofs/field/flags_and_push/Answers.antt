-- The push of what follows the flags.
use native.Mathlib.Omega.{arith}
use Rattle.meaning.specs.Area.{inner_walk}
use Rattle.count.specs.LastCount.{heads_long, push_last}
use Rattle.count.proofs.field.flags_and_push.Goals as goal

pub returns : goal.returns
unfolding inner_walk
returns c =
    let v = c.args.value.now in
    let part = c.in-Some.ensures.lookup.0 in
    let walk = c.count_area.ensures in
    heads_long part.0 (omega (arith, part, c.with_rest.ensures.1, walk.few))
    (λ registry base. omega (arith, c.with_rest.ensures.0, push_last registry v base part.2 walk))
