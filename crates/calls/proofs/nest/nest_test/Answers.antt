-- The header is in order where its records are looked at.
use mathlib.Core.Path.{sym, ◌∙◌}
use native.Mathlib.Omega.{arith}
use Rattle.tape.specs.HeaderLaws.{headed_in_order, used_inside}
use Rattle.calls.proofs.nest.nest_test.Goals as goal

pub used-requires : goal.used-requires
used-requires c = (headed_in_order _ (sym c.in_order.ensures ∙ c.if-in_order.true)).long

pub split-requires : goal.split-requires
split-requires c = omega (arith, used_inside _ (headed_in_order _ (sym c.in_order.ensures ∙ c.if-in_order.true)), c.used.ensures)
