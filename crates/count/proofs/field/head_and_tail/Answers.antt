-- The tail.
use native.Mathlib.Omega.{arith}
use Rattle.count.specs.LastCount.{heads_long}
use Rattle.count.proofs.field.head_and_tail.Goals as goal

pub returns : goal.returns
returns c = heads_long c.if-value-at.false (omega (arith, c.tail.ensures.0)) (λ registry base. omega (arith, c.tail.ensures.1 registry base))
