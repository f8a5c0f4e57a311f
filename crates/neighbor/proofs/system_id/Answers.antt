-- No octets, and nothing is laid.
use Rattle.std.proofs.Common.{◌≡◌, arith}
use Rattle.store.specs.PenLaws.{writes_none}
use Rattle.neighbor.proofs.system_id.Goals as goal

pub returns-else-width-gt0 : goal.returns-else-width-gt0
returns-else-width-gt0 g c = let none : c.args.width ≡ 0 = omega (arith, c.if-width-gt0.false) in rw none writes_none
