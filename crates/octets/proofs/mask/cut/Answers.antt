-- The bits after the first are shifted out, and zeros in.
use native.Mathlib.Omega.{arith}
use Rattle.octets.specs.MaskLaws.{kept_shifted}
use Rattle.octets.proofs.mask.cut.Goals as goal

pub returns : goal.returns
returns c = kept_shifted c.args.bits c.args.x (omega arith)
