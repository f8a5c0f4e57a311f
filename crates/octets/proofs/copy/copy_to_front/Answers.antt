-- The loop: after i turns the first i octets are those of `from`.
use mathlib.Core.Path.{◌∙◌}
use native.Mathlib.Omega.{arith}
use lib.Seq.{paste-zero}
use Rattle.octets.specs.CopyLaws.{copy_more, copied}
use Rattle.octets.proofs.copy.copy_to_front.Goals as goal

pub loop-i-init : goal.loop-i-init
loop-i-init c = paste-zero c.args.to.now 0 c.args.from.now

pub loop-i-preserved : goal.loop-i-preserved
loop-i-preserved c = let a = c.args in rw c.loop-i.invariant (copy_more a.to.now a.from.now c.loop-i.i (omega arith) (omega arith))

pub returns : goal.returns
returns c = let a = c.args in c.loop-i.invariant ∙ copied a.to.now a.from.now c.loop-i.i (omega arith)
