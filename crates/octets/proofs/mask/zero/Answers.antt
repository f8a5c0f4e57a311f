-- The loop: after i turns the first i octets are 0.
use mathlib.Core.Path.{◌∙◌}
use native.Mathlib.Omega.{arith}
use lib.ListN.{length, replicate}
use lib.Seq.{paste-zero}
use Rattle.octets.specs.CopyLaws.{zero_place, zeroed}
use Rattle.octets.proofs.mask.zero.Goals as goal

pub loop-i-init : goal.loop-i-init
loop-i-init c = let xs = c.args.octets.now in paste-zero xs 0 (replicate (length xs) 0)

pub loop-i-preserved : goal.loop-i-preserved
loop-i-preserved c = let l = c.loop-i in zero_place c.args.octets.now l.octets l.i (omega arith) (omega arith) l.invariant

pub returns : goal.returns
returns c = let l = c.loop-i in l.invariant ∙ zeroed c.args.octets.now l.i (omega arith)
