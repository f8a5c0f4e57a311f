-- After i turns the first i octets are 0.
use mathlib.Core.Path.{◌≡◌}
use lib.ListN.{length, replicate}
use lib.Seq.{paste}
use Rattle.octets.proofs.mask.zero.Given as goal

abbrev pub invariant-loop-i : goal.invariant-loop-i
invariant-loop-i l = l.octets ≡ paste l.initial.octets 0 (replicate (length l.initial.octets) 0) l.i
