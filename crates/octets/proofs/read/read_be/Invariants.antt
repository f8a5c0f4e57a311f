-- The number in the octets that were read.
use Rattle.std.proofs.Common.{◌≡◌, ◌<◌, ◌^◌}
use Rattle.octets.specs.BigEndian.{big_endian}
use Rattle.octets.proofs.read.read_be.Given as goal

abbrev pub invariant-loop-i : goal.invariant-loop-i
invariant-loop-i g l = (l.number ≡ big_endian l.fn.s l.fn.at l.i) × (l.number < 256 ^ l.i)
