-- A value that is too short is not decoded.
use Rattle.std.proofs.Common.{◌+◌}
use Rattle.readings.specs.ReadingLaws.{reads_short}
use Rattle.readings.proofs.one_number.Goals as goal

pub returns-then-value-at : goal.returns-then-value-at
returns-then-value-at g c = reads_short (c.args.at + g.row.WIDTH) c.args.value.octets.now _ c.args.pen.now c.if-value-at.true
