-- A value that is too short is not decoded.
use Rattle.readings.specs.ReadingLaws.{reads_short}
use Rattle.readings.proofs.address.Goals as goal

pub returns-then-value-width : goal.returns-then-value-width
returns-then-value-width g c = reads_short c.args.width c.args.value.octets.now _ c.args.pen.now c.if-value-width.true
