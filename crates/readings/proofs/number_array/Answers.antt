-- A value that is too short is not decoded.
use Rattle.readings.specs.ReadingLaws.{reads_short}
use Rattle.readings.proofs.number_array.Goals as goal

pub returns-then-value-least : goal.returns-then-value-least
returns-then-value-least g c = reads_short c.args.least c.args.value.octets.now _ c.args.pen.now c.if-value-least.true
