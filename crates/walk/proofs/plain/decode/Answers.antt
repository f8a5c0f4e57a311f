-- No type of registry 5 is read.
use Rattle.std.proofs.Common.{ap}
use Rattle.registry.specs.Registry.{number_of}
use Rattle.registry.specs.declared.Registry.{Registry}
use Rattle.meaning.specs.Table.{table}
use Rattle.readings.specs.Reading.{reading}
use Rattle.readings.specs.ReadingLaws.{of_unknown, reads_as}
use Rattle.walk.specs.PlainLaws.{neither_read}
use Rattle.walk.proofs.plain.decode.Goals as goal

pub returns-in_default : goal.returns-in_default
unfolding table
returns-in_default g c =
    let v = c.args.value in
    let last = neither_read v.registry c.requires.0 c.in_default.not-Binding c.in_default.not-Srv6Sid in
    reads_as (ap (λ (r : Registry). reading (number_of r) c.args.kind v.octets.now v.base.0) last) (of_unknown 5 c.args.kind 5 v.octets.now v.base.0 c.args.pen.now tt)
