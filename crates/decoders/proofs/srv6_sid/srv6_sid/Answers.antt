-- Type 1, and all others.
use Rattle.registry.specs.Registry.{number_of}
use Rattle.meaning.specs.Table.{table}
use Rattle.readings.specs.ReadingLaws.{of_unknown}
use Rattle.decoders.proofs.srv6_sid.srv6_sid.Goals as goal

pub returns-in_default : goal.returns-in_default
unfolding table
returns-in_default g c =
    let v = c.args.value in
    let r = c.in_default.in_default-own.rest in
    of_unknown 4 c.args.kind (number_of v.registry) v.octets.now v.base.0 c.args.pen.now (r.1, tt)
