-- Type by type, and all others.
use Rattle.std.proofs.Common.{refl}
use Rattle.tape.specs.Forest.{◌⧺◌}
use Rattle.registry.specs.Registry.{number_of}
use Rattle.meaning.specs.Table.{table, fields_of, usual}
use Rattle.meaning.specs.TableLaws.{least_in, fields_in}
use Rattle.meaning.specs.Value.{field_end, field_trees, fields_trees, taken}
use Rattle.readings.specs.Reading.{reading_of}
use Rattle.readings.specs.ReadingLaws.{asks_type, asks_given, of_type, of_unknown, row_given}
use Rattle.decoders.proofs.binding.binding.Goals as goal

pub octet_and_sid-requires : goal.octet_and_sid-requires
unfolding usual fields_of table least_in fields_in reading_of fields_trees field_trees taken field_end ◌⧺◌
octet_and_sid-requires g c =
    let v = c.args.value in
    asks_given 3 3 (number_of v.registry) v.octets.now v.base.0 refl c.args.pen.now (asks_type 3 3 (number_of v.registry) v.octets.now v.base.0 c.in-3.is c.args.pen.now c.requires)

pub returns-in-3 : goal.returns-in-3
unfolding usual fields_of table least_in fields_in reading_of fields_trees field_trees taken field_end ◌⧺◌
returns-in-3 g c =
    let v = c.args.value in
    of_type 3 3 (number_of v.registry) v.octets.now v.base.0 c.in-3.is (row_given 3 3 (number_of v.registry) v.octets.now v.base.0 refl c.octet_and_sid.ensures)

pub returns-in_default : goal.returns-in_default
unfolding table
returns-in_default g c =
    let v = c.args.value in
    let r = c.in_default.in_default-own.rest in
    of_unknown 3 c.args.kind (number_of v.registry) v.octets.now v.base.0 c.args.pen.now (r.1, (r.0.1, tt))
