-- The octet and three of its bits, one after the other.
use Rattle.std.proofs.Common.{rules, refl}
use Rattle.tape.specs.Forest.{◌⧺◌}
use Rattle.registry.specs.Registry.{number_of}
use Rattle.store.specs.PenLaws.{writes_then, writes_none}
use Rattle.meaning.specs.Table.{table, fields_of, usual}
use Rattle.meaning.specs.TableLaws.{least_in, fields_in}
use Rattle.meaning.specs.Value.{field_end, field_trees, fields_trees, taken}
use Rattle.readings.specs.Reading.{reading_of}
use Rattle.readings.specs.ReadingLaws.{row_short, row_long}
use Rattle.readings.specs.Plain.{plain_room}
use Rattle.decoders.proofs.prefix.prefix_attributes.Goals as goal

pub returns-then-value-lt1 : goal.returns-then-value-lt1
unfolding usual fields_of table least_in fields_in
returns-then-value-lt1 g c = let v = c.args.value in row_short 1 4 (number_of v.registry) v.octets.now v.base.0 refl c.args.pen.now c.if-value-lt1.true

pub number-requires : goal.number-requires
unfolding usual fields_of table least_in fields_in
number-requires g c =
    let v = c.args.value in
    let room = plain_room 1 4 (number_of v.registry) v.octets.now v.base.0 c.args.pen.now refl c.if-value-lt1.false tt c.requires in
    search rules

pub flag-requires : goal.flag-requires
unfolding usual fields_of table least_in fields_in
flag-requires g c =
    let v = c.args.value in
    let room = plain_room 1 4 (number_of v.registry) v.octets.now v.base.0 c.args.pen.now refl c.if-value-lt1.false tt c.requires in
    search rules

pub flag-requires-2 : goal.flag-requires-2
unfolding usual fields_of table least_in fields_in
flag-requires-2 g c =
    let v = c.args.value in
    let room = plain_room 1 4 (number_of v.registry) v.octets.now v.base.0 c.args.pen.now refl c.if-value-lt1.false tt c.requires in
    search rules

pub flag-requires-3 : goal.flag-requires-3
unfolding usual fields_of table least_in fields_in
flag-requires-3 g c =
    let v = c.args.value in
    let room = plain_room 1 4 (number_of v.registry) v.octets.now v.base.0 c.args.pen.now refl c.if-value-lt1.false tt c.requires in
    search rules

pub returns : goal.returns
unfolding usual fields_of table least_in fields_in reading_of fields_trees field_trees taken field_end ◌⧺◌
returns g c =
    let v = c.args.value in
    row_long 1 4 (number_of v.registry) v.octets.now v.base.0 refl c.if-value-lt1.false (record { taken = refl; writes = writes_then c.number.ensures (writes_then c.flag.ensures (writes_then c.flag-2.ensures (writes_then c.flag-3.ensures writes_none))) })
