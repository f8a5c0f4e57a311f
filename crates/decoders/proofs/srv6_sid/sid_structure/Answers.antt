-- Four numbers, one after the other.
use Rattle.std.proofs.Common.{rules, refl}
use Rattle.tape.specs.Forest.{◌⧺◌}
use Rattle.registry.specs.Registry.{number_of}
use Rattle.store.specs.PenLaws.{writes_then, writes_none}
use Rattle.meaning.specs.Table.{table, fields_of, usual}
use Rattle.meaning.specs.TableLaws.{least_in, fields_in}
use Rattle.meaning.specs.Value.{field_end, field_trees, fields_trees, taken}
use Rattle.readings.specs.Reading.{reading_of}
use Rattle.readings.specs.ReadingLaws.{row_short, row_long}
use Rattle.readings.specs.Plain.{plain_room}
use Rattle.decoders.proofs.srv6_sid.sid_structure.Goals as goal

pub returns-then-value-lt4 : goal.returns-then-value-lt4
unfolding usual fields_of table least_in fields_in
returns-then-value-lt4 g c = let v = c.args.value in row_short 4 1 (number_of v.registry) v.octets.now v.base.0 refl c.args.pen.now c.if-value-lt4.true

pub number-requires : goal.number-requires
unfolding usual fields_of table least_in fields_in
number-requires g c =
    let v = c.args.value in
    let room = plain_room 4 1 (number_of v.registry) v.octets.now v.base.0 c.args.pen.now refl c.if-value-lt4.false tt c.requires in
    search rules

pub number-requires-2 : goal.number-requires-2
unfolding usual fields_of table least_in fields_in
number-requires-2 g c =
    let v = c.args.value in
    let room = plain_room 4 1 (number_of v.registry) v.octets.now v.base.0 c.args.pen.now refl c.if-value-lt4.false tt c.requires in
    search rules

pub number-requires-3 : goal.number-requires-3
unfolding usual fields_of table least_in fields_in
number-requires-3 g c =
    let v = c.args.value in
    let room = plain_room 4 1 (number_of v.registry) v.octets.now v.base.0 c.args.pen.now refl c.if-value-lt4.false tt c.requires in
    search rules

pub number-requires-4 : goal.number-requires-4
unfolding usual fields_of table least_in fields_in
number-requires-4 g c =
    let v = c.args.value in
    let room = plain_room 4 1 (number_of v.registry) v.octets.now v.base.0 c.args.pen.now refl c.if-value-lt4.false tt c.requires in
    search rules

pub returns : goal.returns
unfolding usual fields_of table least_in fields_in reading_of fields_trees field_trees taken field_end ◌⧺◌
returns g c =
    let v = c.args.value in
    row_long 4 1 (number_of v.registry) v.octets.now v.base.0 refl c.if-value-lt4.false (record { taken = refl; writes = writes_then c.number.ensures (writes_then c.number-2.ensures (writes_then c.number-3.ensures (writes_then c.number-4.ensures writes_none))) })
