-- Type by type, and all others.
use Rattle.std.proofs.Common.{refl, ap}
use Rattle.tape.specs.Forest.{◌⧺◌}
use Rattle.registry.specs.Registry.{number_of}
use Rattle.meaning.specs.Label
use Rattle.meaning.specs.Shape.{u32, u64}
use Rattle.meaning.specs.Field.{from}
use Rattle.meaning.specs.Table.{table, fields_of, usual}
use Rattle.meaning.specs.TableLaws.{least_in, fields_in}
use Rattle.meaning.specs.Value.{field_end, field_trees, fields_trees, taken}
use Rattle.readings.specs.Reading.{Reading, given, reading_of}
use Rattle.readings.specs.ReadingLaws.{asks_as, asks_type, asks_given, reads_as, of_type, of_unknown, row_given}
use Rattle.readings.specs.RowsLaws.{numbers_row}
use Rattle.decoders.proofs.prefix.prefix.Goals as goal

pub number_array-requires : goal.number_array-requires
unfolding usual fields_of table least_in fields_in
number_array-requires g c =
    let v = c.args.value in
    let r = number_of v.registry in
    let is = ap (λ (x : Reading). given 4 v.octets.now x) (numbers_row Label.tags (from 0) refl r v.octets.now v.base.0 Label.tag u32 4 refl) in
    (refl, asks_as c.args.pen.now is (asks_given 1 1 r v.octets.now v.base.0 refl c.args.pen.now (asks_type 1 1 r v.octets.now v.base.0 c.in-1.is c.args.pen.now c.requires.1)))

pub number_array-requires-in-2 : goal.number_array-requires-in-2
unfolding usual fields_of table least_in fields_in
number_array-requires-in-2 g c =
    let v = c.args.value in
    let r = number_of v.registry in
    let is = ap (λ (x : Reading). given 8 v.octets.now x) (numbers_row Label.tags (from 0) refl r v.octets.now v.base.0 Label.tag u64 8 refl) in
    (refl, asks_as c.args.pen.now is (asks_given 1 2 r v.octets.now v.base.0 refl c.args.pen.now (asks_type 1 2 r v.octets.now v.base.0 c.in-2.is c.args.pen.now c.requires.1)))

pub octet_and_sid-requires : goal.octet_and_sid-requires
unfolding usual fields_of table least_in fields_in reading_of fields_trees field_trees taken field_end ◌⧺◌
octet_and_sid-requires g c =
    let v = c.args.value in
    asks_given 1 3 (number_of v.registry) v.octets.now v.base.0 refl c.args.pen.now (asks_type 1 3 (number_of v.registry) v.octets.now v.base.0 c.in-3.is c.args.pen.now c.requires.1)

pub address-requires : goal.address-requires
unfolding usual fields_of table least_in fields_in reading_of fields_trees field_trees taken field_end ◌⧺◌
address-requires g c =
    let v = c.args.value in
    asks_given 1 11 (number_of v.registry) v.octets.now v.base.0 refl c.args.pen.now (asks_type 1 11 (number_of v.registry) v.octets.now v.base.0 c.in-11.is c.args.pen.now c.requires.1)

pub address-requires-in-12 : goal.address-requires-in-12
unfolding usual fields_of table least_in fields_in reading_of fields_trees field_trees taken field_end ◌⧺◌
address-requires-in-12 g c =
    let v = c.args.value in
    asks_given 1 12 (number_of v.registry) v.octets.now v.base.0 refl c.args.pen.now (asks_type 1 12 (number_of v.registry) v.octets.now v.base.0 c.in-12.is c.args.pen.now c.requires.1)

pub returns-in-1 : goal.returns-in-1
unfolding usual fields_of table least_in fields_in
returns-in-1 g c =
    let v = c.args.value in
    let r = number_of v.registry in
    let is = ap (λ (x : Reading). given 4 v.octets.now x) (numbers_row Label.tags (from 0) refl r v.octets.now v.base.0 Label.tag u32 4 refl) in
    of_type 1 1 r v.octets.now v.base.0 c.in-1.is (row_given 1 1 r v.octets.now v.base.0 refl (reads_as is c.number_array.ensures))

pub returns-in-2 : goal.returns-in-2
unfolding usual fields_of table least_in fields_in
returns-in-2 g c =
    let v = c.args.value in
    let r = number_of v.registry in
    let is = ap (λ (x : Reading). given 8 v.octets.now x) (numbers_row Label.tags (from 0) refl r v.octets.now v.base.0 Label.tag u64 8 refl) in
    of_type 1 2 r v.octets.now v.base.0 c.in-2.is (row_given 1 2 r v.octets.now v.base.0 refl (reads_as is c.number_array-in-2.ensures))

pub returns-in-3 : goal.returns-in-3
unfolding usual fields_of table least_in fields_in reading_of fields_trees field_trees taken field_end ◌⧺◌
returns-in-3 g c =
    let v = c.args.value in
    of_type 1 3 (number_of v.registry) v.octets.now v.base.0 c.in-3.is (row_given 1 3 (number_of v.registry) v.octets.now v.base.0 refl c.octet_and_sid.ensures)

pub returns-in-11 : goal.returns-in-11
unfolding usual fields_of table least_in fields_in reading_of fields_trees field_trees taken field_end ◌⧺◌
returns-in-11 g c =
    let v = c.args.value in
    of_type 1 11 (number_of v.registry) v.octets.now v.base.0 c.in-11.is (row_given 1 11 (number_of v.registry) v.octets.now v.base.0 refl c.address.ensures)

pub returns-in-12 : goal.returns-in-12
unfolding usual fields_of table least_in fields_in reading_of fields_trees field_trees taken field_end ◌⧺◌
returns-in-12 g c =
    let v = c.args.value in
    of_type 1 12 (number_of v.registry) v.octets.now v.base.0 c.in-12.is (row_given 1 12 (number_of v.registry) v.octets.now v.base.0 refl c.address-in-12.ensures)

pub returns-in_default : goal.returns-in_default
unfolding table
returns-in_default g c =
    let v = c.args.value in
    let r = c.in_default.in_default-own.rest in
    of_unknown 1 c.args.kind (number_of v.registry) v.octets.now v.base.0 c.args.pen.now (r.0.0.0.0.0.1, (r.0.0.0.0.1, (r.0.0.0.1, (r.0.0.1, (c.requires.0, (r.0.1, (r.1, tt)))))))
