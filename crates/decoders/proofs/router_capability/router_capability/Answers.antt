-- Type by type, and all others.
use Rattle.std.specs.Prelude.{Some}
use Rattle.std.proofs.Common.{refl, ap, arith, inl, inr}
use Rattle.tape.specs.Forest.{◌⧺◌}
use Rattle.registry.specs.Registry.{number_of}
use Rattle.meaning.specs.Label
use Rattle.meaning.specs.Shape.{u8}
use Rattle.meaning.specs.Field.{from, msds}
use Rattle.meaning.specs.Table.{table, fields_of, usual}
use Rattle.meaning.specs.TableLaws.{least_in, fields_in}
use Rattle.meaning.specs.Value.{field_end, field_trees, fields_trees, taken}
use Rattle.readings.specs.Reading.{Reading, given, reading_of}
use Rattle.readings.specs.ReadingLaws.{asks_as, asks_type, asks_given, asks_fields, reads_as, of_type, of_unknown, row_given, row_long}
use Rattle.readings.specs.RowsLaws.{numbers_row, array_row, ranges_types}
use Rattle.decoders.proofs.router_capability.router_capability.Goals as goal

pub flags_and_ranges-requires : goal.flags_and_ranges-requires
flags_and_ranges-requires g c =
    let v = c.args.value in
    asks_as c.args.pen.now (ap (reading_of (number_of v.registry) v.octets.now v.base.0) (ranges_types c.args.kind v.octets.now c.in-2.is)) c.requires.1

pub address-requires : goal.address-requires
unfolding usual fields_of table least_in fields_in reading_of fields_trees field_trees taken field_end ◌⧺◌
address-requires g c =
    let v = c.args.value in
    asks_given 2 11 (number_of v.registry) v.octets.now v.base.0 refl c.args.pen.now (asks_type 2 11 (number_of v.registry) v.octets.now v.base.0 c.in-11.is c.args.pen.now c.requires.1)

pub address-requires-in-12 : goal.address-requires-in-12
unfolding usual fields_of table least_in fields_in reading_of fields_trees field_trees taken field_end ◌⧺◌
address-requires-in-12 g c =
    let v = c.args.value in
    asks_given 2 12 (number_of v.registry) v.octets.now v.base.0 refl c.args.pen.now (asks_type 2 12 (number_of v.registry) v.octets.now v.base.0 c.in-12.is c.args.pen.now c.requires.1)

pub number_array-requires : goal.number_array-requires
unfolding usual fields_of table least_in fields_in
number_array-requires g c =
    let v = c.args.value in
    let r = number_of v.registry in
    let is = ap (λ (x : Reading). given 0 v.octets.now x) (numbers_row Label.algorithms (from 0) refl r v.octets.now v.base.0 Label.algorithm_element u8 1 refl) in
    (refl, asks_as c.args.pen.now is (asks_given 2 19 r v.octets.now v.base.0 refl c.args.pen.now (asks_type 2 19 r v.octets.now v.base.0 c.in-19.is c.args.pen.now c.requires.1)))

pub array-requires : goal.array-requires
unfolding usual fields_of table least_in fields_in
array-requires g c =
    let v = c.args.value in
    let r = number_of v.registry in
    let is = array_row Label.msds (from 0) refl r v.octets.now v.base.0 msds in
    asks_as c.args.pen.now is (asks_fields 2 23 r v.octets.now v.base.0 refl c.args.pen.now (omega arith) (asks_type 2 23 r v.octets.now v.base.0 c.in-23.is c.args.pen.now c.requires.1))

pub one_number-requires : goal.one_number-requires
unfolding usual fields_of table least_in fields_in reading_of fields_trees field_trees taken field_end ◌⧺◌
one_number-requires g c =
    let v = c.args.value in
    let r = number_of v.registry in
    (refl, omega arith, asks_given 2 24 r v.octets.now v.base.0 refl c.args.pen.now (asks_type 2 24 r v.octets.now v.base.0 c.in-24.is c.args.pen.now c.requires.1))

pub returns-in-2 : goal.returns-in-2
returns-in-2 g c =
    let v = c.args.value in
    reads_as (ap (reading_of (number_of v.registry) v.octets.now v.base.0) (ranges_types c.args.kind v.octets.now c.in-2.is)) c.flags_and_ranges.ensures

pub returns-in-11 : goal.returns-in-11
unfolding usual fields_of table least_in fields_in reading_of fields_trees field_trees taken field_end ◌⧺◌
returns-in-11 g c =
    let v = c.args.value in
    of_type 2 11 (number_of v.registry) v.octets.now v.base.0 c.in-11.is (row_given 2 11 (number_of v.registry) v.octets.now v.base.0 refl c.address.ensures)

pub returns-in-12 : goal.returns-in-12
unfolding usual fields_of table least_in fields_in reading_of fields_trees field_trees taken field_end ◌⧺◌
returns-in-12 g c =
    let v = c.args.value in
    of_type 2 12 (number_of v.registry) v.octets.now v.base.0 c.in-12.is (row_given 2 12 (number_of v.registry) v.octets.now v.base.0 refl c.address-in-12.ensures)

pub returns-in-19 : goal.returns-in-19
unfolding usual fields_of table least_in fields_in
returns-in-19 g c =
    let v = c.args.value in
    let r = number_of v.registry in
    let is = ap (λ (x : Reading). given 0 v.octets.now x) (numbers_row Label.algorithms (from 0) refl r v.octets.now v.base.0 Label.algorithm_element u8 1 refl) in
    of_type 2 19 r v.octets.now v.base.0 c.in-19.is (row_given 2 19 r v.octets.now v.base.0 refl (reads_as is c.number_array.ensures))

pub returns-in-23 : goal.returns-in-23
unfolding usual fields_of table least_in fields_in
returns-in-23 g c =
    let v = c.args.value in
    let r = number_of v.registry in
    let is = array_row Label.msds (from 0) refl r v.octets.now v.base.0 msds in
    of_type 2 23 r v.octets.now v.base.0 c.in-23.is (row_long 2 23 r v.octets.now v.base.0 refl (omega arith) (reads_as is (record { taken = ap Some c.array.ensures.covers; writes = c.array.ensures.writes })))

pub returns-in-24 : goal.returns-in-24
unfolding usual fields_of table least_in fields_in reading_of fields_trees field_trees taken field_end ◌⧺◌
returns-in-24 g c =
    let v = c.args.value in
    of_type 2 24 (number_of v.registry) v.octets.now v.base.0 c.in-24.is (row_given 2 24 (number_of v.registry) v.octets.now v.base.0 refl c.one_number.ensures)

pub returns-in_default : goal.returns-in_default
unfolding table
returns-in_default g c =
    let v = c.args.value in
    let r = c.in_default.in_default-own.rest in
    of_unknown 2 c.args.kind (number_of v.registry) v.octets.now v.base.0 c.args.pen.now ((λ e. r.0.0.0.0.0.1 (inl e)), ((λ e. r.0.0.0.0.0.1 (inr e)), (r.0.0.0.0.1, (r.0.0.0.1, (r.0.0.1, (r.0.1, (r.1, (c.requires.0, tt))))))))
