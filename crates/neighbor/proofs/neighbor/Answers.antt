-- Type by type, the range, and all others.
use Rattle.std.proofs.Common.{refl, arith, rules}
use Rattle.tape.specs.Forest.{◌⧺◌}
use Rattle.meaning.specs.Table.{table, fields_of, usual}
use Rattle.meaning.specs.TableLaws.{least_in, fields_in}
use Rattle.meaning.specs.Value.{field_end, field_trees, fields_trees, taken}
use Rattle.registry.specs.Registry.{number_of}
use Rattle.readings.specs.Reading.{reading_of}
use Rattle.readings.specs.ReadingLaws.{of_unknown}
use Rattle.readings.specs.RowsLaws.{bandwidth_types}
use Rattle.neighbor.proofs.Rows.{same_type, arm_asks, arm_reads}
use Rattle.neighbor.proofs.neighbor.Goals as goal

pub one_number-requires : goal.one_number-requires
unfolding usual fields_of table least_in fields_in reading_of fields_trees field_trees taken field_end ◌⧺◌
one_number-requires g c = (refl, omega arith, arm_asks 3 c.args.kind c.args.value (same_type c.args.value.octets.now c.in-3.is) refl c.args.pen.now c.requires.2)

pub address-requires : goal.address-requires
unfolding usual fields_of table least_in fields_in reading_of fields_trees field_trees taken field_end ◌⧺◌
address-requires g c = arm_asks 6 c.args.kind c.args.value (same_type c.args.value.octets.now c.in-6.is) refl c.args.pen.now c.requires.2

pub address-requires-in-8 : goal.address-requires-in-8
unfolding usual fields_of table least_in fields_in reading_of fields_trees field_trees taken field_end ◌⧺◌
address-requires-in-8 g c = arm_asks 8 c.args.kind c.args.value (same_type c.args.value.octets.now c.in-8.is) refl c.args.pen.now c.requires.2

pub one_number-requires-in-9 : goal.one_number-requires-in-9
unfolding usual fields_of table least_in fields_in reading_of fields_trees field_trees taken field_end ◌⧺◌
one_number-requires-in-9 g c = (refl, omega arith, arm_asks 9 c.args.kind c.args.value (same_type c.args.value.octets.now c.in-9.is) refl c.args.pen.now c.requires.2)

pub one_number-requires-in-10 : goal.one_number-requires-in-10
unfolding usual fields_of table least_in fields_in reading_of fields_trees field_trees taken field_end ◌⧺◌
one_number-requires-in-10 g c = (refl, omega arith, arm_asks 10 c.args.kind c.args.value (same_type c.args.value.octets.now c.in-10.is) refl c.args.pen.now c.requires.2)

pub address-requires-in-12 : goal.address-requires-in-12
unfolding usual fields_of table least_in fields_in reading_of fields_trees field_trees taken field_end ◌⧺◌
address-requires-in-12 g c = arm_asks 12 c.args.kind c.args.value (same_type c.args.value.octets.now c.in-12.is) refl c.args.pen.now c.requires.2

pub address-requires-in-13 : goal.address-requires-in-13
unfolding usual fields_of table least_in fields_in reading_of fields_trees field_trees taken field_end ◌⧺◌
address-requires-in-13 g c = arm_asks 13 c.args.kind c.args.value (same_type c.args.value.octets.now c.in-13.is) refl c.args.pen.now c.requires.2

pub one_number-requires-in-18 : goal.one_number-requires-in-18
unfolding usual fields_of table least_in fields_in reading_of fields_trees field_trees taken field_end ◌⧺◌
one_number-requires-in-18 g c = (refl, omega arith, arm_asks 18 c.args.kind c.args.value (same_type c.args.value.octets.now c.in-18.is) refl c.args.pen.now c.requires.2)

pub octet_and_sid-requires : goal.octet_and_sid-requires
unfolding usual fields_of table least_in fields_in reading_of fields_trees field_trees taken field_end ◌⧺◌
octet_and_sid-requires g c = arm_asks 31 c.args.kind c.args.value (same_type c.args.value.octets.now c.in-31.is) refl c.args.pen.now c.requires.2

pub flag_and_number-requires : goal.flag_and_number-requires
unfolding usual fields_of table least_in fields_in reading_of fields_trees field_trees taken field_end ◌⧺◌
flag_and_number-requires g c = arm_asks 33 c.args.kind c.args.value (same_type c.args.value.octets.now c.in-33.is) refl c.args.pen.now c.requires.2

pub one_number-requires-in-35 : goal.one_number-requires-in-35
unfolding usual fields_of table least_in fields_in reading_of fields_trees field_trees taken field_end ◌⧺◌
one_number-requires-in-35 g c = (refl, omega arith, arm_asks 35 c.args.kind c.args.value (same_type c.args.value.octets.now c.in-35.is) refl c.args.pen.now c.requires.2)

pub flag_and_number-requires-in-36 : goal.flag_and_number-requires-in-36
unfolding usual fields_of table least_in fields_in reading_of fields_trees field_trees taken field_end ◌⧺◌
flag_and_number-requires-in-36 g c = arm_asks 36 c.args.kind c.args.value (same_type c.args.value.octets.now c.in-36.is) refl c.args.pen.now c.requires.2

pub one_number-requires-in-37-to-39 : goal.one_number-requires-in-37-to-39
unfolding usual fields_of table least_in fields_in reading_of fields_trees field_trees taken field_end ◌⧺◌
one_number-requires-in-37-to-39 g c =
    (refl, omega arith, arm_asks 37 c.args.kind c.args.value (bandwidth_types c.args.kind c.args.value.octets.now (omega arith) (omega arith)) refl c.args.pen.now c.requires.2)

pub returns-in-3 : goal.returns-in-3
unfolding usual fields_of table least_in fields_in reading_of fields_trees field_trees taken field_end ◌⧺◌
returns-in-3 g c = arm_reads 3 c.args.kind c.args.value (same_type c.args.value.octets.now c.in-3.is) refl c.one_number.ensures

pub returns-in-6 : goal.returns-in-6
unfolding usual fields_of table least_in fields_in reading_of fields_trees field_trees taken field_end ◌⧺◌
returns-in-6 g c = arm_reads 6 c.args.kind c.args.value (same_type c.args.value.octets.now c.in-6.is) refl c.address.ensures

pub returns-in-8 : goal.returns-in-8
unfolding usual fields_of table least_in fields_in reading_of fields_trees field_trees taken field_end ◌⧺◌
returns-in-8 g c = arm_reads 8 c.args.kind c.args.value (same_type c.args.value.octets.now c.in-8.is) refl c.address-in-8.ensures

pub returns-in-9 : goal.returns-in-9
unfolding usual fields_of table least_in fields_in reading_of fields_trees field_trees taken field_end ◌⧺◌
returns-in-9 g c = arm_reads 9 c.args.kind c.args.value (same_type c.args.value.octets.now c.in-9.is) refl c.one_number-in-9.ensures

pub returns-in-10 : goal.returns-in-10
unfolding usual fields_of table least_in fields_in reading_of fields_trees field_trees taken field_end ◌⧺◌
returns-in-10 g c = arm_reads 10 c.args.kind c.args.value (same_type c.args.value.octets.now c.in-10.is) refl c.one_number-in-10.ensures

pub returns-in-12 : goal.returns-in-12
unfolding usual fields_of table least_in fields_in reading_of fields_trees field_trees taken field_end ◌⧺◌
returns-in-12 g c = arm_reads 12 c.args.kind c.args.value (same_type c.args.value.octets.now c.in-12.is) refl c.address-in-12.ensures

pub returns-in-13 : goal.returns-in-13
unfolding usual fields_of table least_in fields_in reading_of fields_trees field_trees taken field_end ◌⧺◌
returns-in-13 g c = arm_reads 13 c.args.kind c.args.value (same_type c.args.value.octets.now c.in-13.is) refl c.address-in-13.ensures

pub returns-in-18 : goal.returns-in-18
unfolding usual fields_of table least_in fields_in reading_of fields_trees field_trees taken field_end ◌⧺◌
returns-in-18 g c = arm_reads 18 c.args.kind c.args.value (same_type c.args.value.octets.now c.in-18.is) refl c.one_number-in-18.ensures

pub returns-in-31 : goal.returns-in-31
unfolding usual fields_of table least_in fields_in reading_of fields_trees field_trees taken field_end ◌⧺◌
returns-in-31 g c = arm_reads 31 c.args.kind c.args.value (same_type c.args.value.octets.now c.in-31.is) refl c.octet_and_sid.ensures

pub returns-in-33 : goal.returns-in-33
unfolding usual fields_of table least_in fields_in reading_of fields_trees field_trees taken field_end ◌⧺◌
returns-in-33 g c = arm_reads 33 c.args.kind c.args.value (same_type c.args.value.octets.now c.in-33.is) refl c.flag_and_number.ensures

pub returns-in-35 : goal.returns-in-35
unfolding usual fields_of table least_in fields_in reading_of fields_trees field_trees taken field_end ◌⧺◌
returns-in-35 g c = arm_reads 35 c.args.kind c.args.value (same_type c.args.value.octets.now c.in-35.is) refl c.one_number-in-35.ensures

pub returns-in-36 : goal.returns-in-36
unfolding usual fields_of table least_in fields_in reading_of fields_trees field_trees taken field_end ◌⧺◌
returns-in-36 g c = arm_reads 36 c.args.kind c.args.value (same_type c.args.value.octets.now c.in-36.is) refl c.flag_and_number-in-36.ensures

pub returns-in-37-to-39 : goal.returns-in-37-to-39
unfolding usual fields_of table least_in fields_in reading_of fields_trees field_trees taken field_end ◌⧺◌
returns-in-37-to-39 g c = arm_reads 37 c.args.kind c.args.value (bandwidth_types c.args.kind c.args.value.octets.now (omega arith) (omega arith)) refl c.one_number-in-37-to-39.ensures

pub returns-in_default : goal.returns-in_default
unfolding table
returns-in_default g c = let v = c.args.value in of_unknown 0 c.args.kind (number_of v.registry) v.octets.now v.base.0 c.args.pen.now (search rules)

pub returns-in_default-2 : goal.returns-in_default-2
unfolding table
returns-in_default-2 g c = let v = c.args.value in of_unknown 0 c.args.kind (number_of v.registry) v.octets.now v.base.0 c.args.pen.now (search rules)
