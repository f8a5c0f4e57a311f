-- Type by type, and all that are not read.
use Rattle.std.proofs.Common.{refl, arith, rules}
use Rattle.meaning.specs.Label
use Rattle.meaning.specs.Shape.{u32, ipv4, ipv6}
use Rattle.meaning.specs.Table.{table, fields_of, usual}
use Rattle.meaning.specs.TableLaws.{least_in, fields_in}
use Rattle.readings.specs.RowsLaws.{bandwidth_types}
use Rattle.neighbor.specs.AloneLaws.{part_alone, unknown_alone}
use Rattle.neighbor.proofs.Rows.{same_type}
use Rattle.neighbor.proofs.alone.alone.Goals as goal

pub returns-in-3 : goal.returns-in-3
unfolding usual fields_of table least_in fields_in
returns-in-3 c = part_alone 3 c.args.kind c.args.value.now Label.admin_group u32 4 c.number_alone.result (same_type c.args.value.now c.in-3.is) refl refl (omega arith) c.number_alone.ensures

pub returns-in-6 : goal.returns-in-6
unfolding usual fields_of table least_in fields_in
returns-in-6 c = part_alone 6 c.args.kind c.args.value.now Label.ipv4_interface_address ipv4 4 c.address_alone.result (same_type c.args.value.now c.in-6.is) refl refl (omega arith) c.address_alone.ensures.told

pub returns-in-8 : goal.returns-in-8
unfolding usual fields_of table least_in fields_in
returns-in-8 c = part_alone 8 c.args.kind c.args.value.now Label.ipv4_neighbor_address ipv4 4 c.address_alone-in-8.result (same_type c.args.value.now c.in-8.is) refl refl (omega arith) c.address_alone-in-8.ensures.told

pub returns-in-9 : goal.returns-in-9
unfolding usual fields_of table least_in fields_in
returns-in-9 c = part_alone 9 c.args.kind c.args.value.now Label.max_bandwidth u32 4 c.number_alone-in-9.result (same_type c.args.value.now c.in-9.is) refl refl (omega arith) c.number_alone-in-9.ensures

pub returns-in-10 : goal.returns-in-10
unfolding usual fields_of table least_in fields_in
returns-in-10 c = part_alone 10 c.args.kind c.args.value.now Label.max_reservable_bandwidth u32 4 c.number_alone-in-10.result (same_type c.args.value.now c.in-10.is) refl refl (omega arith) c.number_alone-in-10.ensures

pub returns-in-12 : goal.returns-in-12
unfolding usual fields_of table least_in fields_in
returns-in-12 c =
    part_alone 12 c.args.kind c.args.value.now Label.ipv6_interface_address ipv6 16 c.address_alone-in-12.result (same_type c.args.value.now c.in-12.is) refl refl (omega arith) c.address_alone-in-12.ensures.told

pub returns-in-13 : goal.returns-in-13
unfolding usual fields_of table least_in fields_in
returns-in-13 c =
    part_alone 13 c.args.kind c.args.value.now Label.ipv6_neighbor_address ipv6 16 c.address_alone-in-13.result (same_type c.args.value.now c.in-13.is) refl refl (omega arith) c.address_alone-in-13.ensures.told

pub returns-in-18 : goal.returns-in-18
unfolding usual fields_of table least_in fields_in
returns-in-18 c = part_alone 18 c.args.kind c.args.value.now Label.te_default_metric u32 3 c.number_alone-in-18.result (same_type c.args.value.now c.in-18.is) refl refl (omega arith) c.number_alone-in-18.ensures

pub returns-in-37-to-39 : goal.returns-in-37-to-39
unfolding usual fields_of table least_in fields_in
returns-in-37-to-39 c =
    let call = c.number_alone-in-37-to-39 in
    part_alone 37 c.args.kind c.args.value.now Label.bandwidth u32 4 call.result (bandwidth_types c.args.kind c.args.value.now (omega arith) (omega arith)) refl refl (omega arith) call.ensures

pub returns-in_default : goal.returns-in_default
unfolding table
returns-in_default c = unknown_alone c.args.kind c.args.value.now (search rules)

pub returns-in_default-2 : goal.returns-in_default-2
unfolding table
returns-in_default-2 c = unknown_alone c.args.kind c.args.value.now (search rules)

pub returns-in_default-3 : goal.returns-in_default-3
unfolding table
returns-in_default-3 c = unknown_alone c.args.kind c.args.value.now (search rules)
