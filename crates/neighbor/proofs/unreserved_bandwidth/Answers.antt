-- The array over the first 32 octets.
use Rattle.std.proofs.Common.{refl, ap, Some}
use Rattle.registry.specs.Registry.{number_of}
use Rattle.meaning.specs.Label
use Rattle.meaning.specs.Shape.{u32}
use Rattle.meaning.specs.Field.{first}
use Rattle.meaning.specs.Table.{table, fields_of, usual}
use Rattle.meaning.specs.TableLaws.{least_in, fields_in}
use Rattle.readings.specs.ReadingLaws.{asks_fields, reads_as, asks_as}
use Rattle.readings.specs.RowsLaws.{numbers_row}
use Rattle.neighbor.proofs.Rows.{short, long}
use Rattle.neighbor.proofs.unreserved_bandwidth.Goals as goal

pub returns-then-value-lt32 : goal.returns-then-value-lt32
unfolding usual fields_of table least_in fields_in
returns-then-value-lt32 g c = short 11 c.args.value refl c.args.pen.now c.if-value-lt32.true

pub array-requires : goal.array-requires
unfolding usual fields_of table least_in fields_in
array-requires g c =
    let v = c.args.value in
    let row = numbers_row Label.unreserved_bandwidth (first 32) refl (number_of v.registry) v.octets.now v.base.0 Label.bandwidth_element u32 4 refl in
    rw (c.first.ensures.octets, c.first.ensures.base, c.first.ensures.registry) (asks_as c.args.pen.now row (asks_fields 0 11 (number_of v.registry) v.octets.now v.base.0 refl c.args.pen.now c.if-value-lt32.false c.requires))

pub returns : goal.returns
unfolding usual fields_of table least_in fields_in
returns g c =
    let v = c.args.value in
    let row = numbers_row Label.unreserved_bandwidth (first 32) refl (number_of v.registry) v.octets.now v.base.0 Label.bandwidth_element u32 4 refl in
    long 11 v refl c.if-value-lt32.false
    (reads_as row (record { taken = ap Some (rw (c.first.ensures.octets) at c.array.ensures.covers); writes = rw (c.first.ensures.octets, c.first.ensures.base, c.first.ensures.registry) at c.array.ensures.writes }))
