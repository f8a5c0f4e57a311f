-- The bit and two numbers, one after the other.
use Rattle.std.proofs.Common.{rules, refl}
use Rattle.tape.specs.Forest.{◌⧺◌}
use Rattle.store.specs.PenLaws.{writes_then, writes_none}
use Rattle.meaning.specs.Table.{table, fields_of, usual}
use Rattle.meaning.specs.TableLaws.{least_in, fields_in}
use Rattle.meaning.specs.Value.{field_end, field_trees, fields_trees, taken}
use Rattle.readings.specs.Reading.{reading_of}
use Rattle.neighbor.proofs.Rows.{short, long, room}
use Rattle.neighbor.proofs.min_max_delay.Goals as goal

pub returns-then-value-lt8 : goal.returns-then-value-lt8
unfolding usual fields_of table least_in fields_in
returns-then-value-lt8 g c = short 34 c.args.value refl c.args.pen.now c.if-value-lt8.true

pub flag-requires : goal.flag-requires
unfolding usual fields_of table least_in fields_in
flag-requires g c =
    let left = room 34 c.args.value refl c.args.pen.now c.if-value-lt8.false tt c.requires in
    search rules

pub number-requires : goal.number-requires
unfolding usual fields_of table least_in fields_in
number-requires g c =
    let left = room 34 c.args.value refl c.args.pen.now c.if-value-lt8.false tt c.requires in
    search rules

pub number-requires-2 : goal.number-requires-2
unfolding usual fields_of table least_in fields_in
number-requires-2 g c =
    let left = room 34 c.args.value refl c.args.pen.now c.if-value-lt8.false tt c.requires in
    search rules

pub returns : goal.returns
unfolding usual fields_of table least_in fields_in reading_of fields_trees field_trees taken field_end ◌⧺◌
returns g c = long 34 c.args.value refl c.if-value-lt8.false (record { taken = refl; writes = writes_then c.flag.ensures (writes_then c.number.ensures (writes_then c.number-2.ensures writes_none)) })
