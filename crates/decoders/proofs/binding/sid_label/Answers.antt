-- The SID alone.
use Rattle.std.proofs.Common.{rules, refl, ap, sym, arith, ◌∙◌}
use Rattle.std.specs.Prelude.{Some}
use Rattle.tape.specs.Forest.{◌⧺◌}
use Rattle.registry.specs.Registry.{number_of}
use Rattle.store.specs.PenLaws.{writes_as, writes_then, writes_none}
use Rattle.meaning.specs.Label
use Rattle.meaning.specs.Table.{table, fields_of, usual}
use Rattle.meaning.specs.TableLaws.{least_in, fields_in}
use Rattle.meaning.specs.Value.{field_end, field_trees, fields_trees, taken}
use Rattle.fields.specs.ShowsLaws.{sid_shown, sid_ends}
use Rattle.readings.specs.Reading.{reading_of}
use Rattle.readings.specs.ReadingLaws.{row_short, row_long}
use Rattle.readings.specs.Plain.{plain_room}
use Rattle.decoders.proofs.binding.sid_label.Goals as goal

pub returns-then-value-lt3 : goal.returns-then-value-lt3
unfolding usual fields_of table least_in fields_in
returns-then-value-lt3 g c = let v = c.args.value in row_short 3 1 (number_of v.registry) v.octets.now v.base.0 refl c.args.pen.now c.if-value-lt3.true

pub sid-requires : goal.sid-requires
unfolding usual fields_of table least_in fields_in
sid-requires g c =
    let v = c.args.value in
    let room = plain_room 3 1 (number_of v.registry) v.octets.now v.base.0 c.args.pen.now refl c.if-value-lt3.false (omega arith, tt) c.requires in
    search rules

pub returns : goal.returns
unfolding usual fields_of table least_in fields_in reading_of fields_trees field_trees taken field_end ◌⧺◌
returns g c =
    let v = c.args.value in
    let shown = sid_shown v.octets.now 0 Label.sid (number_of v.registry) v.base.0 (omega arith) in
    let ends = sid_ends v.octets.now 0 (omega arith) in
    row_long 3 1 (number_of v.registry) v.octets.now v.base.0 refl c.if-value-lt3.false (record { taken = ap Some (c.sid.ensures.covers ∙ sym ends); writes = writes_then (writes_as shown c.sid.ensures.writes) writes_none })
