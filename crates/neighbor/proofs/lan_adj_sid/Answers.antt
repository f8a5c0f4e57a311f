-- Two octets, the system id and the SID, one after the other.
use Rattle.std.proofs.Common.{rules, refl, ap, sym, arith, ◌∙◌, Some}
use Rattle.tape.specs.Forest.{◌⧺◌}
use Rattle.registry.specs.Registry.{number_of}
use Rattle.store.specs.PenLaws.{writes_as, writes_then, writes_none}
use Rattle.meaning.specs.Label
use Rattle.meaning.specs.Table.{table, fields_of, usual}
use Rattle.meaning.specs.TableLaws.{least_in, fields_in}
use Rattle.meaning.specs.Value.{field_end, field_trees, fields_trees, taken}
use Rattle.fields.specs.ShowsLaws.{sid_shown, sid_ends}
use Rattle.readings.specs.Reading.{reading_of}
use Rattle.neighbor.proofs.Rows.{short, long, room}
use Rattle.neighbor.proofs.lan_adj_sid.Goals as goal

pub returns-then-value-lt11 : goal.returns-then-value-lt11
unfolding usual fields_of table least_in fields_in
returns-then-value-lt11 g c = short 32 c.args.value refl c.args.pen.now c.if-value-lt11.true

pub number-requires : goal.number-requires
unfolding usual fields_of table least_in fields_in
number-requires g c =
    let left = room 32 c.args.value refl c.args.pen.now c.if-value-lt11.false (omega arith, tt) c.requires in
    search rules

pub number-requires-2 : goal.number-requires-2
unfolding usual fields_of table least_in fields_in
number-requires-2 g c =
    let left = room 32 c.args.value refl c.args.pen.now c.if-value-lt11.false (omega arith, tt) c.requires in
    search rules

pub octets-requires : goal.octets-requires
unfolding usual fields_of table least_in fields_in
octets-requires g c =
    let left = room 32 c.args.value refl c.args.pen.now c.if-value-lt11.false (omega arith, tt) c.requires in
    search rules

pub sid-requires : goal.sid-requires
unfolding usual fields_of table least_in fields_in
sid-requires g c =
    let left = room 32 c.args.value refl c.args.pen.now c.if-value-lt11.false (omega arith, tt) c.requires in
    search rules

pub returns : goal.returns
unfolding usual fields_of table least_in fields_in reading_of fields_trees field_trees taken field_end ◌⧺◌
returns g c =
    let v = c.args.value in
    let shown = sid_shown v.octets.now 8 Label.sid (number_of v.registry) v.base.0 (omega arith) in
    let ends = sid_ends v.octets.now 8 (omega arith) in
    long 32 v refl c.if-value-lt11.false (record { taken = ap Some (c.sid.ensures.covers ∙ sym ends); writes = writes_then c.number.ensures (writes_then c.number-2.ensures (writes_then c.octets.ensures (writes_then (writes_as shown c.sid.ensures.writes) writes_none))) })
