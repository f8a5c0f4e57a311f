-- The flags, and the array over the octets behind them.
use Rattle.std.specs.Prelude.{ℕ, ◌+◌, List, Some, drop}
use Rattle.std.proofs.Common.{rules, refl, ap, sym, arith, length-drop, ◌∙◌}
use Rattle.tape.specs.Forest.{◌⧺◌}
use Rattle.registry.specs.Registry.{number_of}
use Rattle.store.specs.PenLaws.{writes_as, writes_then, room_as, room_behind}
use Rattle.meaning.specs.Table.{table, fields_of, usual}
use Rattle.meaning.specs.TableLaws.{least_in, fields_in}
use Rattle.meaning.specs.Array.{array_of}
use Rattle.meaning.specs.CutLaws.{total_le}
use Rattle.meaning.specs.Cut.{pieces, total}
use Rattle.meaning.specs.Frame.{range_length}
use Rattle.meaning.specs.FrameLaws.{range_fits}
use Rattle.meaning.specs.Value.{field_end, field_trees, fields_trees, taken}
use Rattle.fields.specs.Shows.{ranges_in}
use Rattle.fields.specs.StretchLaws.{of_is}
use Rattle.readings.specs.Reading.{reading_of}
use Rattle.readings.specs.ReadingLaws.{row_short, row_long, asks_fields}
use Rattle.decoders.proofs.router_capability.flags_and_ranges.Goals as goal

pub returns-then-value-lt1 : goal.returns-then-value-lt1
unfolding usual fields_of table least_in fields_in
returns-then-value-lt1 g c = let v = c.args.value in row_short 2 2 (number_of v.registry) v.octets.now v.base.0 refl c.args.pen.now c.if-value-lt1.true

pub number-requires : goal.number-requires
unfolding usual fields_of table least_in fields_in reading_of fields_trees field_trees taken field_end ◌⧺◌ array_of
number-requires g c =
    let v = c.args.value in
    let room = asks_fields 2 2 (number_of v.registry) v.octets.now v.base.0 refl c.args.pen.now c.if-value-lt1.false c.requires in
    search rules

pub array-requires : goal.array-requires
unfolding usual fields_of table least_in fields_in reading_of fields_trees field_trees taken field_end ◌⧺◌ array_of
array-requires g c =
    let v = c.args.value in
    let room = asks_fields 2 2 (number_of v.registry) v.octets.now v.base.0 refl c.args.pen.now c.if-value-lt1.false c.requires in
    let from = c.from.ensures in
    room_as c.number.new.pen (of_is ranges_in c.from.result from.registry from.octets from.base) (room_behind _ c.number.ensures room (omega arith))

pub overflow_add-result : goal.overflow_add-result
overflow_add-result g c =
    let v = c.args.value.octets.now in
    let covers = c.array.ensures.covers ∙ ap (λ (s : List ℕ). total (pieces range_length s)) c.from.ensures.octets in
    omega (arith, covers, total_le range_length range_fits (drop 1 v), length-drop 1 v)

pub returns : goal.returns
unfolding usual fields_of table least_in fields_in reading_of fields_trees field_trees taken field_end ◌⧺◌ array_of
returns g c =
    let v = c.args.value in
    let from = c.from.ensures in
    let covers = c.array.ensures.covers ∙ ap (λ (s : List ℕ). total (pieces range_length s)) from.octets in
    let laid = writes_as (sym (of_is ranges_in c.from.result from.registry from.octets from.base)) c.array.ensures.writes in
    row_long 2 2 (number_of v.registry) v.octets.now v.base.0 refl c.if-value-lt1.false (record { taken = ap (λ (n : ℕ). Some (1 + n)) covers; writes = writes_then c.number.ensures laid })
