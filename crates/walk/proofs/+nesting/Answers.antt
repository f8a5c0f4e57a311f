use Rattle.std.proofs.Common.{refl, sym, ap, ◌∙◌, ◌+◌, ◌<◌, ◌≤◌, arith, length, length-drop, take, drop, get_or}
use Rattle.std.proofs.Math.Seq.{length-take-le}
use Rattle.registry.specs.Registry.{number_of}
use Rattle.tape.specs.Forest.{size, ◌⧺◌}
use Rattle.tape.specs.ForestLaws.{size-⧺}
use Rattle.store.specs.PenLaws.{writes_as, writes_then, room_as, room_behind}
use Rattle.meaning.specs.CompleteLaws.{complete_is}
use Rattle.meaning.specs.Frame.{entry_length, covered}
use Rattle.meaning.specs.FrameLaws.{entry_fits, covered_le}
use Rattle.meaning.specs.Field.{tail, push}
use Rattle.meaning.specs.Table.{table, fields_of, usual}
use Rattle.meaning.specs.TableLaws.{least_in, fields_in}
use Rattle.meaning.specs.Value.{field_end, field_trees, fields_trees, taken}
use Rattle.meaning.specs.Area.{walked, pushed}
use Rattle.meaning.proofs.ValueLaws.{tail_bare, tail_overrun}
use Rattle.fields.specs.Stretches.{of}
use Rattle.fields.specs.declared.stretch.Stretch.{Stretch}
use Rattle.fields.specs.StretchLaws.{of_is}
use Rattle.fields.specs.Cutting.{cutting_start, cutting_inside}
use Rattle.readings.specs.Reading.{reading_of}
use Rattle.readings.specs.ReadingLaws.{row_short, of_type, asks_type, reads_as, asks_as}
use Rattle.readings.specs.Rows.{system_id, end_x_head, end_head}
use Rattle.fields.specs.Shows.{number_at}
use Rattle.walk.specs.Rest.{rest_in}
use Rattle.walk.specs.Entry.{entry_in, value_in, leaf_entry}
use Rattle.walk.specs.EntryLaws.{value_reading, leaf_told, entry_size, entry_room, rest_room, head_places, leaf_is}
use Rattle.walk.specs.NestedLaws.{head_room, nested_room, nested_made, end_x_head_size, end_x, tail_some, tail_alone, inner_room, inner_made, behind_is, behind_made}
use Rattle.walk.specs.PlainLaws.{other_plain}
use Rattle.walk.specs.WalkLaws.{upto_as, walk_none, walk_some, turn_room, turn_made, area_past, walk_made, push_room, remainder_room, push_made}
use Rattle.walk.proofs.+nesting.Goals as goal

-- decode: no other registry

pub decode-returns-in_default : goal.decode-returns-in_default
decode-returns-in_default g t c =
    absurd (omega (arith, c.requires.0, other_plain c.args.value.registry c.in_default.not-Neighbor c.in_default.not-Prefix c.in_default.not-RouterCapability))

-- lay_entry: one leaf, or the value and the entry around it

pub lay_entry-lay_leaf-requires : goal.lay_entry-lay_leaf-requires
lay_entry-lay_leaf-requires g t c =
    let e = c.args.octets in
    let k = number_of e.registry in
    let made = c.of-entry.ensures in
    let from = c.from-value.ensures in
    let kind = c.of-entry.result.of_kind ∙ ap (λ (s : Stretch). get_or s.octets.now 0 0) made in
    let is = leaf_told _ _ _ (e.base.0 + 2) (ap number_of from.registry) from.octets kind (c.in-Some.ensures (e.base.0 + 2)) in
    let four = ap size (leaf_is k e.octets.now e.base.0 _ _ _ is c.requires.1) in
    record { fits = omega (arith, c.requires.2.fits, four); small = c.requires.2.small }

pub lay_entry-returns-in-Some : goal.lay_entry-returns-in-Some
lay_entry-returns-in-Some g t c =
    let e = c.args.octets in
    let k = number_of e.registry in
    let made = c.of-entry.ensures in
    let from = c.from-value.ensures in
    let kind = c.of-entry.result.of_kind ∙ ap (λ (s : Stretch). get_or s.octets.now 0 0) made in
    let is = leaf_told _ _ _ (e.base.0 + 2) (ap number_of from.registry) from.octets kind (c.in-Some.ensures (e.base.0 + 2)) in
    writes_as (leaf_is k e.octets.now e.base.0 _ _ _ is c.requires.1 ∙ sym (ap (of (leaf_entry c.in-Some.one)) made)) c.lay_leaf.ensures

pub lay_entry-skip-requires : goal.lay_entry-skip-requires
lay_entry-skip-requires g t c =
    let e = c.args.octets in
    record { fits = omega (arith, c.requires.2.fits, entry_size (number_of e.registry) e.octets.now e.base.0); small = c.requires.2.small }

pub lay_entry-decode-taken-requires : goal.lay_entry-decode-taken-requires
lay_entry-decode-taken-requires g t c κs within =
    let e = c.args.octets in
    let k = number_of e.registry in
    let made = c.of-entry.ensures in
    let from = c.from-value.ensures in
    let kind = c.of-entry.result.of_kind ∙ ap (λ (s : Stretch). get_or s.octets.now 0 0) made in
    let read = value_reading c.from-value.result from.registry from.octets from.base kind in
    let fewer = ap length from.octets in
    let below : number_of c.from-value.result.registry < 3 = omega (arith, c.requires.0, ap number_of from.registry) in
    let room = entry_room k e.octets.now e.base.0 c.skip.ensures c.requires.2 in
    (omega (arith, c.decreases, fewer, length-drop 2 e.octets.now, c.requires.1), (within, (below, asks_as c.skip.new.self (sym read) room)))

pub lay_entry-complete-requires : goal.lay_entry-complete-requires
lay_entry-complete-requires g t c =
    let e = c.args.octets in
    let k = number_of e.registry in
    let made = c.of-entry.ensures in
    let from = c.from-value.ensures in
    let kind = c.of-entry.result.of_kind ∙ ap (λ (s : Stretch). get_or s.octets.now 0 0) made in
    let read = value_reading c.from-value.result from.registry from.octets from.base kind in
    let decoded = reads_as (sym read) c.decode-taken.ensures in
    let room = rest_room k e.octets.now e.base.0 c.skip.ensures decoded c.requires.2 in
    (room_as c.decode-taken.new.pen (ap (of (rest_in c.decode-taken.result)) made) room, head_places k e.octets.now e.base.0 c.skip.ensures decoded)

pub lay_entry-returns : goal.lay_entry-returns
lay_entry-returns g t c =
    let e = c.args.octets in
    let k = number_of e.registry in
    let made = c.of-entry.ensures in
    let from = c.from-value.ensures in
    let kind = c.of-entry.result.of_kind ∙ ap (λ (s : Stretch). get_or s.octets.now 0 0) made in
    let read = value_reading c.from-value.result from.registry from.octets from.base kind in
    let decoded = reads_as (ap (of value_in) made ∙ sym read) c.decode-taken.ensures in
    writes_as (sym (ap (of entry_in) made)) (c.complete.ensures c.args.pen.now c.skip.new.self refl c.skip.ensures decoded)

-- neighbor_value: what stands before the tail, and the tail

pub neighbor_value-returns-then-value-id : goal.neighbor_value-returns-then-value-id
neighbor_value-returns-then-value-id g t c =
    let v = c.args.value in
    let r = number_of v.registry in
    let id = c.system_id_width-id.result in
    let x = end_x c.args.kind id r v.octets.now v.base.0 c.else-kind-ne43.either c.system_id_width-id.ensures in
    row_short 0 c.args.kind r v.octets.now v.base.0 x.row c.args.pen.now (rw x.least c.if-value-id.true)

pub neighbor_value-system_id-requires : goal.neighbor_value-system_id-requires
neighbor_value-system_id-requires g t c =
    let v = c.args.value in
    let r = number_of v.registry in
    let id = c.system_id_width-id.result in
    let x = end_x c.args.kind id r v.octets.now v.base.0 c.else-kind-ne43.either c.system_id_width-id.ensures in
    let head = system_id id r v.octets.now v.base.0 ⧺ end_x_head id r v.octets.now v.base.0 in
    let room = head_room 0 c.args.kind r v.octets.now v.base.0 x.row (rw x.least c.if-value-id.false) head (tail (id + 5)) x.is c.args.pen.now c.requires in
    let both = size-⧺ (system_id id r v.octets.now v.base.0) (end_x_head id r v.octets.now v.base.0) in
    (omega (arith, c.if-value-id.false), record { fits = omega (arith, room.fits, both, end_x_head_size id r v.octets.now v.base.0); small = room.small })

pub neighbor_value-end_x_head-requires : goal.neighbor_value-end_x_head-requires
neighbor_value-end_x_head-requires g t c =
    let v = c.args.value in
    let r = number_of v.registry in
    let id = c.system_id_width-id.result in
    let x = end_x c.args.kind id r v.octets.now v.base.0 c.else-kind-ne43.either c.system_id_width-id.ensures in
    let head = system_id id r v.octets.now v.base.0 ⧺ end_x_head id r v.octets.now v.base.0 in
    let room = head_room 0 c.args.kind r v.octets.now v.base.0 x.row (rw x.least c.if-value-id.false) head (tail (id + 5)) x.is c.args.pen.now c.requires in
    let both = size-⧺ (system_id id r v.octets.now v.base.0) (end_x_head id r v.octets.now v.base.0) in
    (omega (arith, c.if-value-id.false), room_behind 4 c.system_id.ensures room (omega (arith, both, end_x_head_size id r v.octets.now v.base.0)))

pub neighbor_value-tail-requires : goal.neighbor_value-tail-requires
neighbor_value-tail-requires g t c κs within =
    let v = c.args.value in
    let r = number_of v.registry in
    let id = c.system_id_width-id.result in
    let x = end_x c.args.kind id r v.octets.now v.base.0 c.else-kind-ne43.either c.system_id_width-id.ensures in
    let head = system_id id r v.octets.now v.base.0 ⧺ end_x_head id r v.octets.now v.base.0 in
    let wrote = writes_then c.system_id.ensures c.end_x_head.ensures in
    (omega (arith, c.decreases), (within, (omega (arith, c.if-value-id.false), nested_room 0 c.args.kind r v.octets.now v.base.0 x.row (rw x.least c.if-value-id.false) head (tail (id + 5)) x.is c.args.pen.now c.requires wrote)))

pub neighbor_value-returns : goal.neighbor_value-returns
neighbor_value-returns g t c =
    let v = c.args.value in
    let r = number_of v.registry in
    let id = c.system_id_width-id.result in
    let x = end_x c.args.kind id r v.octets.now v.base.0 c.else-kind-ne43.either c.system_id_width-id.ensures in
    let head = system_id id r v.octets.now v.base.0 ⧺ end_x_head id r v.octets.now v.base.0 in
    nested_made 0 c.args.kind r v.octets.now v.base.0 x.row (rw x.least c.if-value-id.false) head (tail (id + 5)) x.is (writes_then c.system_id.ensures c.end_x_head.ensures) c.tail.ensures

-- prefix_value: what stands before the tail of type 5, and the tail

pub prefix_value-returns-then-value-lt19 : goal.prefix_value-returns-then-value-lt19
unfolding usual fields_of table least_in fields_in
prefix_value-returns-then-value-lt19 g t c =
    let v = c.args.value in
    of_type 1 5 (number_of v.registry) v.octets.now v.base.0 c.if-kind-ne5.false (row_short 1 5 (number_of v.registry) v.octets.now v.base.0 refl c.args.pen.now c.if-value-lt19.true)

pub prefix_value-end_head-requires : goal.prefix_value-end_head-requires
unfolding usual fields_of table least_in fields_in reading_of fields_trees field_trees taken field_end ◌⧺◌
prefix_value-end_head-requires g t c =
    let v = c.args.value in
    let r = number_of v.registry in
    let asked = asks_type 1 5 r v.octets.now v.base.0 c.if-kind-ne5.false c.args.pen.now c.requires in
    let room = head_room 1 5 r v.octets.now v.base.0 refl c.if-value-lt19.false (end_head r v.octets.now v.base.0) (tail 3) refl c.args.pen.now asked in
    (omega (arith, c.if-value-lt19.false), record { fits = omega (arith, room.fits); small = room.small })

pub prefix_value-tail-requires : goal.prefix_value-tail-requires
unfolding usual fields_of table least_in fields_in reading_of fields_trees field_trees taken field_end ◌⧺◌
prefix_value-tail-requires g t c κs within =
    let v = c.args.value in
    let r = number_of v.registry in
    let asked = asks_type 1 5 r v.octets.now v.base.0 c.if-kind-ne5.false c.args.pen.now c.requires in
    (omega (arith, c.decreases), (within, (c.if-value-lt19.false, nested_room 1 5 r v.octets.now v.base.0 refl c.if-value-lt19.false (end_head r v.octets.now v.base.0) (tail 3) refl c.args.pen.now asked c.end_head.ensures)))

pub prefix_value-returns : goal.prefix_value-returns
unfolding usual fields_of table least_in fields_in reading_of fields_trees field_trees taken field_end ◌⧺◌
prefix_value-returns g t c =
    let v = c.args.value in
    let r = number_of v.registry in
    of_type 1 5 r v.octets.now v.base.0 c.if-kind-ne5.false (nested_made 1 5 r v.octets.now v.base.0 refl c.if-value-lt19.false (end_head r v.octets.now v.base.0) (tail 3) refl c.end_head.ensures c.tail.ensures)

-- router_value: the flags of type 25, and the push behind them

pub router_value-returns-then-n-lt2 : goal.router_value-returns-then-n-lt2
unfolding usual fields_of table least_in fields_in
router_value-returns-then-n-lt2 g t c =
    let v = c.args.value in
    of_type 2 25 (number_of v.registry) v.octets.now v.base.0 c.if-kind-ne25.false (row_short 2 25 (number_of v.registry) v.octets.now v.base.0 refl c.args.pen.now c.if-n-lt2.true)

pub router_value-number-requires : goal.router_value-number-requires
unfolding usual fields_of table least_in fields_in reading_of fields_trees field_trees taken field_end ◌⧺◌
router_value-number-requires g t c =
    let v = c.args.value in
    let r = number_of v.registry in
    let asked = asks_type 2 25 r v.octets.now v.base.0 c.if-kind-ne25.false c.args.pen.now c.requires in
    let room = head_room 2 25 r v.octets.now v.base.0 refl c.if-n-lt2.false (number_at 44 1 0 2 r v.octets.now v.base.0) (push 2) refl c.args.pen.now asked in
    (refl, c.if-n-lt2.false, record { fits = omega (arith, room.fits); small = room.small })

pub router_value-push-requires : goal.router_value-push-requires
unfolding usual fields_of table least_in fields_in reading_of fields_trees field_trees taken field_end ◌⧺◌
router_value-push-requires g t c κs within =
    let v = c.args.value in
    let r = number_of v.registry in
    let asked = asks_type 2 25 r v.octets.now v.base.0 c.if-kind-ne25.false c.args.pen.now c.requires in
    let room = nested_room 2 25 r v.octets.now v.base.0 refl c.if-n-lt2.false (number_at 44 1 0 2 r v.octets.now v.base.0) (push 2) refl c.args.pen.now asked c.number.ensures in
    let inside = c.read_in.ensures in
    let octets = inside.octets ∙ c.from.ensures.octets in
    let base = inside.base ∙ c.from.ensures.base in
    let fewer = ap length octets in
    (omega (arith, c.decreases, fewer, length-drop 2 v.octets.now, c.if-n-lt2.false), (within, room_as c.number.new.pen (of_is (pushed usual) c.read_in.result inside.registry octets base ∙ sym (behind_is r v.octets.now v.base.0 2)) room))

pub router_value-returns : goal.router_value-returns
unfolding usual fields_of table least_in fields_in reading_of fields_trees field_trees taken field_end ◌⧺◌
router_value-returns g t c =
    let v = c.args.value in
    let r = number_of v.registry in
    let inside = c.read_in.ensures in
    let octets = inside.octets ∙ c.from.ensures.octets in
    let base = inside.base ∙ c.from.ensures.base in
    let pushed' = writes_as (sym (of_is (pushed usual) c.read_in.result inside.registry octets base)) c.push.ensures.writes in
    of_type 2 25 r v.octets.now v.base.0 c.if-kind-ne25.false (nested_made 2 25 r v.octets.now v.base.0 refl c.if-n-lt2.false (number_at 44 1 0 2 r v.octets.now v.base.0) (push 2) refl c.number.ensures (behind_made r v.octets.now v.base.0 2 pushed'))

-- tail: the SID, and the inner area behind it

pub tail-octets-requires : goal.tail-octets-requires
tail-octets-requires g t c =
    let v = c.args.value in
    let some = tail_some (number_of v.registry) v.octets.now v.base.0 c.args.at in
    (omega (arith, c.requires.0), record { fits = omega (arith, c.requires.1.fits, some); small = c.requires.1.small })

pub tail-returns-then-n-length_at : goal.tail-returns-then-n-length_at
tail-returns-then-n-length_at g t c =
    let v = c.args.value in
    let r = number_of v.registry in
    tail_alone r v.octets.now v.base.0 c.args.at c.octets.ensures (tail_bare (walked usual) r v.octets.now v.base.0 c.args.at (omega (arith, c.requires.0, c.if-n-length_at.true))) (omega (arith, c.requires.0, c.if-n-length_at.true))

pub tail-returns-then-n-start : goal.tail-returns-then-n-start
tail-returns-then-n-start g t c =
    let v = c.args.value in
    let r = number_of v.registry in
    tail_alone r v.octets.now v.base.0 c.args.at c.octets.ensures (tail_overrun (walked usual) r v.octets.now v.base.0 c.args.at (omega (arith, c.if-n-start.true))) refl

pub tail-walk-requires : goal.tail-walk-requires
tail-walk-requires g t c κs within =
    let v = c.args.value in
    let r = number_of v.registry in
    let n = get_or v.octets.now (c.args.at + 16) 0 in
    let inside = c.read_in-inner.ensures in
    let octets = inside.octets ∙ c.first.ensures.octets ∙ ap (take n) c.from.ensures.octets in
    let base = inside.base ∙ c.first.ensures.base ∙ c.from.ensures.base in
    let behind = drop (c.args.at + 16 + 1) v.octets.now in
    let long = ap length octets ∙ length-take-le n behind (omega (arith, length-drop (c.args.at + 16 + 1) v.octets.now, c.if-n-start.false)) in
    (omega (arith, c.decreases, long, c.if-n-start.false), (within, room_as c.octets.new.pen (of_is (walked usual) c.read_in-inner.result inside.registry octets base) (inner_room r v.octets.now v.base.0 c.args.at c.octets.ensures c.if-n-start.false c.requires.1)))

pub tail-overflow_add-result : goal.tail-overflow_add-result
tail-overflow_add-result g t c =
    let v = c.args.value in
    let n = get_or v.octets.now (c.args.at + 16) 0 in
    let inside = c.read_in-inner.ensures in
    let octets = inside.octets ∙ c.first.ensures.octets ∙ ap (take n) c.from.ensures.octets in
    let behind = drop (c.args.at + 16 + 1) v.octets.now in
    let long = ap length octets ∙ length-take-le n behind (omega (arith, length-drop (c.args.at + 16 + 1) v.octets.now, c.if-n-start.false)) in
    omega (arith, c.walk.ensures.covers, covered_le c.read_in-inner.result.octets.now, long, c.if-n-start.false)

pub tail-returns : goal.tail-returns
tail-returns g t c =
    let v = c.args.value in
    let r = number_of v.registry in
    let n = get_or v.octets.now (c.args.at + 16) 0 in
    let inside = c.read_in-inner.ensures in
    let octets = inside.octets ∙ c.first.ensures.octets ∙ ap (take n) c.from.ensures.octets in
    let base = inside.base ∙ c.first.ensures.base ∙ c.from.ensures.base in
    let walked' = upto_as (ap covered octets) (of_is (walked usual) c.read_in-inner.result inside.registry octets base) c.walk.ensures in
    inner_made r v.octets.now v.base.0 c.args.at c.octets.ensures c.if-n-start.false walked'

-- push: the walk, and the remainder beside it

pub push-walk-covered-requires : goal.push-walk-covered-requires
push-walk-covered-requires g t c κs within =
    let a = c.args.area in
    (omega (arith, c.decreases), (within, push_room (number_of a.registry) a.octets.now a.base.0 c.args.pen.now c.requires))

pub push-raw-requires : goal.push-raw-requires
push-raw-requires g t c = let a = c.args.area in remainder_room (number_of a.registry) a.octets.now a.base.0 c.walk-covered.ensures c.requires

pub push-returns : goal.push-returns
push-returns g t c = let a = c.args.area in push_made (number_of a.registry) a.octets.now a.base.0 c.walk-covered.ensures c.raw.ensures

-- entries: each entry, and the array in front of them

pub entries-skip-requires : goal.entries-skip-requires
entries-skip-requires g t c =
    let a = c.args.area in
    let some = walk_some (number_of a.registry) a.octets.now a.base.0 c.requires.1 in
    record { fits = omega (arith, c.requires.2.fits, ap size some); small = c.requires.2.small }

pub entries-loop-n-init : goal.entries-loop-n-init
entries-loop-n-init g t c = (refl, cutting_start _ _ _ _ _)

pub entries-first-requires : goal.entries-first-requires
entries-first-requires g t c =
    let left = c.loop-n.left.octets.now in
    omega (arith, complete_is (entry_length left) c.in-Some.ensures, entry_fits left)

pub entries-lay_entry-requires : goal.entries-lay_entry-requires
entries-lay_entry-requires g t c κs within =
    let a = c.args.area in
    let left = c.loop-n.left.octets.now in
    let first = c.first.ensures in
    let here = complete_is (entry_length left) c.in-Some.ensures in
    let long = ap length first.octets ∙ length-take-le c.in-Some.n left (omega (arith, here.0, entry_fits left)) in
    let turn = turn_room (number_of a.registry) a.octets.now a.base.0 c.skip.ensures c.loop-n.invariant.1 c.in-Some.ensures c.requires.2 in
    let inside = cutting_inside c.loop-n.invariant.1 in
    let same = first.registry ∙ c.loop-n.invariant.0 in
    let below : number_of c.first.result.registry < 3 = omega (arith, c.requires.0, ap number_of same) in
    let two : 2 ≤ length c.first.result.octets.now = omega (arith, turn.0, ap length first.octets) in
    let room = room_as c.loop-n.pen (of_is entry_in c.first.result same first.octets first.base) turn.1 in
    (omega (arith, c.decreases, long, here.0, entry_fits left, inside.0), (within, (below, two, room)))

pub entries-from-left-requires : goal.entries-from-left-requires
entries-from-left-requires g t c =
    let left = c.loop-n.left.octets.now in
    omega (arith, complete_is (entry_length left) c.in-Some.ensures, entry_fits left)

pub entries-loop-n-smaller : goal.entries-loop-n-smaller
entries-loop-n-smaller g t c =
    let left = c.loop-n.left.octets.now in
    let fewer = ap length c.from-left.ensures.octets in
    omega (arith, fewer, length-drop c.in-Some.n left, complete_is (entry_length left) c.in-Some.ensures, entry_fits left)

pub entries-loop-n-preserved : goal.entries-loop-n-preserved
entries-loop-n-preserved g t c =
    let a = c.args.area in
    let first = c.first.ensures in
    let from = c.from-left.ensures in
    let wrote = writes_as (sym (of_is entry_in c.first.result (first.registry ∙ c.loop-n.invariant.0) first.octets first.base)) c.lay_entry.ensures in
    (from.registry ∙ c.loop-n.invariant.0, rw (from.octets, from.base) (turn_made (number_of a.registry) a.octets.now a.base.0 c.skip.ensures c.loop-n.invariant.1 c.in-Some.ensures wrote))

pub entries-container-requires : goal.entries-container-requires
entries-container-requires g t c =
    let a = c.args.area in
    let past = area_past (number_of a.registry) a.octets.now a.base.0 c.skip.ensures c.loop-n.invariant.1 c.requires.1 c.requires.2 in
    (past.0, past.1, c.content.ensures.near)

pub entries-returns : goal.entries-returns
entries-returns g t c =
    let a = c.args.area in
    let put = rw c.content.ensures.content at c.container.ensures in
    walk_made (number_of a.registry) a.octets.now a.base.0 c.skip.ensures c.loop-n.invariant.1 c.requires.1 c.in_default.ensures (omega arith) put

-- walk: nothing, or the entries

pub walk-returns-then-area-eq0 : goal.walk-returns-then-area-eq0
walk-returns-then-area-eq0 g t c = let a = c.args.area in walk_none (number_of a.registry) a.octets.now a.base.0 c.args.pen.now c.if-area-eq0.true

pub walk-entries-requires : goal.walk-entries-requires
walk-entries-requires g t c κs within = (omega (arith, c.decreases), (within, (omega (arith, c.number.ensures, c.if-number-ge3.false), omega (arith, c.if-area-eq0.false), c.requires)))
