-- The value, and the entry around it; all of it in the registry of the area.
use Rattle.std.proofs.Common.{refl, sym, ap, ◌∙◌, arith, length, get_or}
use Rattle.registry.specs.Registry.{number_of}
use Rattle.store.specs.PenLaws.{writes_as, room_as}
use Rattle.fields.specs.Stretches.{of}
use Rattle.fields.specs.StretchLaws.{of_is}
use Rattle.fields.specs.declared.stretch.Stretch.{Stretch}
use Rattle.readings.specs.ReadingLaws.{reads_as, asks_as}
use Rattle.walk.specs.Rest.{rest_in}
use Rattle.walk.specs.Entry.{entry_in, value_in}
use Rattle.walk.specs.EntryLaws.{value_reading, entry_size, entry_room, rest_room, head_places}
use Rattle.walk.proofs.plain.EntriesElement.lay.Goals as goal

pub of-entry-requires : goal.of-entry-requires
of-entry-requires g c = omega (arith, c.requires.0, ap length c.read_in-octets.ensures.octets)

pub skip-requires : goal.skip-requires
skip-requires g c =
    let k = number_of c.args.self.registry in
    record { fits = omega (arith, c.requires.1.fits, entry_size k c.args.piece.octets.now c.args.piece.base.0); small = c.requires.1.small }

pub decode-taken-requires : goal.decode-taken-requires
decode-taken-requires g c =
    let e = c.read_in-octets.result in
    let k = number_of e.registry in
    let inside = c.read_in-octets.ensures in
    let made = c.of-entry.ensures in
    let from = c.from-value.ensures in
    let room = room_as c.args.pen.now (of_is entry_in e inside.registry inside.octets inside.base) c.requires.1 in
    let kind = c.of-entry.result.of_kind ∙ ap (λ (s : Stretch). get_or s.octets.now 0 0) made in
    let read = value_reading c.from-value.result from.registry from.octets from.base kind in
    let plain = c.args.self.plain in
    (omega (arith, plain, ap number_of (from.registry ∙ inside.registry)), asks_as c.skip.new.self (sym read) (entry_room k e.octets.now e.base.0 c.skip.ensures room))

pub complete-requires : goal.complete-requires
complete-requires g c =
    let e = c.read_in-octets.result in
    let k = number_of e.registry in
    let inside = c.read_in-octets.ensures in
    let made = c.of-entry.ensures in
    let from = c.from-value.ensures in
    let asked = room_as c.args.pen.now (of_is entry_in e inside.registry inside.octets inside.base) c.requires.1 in
    let kind = c.of-entry.result.of_kind ∙ ap (λ (s : Stretch). get_or s.octets.now 0 0) made in
    let read = value_reading c.from-value.result from.registry from.octets from.base kind in
    let decoded = reads_as (sym read) c.decode-taken.ensures in
    let room = rest_room k e.octets.now e.base.0 c.skip.ensures decoded asked in
    (room_as c.decode-taken.new.pen (ap (of (rest_in c.decode-taken.result)) made) room, head_places k e.octets.now e.base.0 c.skip.ensures decoded)

pub returns : goal.returns
returns g c =
    let e = c.read_in-octets.result in
    let inside = c.read_in-octets.ensures in
    let made = c.of-entry.ensures in
    let from = c.from-value.ensures in
    let kind = c.of-entry.result.of_kind ∙ ap (λ (s : Stretch). get_or s.octets.now 0 0) made in
    let read = value_reading c.from-value.result from.registry from.octets from.base kind in
    let decoded = reads_as (ap (of value_in) made ∙ sym read) c.decode-taken.ensures in
    let laid = writes_as (sym (ap (of entry_in) made)) (c.complete.ensures c.args.pen.now c.skip.new.self refl c.skip.ensures decoded) in
    writes_as (sym (of_is entry_in e inside.registry inside.octets inside.base)) laid
