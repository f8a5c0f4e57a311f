-- One record, or none.
use Rattle.std.proofs.Common.{rules, sym, ◌+◌}
use Rattle.registry.specs.Registry.{number_of}
use Rattle.store.specs.PenLaws.{room_as, writes_as, writes_none}
use Rattle.meaning.specs.AreaLaws.{raw_none}
use Rattle.walk.specs.RestLaws.{raw_is}
use Rattle.walk.proofs.entry.raw.Goals as goal

pub octets-requires : goal.octets-requires
octets-requires g c =
    let v = c.args.value in
    let room = room_as c.args.pen.now (sym (raw_is c.args.at (number_of v.registry) v.octets.now v.base.0 c.if-at-n.true)) c.requires in
    search rules

pub returns-then-at-n : goal.returns-then-at-n
returns-then-at-n g c = let v = c.args.value in writes_as (raw_is c.args.at (number_of v.registry) v.octets.now v.base.0 c.if-at-n.true) c.octets.ensures

pub returns-else-at-n : goal.returns-else-at-n
returns-else-at-n g c = let v = c.args.value in writes_as (raw_none (number_of v.registry) (v.base.0 + c.args.at) v.octets.now c.args.at c.if-at-n.false) writes_none
