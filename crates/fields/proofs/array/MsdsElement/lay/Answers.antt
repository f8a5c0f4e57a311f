-- Two numbers, and the object in front of them.
use Rattle.std.proofs.Common.{refl, arith}
use Rattle.registry.specs.Registry.{number_of}
use Rattle.store.specs.PenLaws.{writes_as, writes_then, writes_node}
use Rattle.fields.specs.ElementLaws.{msd_is, msd_size}
use Rattle.fields.proofs.array.MsdsElement.lay.Goals as goal

pub skip-requires : goal.skip-requires
skip-requires g c = let three = msd_size (number_of c.args.piece.registry) c.args.piece.octets.now c.args.piece.base.0 in let room = c.requires.1 in record { fits = omega (arith, room.fits, three); small = room.small }

pub number-requires : goal.number-requires
number-requires g c = let three = msd_size (number_of c.args.piece.registry) c.args.piece.octets.now c.args.piece.base.0 in let room = c.requires.1 in (refl, omega (arith, c.requires.0), record { fits = omega (arith, room.fits, three); small = omega (arith, room.small) })

pub number-requires-2 : goal.number-requires-2
number-requires-2 g c =
    let three = msd_size (number_of c.args.piece.registry) c.args.piece.octets.now c.args.piece.base.0 in
    let room = c.requires.1 in
    (refl, omega (arith, c.requires.0), record { fits = omega (arith, room.fits, three); small = omega (arith, room.small) })

pub container-requires : goal.container-requires
container-requires g c =
    let three = msd_size (number_of c.args.piece.registry) c.args.piece.octets.now c.args.piece.base.0 in
    let room = c.requires.1 in
    (record { fits = omega (arith, room.fits, three); small = omega (arith, room.small) }, omega arith, c.content.ensures.near)

pub returns : goal.returns
returns g c =
    let piece = c.args.piece in
    writes_as (msd_is (number_of piece.registry) piece.octets.now piece.base.0)
    (writes_node _ c.skip.ensures (writes_then c.number.ensures c.number-2.ensures) (rw c.content.ensures.content at c.container.ensures))
