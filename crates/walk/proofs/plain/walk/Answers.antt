-- An area that has octets is the array of its entries.
use Rattle.std.proofs.Common.{refl, sym}
use Rattle.registry.specs.Registry.{number_of}
use Rattle.store.specs.PenLaws.{room_as}
use Rattle.meaning.specs.Frame.{entries, covered}
use Rattle.walk.specs.WalkLaws.{upto_as, upto_of, walk_some}
use Rattle.walk.proofs.plain.walk.Goals as goal

pub array-covered-requires : goal.array-covered-requires
array-covered-requires g c =
    let a = c.args.area in
    rw c.take.ensures.value (room_as c.args.pen.now (sym (walk_some (number_of a.registry) a.octets.now a.base.0 c.requires.1)) c.requires.2)

pub returns : goal.returns
unfolding covered entries
returns g c =
    let a = c.args.area in
    upto_as refl (sym (walk_some (number_of a.registry) a.octets.now a.base.0 c.requires.1)) (upto_of c.take.ensures.value refl refl refl c.array-covered.ensures)
