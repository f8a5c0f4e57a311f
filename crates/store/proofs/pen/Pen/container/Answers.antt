-- The container's record is put.
use Rattle.std.proofs.Common.{length, arith}
use Rattle.tape.specs.Tape.{store}
use Rattle.tape.specs.NearLaws.{kept_container}
use Rattle.store.proofs.pen.Pen.container.Goals as goal

pub put-requires : goal.put-requires
put-requires g c =
    let asked = c.requires in
    let room = asked.0 in
    (record { fits = omega (arith, room.fits, asked.1); small = room.small }, rw c.container.ensures (kept_container _ (length c.args.self.now.tape.now) asked.2 (omega (arith, asked.1, room.fits)) room.fits))

pub returns : goal.returns
unfolding store
returns g c = record { tape = c.put.ensures.tape; next = c.put.ensures.next; words = rw (← c.container.ensures) c.put.ensures.words; same = c.put.ensures.same }
