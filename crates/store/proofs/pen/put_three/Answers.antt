-- Three records are put, one after the other.
use lib.ListN.{length}
use Rattle.tape.specs.NearLaws.{kept_container}
use native.Mathlib.Omega.{arith}
use Rattle.tape.specs.TapeLaws.{put_three}
use Rattle.store.proofs.pen.put_three.Goals as goal

pub put-requires : goal.put-requires
put-requires c =
    let asked = c.requires in
    (record { fits = omega (arith, asked.0, asked.1); small = asked.0.small }, rw c.container.ensures (kept_container c.args.slim (length c.args.tape.now) asked.2 (omega (arith, c.requires.0, c.requires.1)) c.requires.0.fits))

pub returns : goal.returns
returns c =
    rw (← c.leaf-2.ensures, ← c.leaf.ensures, ← c.container.ensures)
    (put_three _ _ _ _ _ _ c.put.ensures.0 c.put-2.ensures.0 c.put-3.ensures.0)
