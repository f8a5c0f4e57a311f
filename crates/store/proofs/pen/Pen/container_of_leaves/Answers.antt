-- Three records are put, and the third leaf's.
use Rattle.std.proofs.Common.{refl}
use Rattle.tape.proofs.LaidLaws.{laid_container_of_leaves}
use Rattle.store.proofs.pen.Pen.container_of_leaves.Goals as goal

pub returns : goal.returns
returns g c =
    let three = rw c.SLIM.ensures at c.put_three.ensures in
    let fourth = rw (c.SLIM-2.ensures, c.leaf.ensures) at c.put.ensures.0 in
    record { tape = refl; laid = laid_container_of_leaves _ _ _ _ three fourth }
