-- The leaf's record is put.
use Rattle.tape.proofs.LaidLaws.{laid_leaf}
use Rattle.store.proofs.pen.Pen.leaf.Goals as goal

pub returns : goal.returns
returns g c = record { tape = c.put.ensures.tape; laid = laid_leaf _ (rw (← c.leaf.ensures) c.put.ensures.words) }
