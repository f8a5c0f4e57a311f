-- Four numbers, one after the other.
use Rattle.store.specs.PenLaws.{writes_then}
use Rattle.neighbor.proofs.end_x_head.Goals as goal

pub returns : goal.returns
returns g c = writes_then c.number.ensures (writes_then c.number-2.ensures (writes_then c.number-3.ensures c.number-4.ensures))
