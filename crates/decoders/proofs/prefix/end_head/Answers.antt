-- Two numbers, one after the other.
use Rattle.store.specs.PenLaws.{writes_then}
use Rattle.decoders.proofs.prefix.end_head.Goals as goal

pub returns : goal.returns
returns g c = writes_then c.number.ensures c.number-2.ensures
