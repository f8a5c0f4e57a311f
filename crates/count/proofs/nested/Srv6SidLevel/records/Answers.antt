-- By any walk.
use Rattle.meaning.specs.Area.{no_walk}
use Rattle.count.proofs.nested.Srv6SidLevel.records.Goals as goal

pub returns : goal.returns
returns c = c.srv6_sid.ensures no_walk
