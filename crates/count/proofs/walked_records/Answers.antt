-- The walk's records.
use Rattle.meaning.specs.Area.{walked}
use Rattle.count.proofs.walked_records.Goals as goal

pub returns : goal.returns
unfolding walked
returns c = c.count_area.ensures.records
