-- The walk, and the octets that it leaves.
use mathlib.Core.Path.{◌∙◌}
use Rattle.meaning.specs.Area.{walked, pushed}
use Rattle.count.specs.AreaCount.{push_counted}
use Rattle.count.proofs.pushed_records.Goals as goal

pub returns : goal.returns
unfolding walked pushed
returns c = λ base. c.with_rest.ensures.0 ∙ push_counted _ _ c.count_area.ensures base
