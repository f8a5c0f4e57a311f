-- Refused under 4 words; otherwise the four words of the header, and what stood behind them.
use mathlib.Core.Path.{refl}
use Rattle.outcome.specs.CallLaws.{gives_as}
use Rattle.calls.specs.CallsLaws.{clear_4, clear_0, cleared_front}
use Rattle.calls.proofs.clear.Goals as goal

pub returns-in_default : goal.returns-in_default
returns-in_default c = gives_as (clear_4 _ _ c.in_default.ensures.cases) (record { gave = refl; left = refl })

pub returns : goal.returns
returns c = gives_as (clear_0 _ _ c.in-Some.ensures.cases.enough) (record { gave = refl; left = rw c.width-words.ensures.0 (cleared_front _ _ c.in-Some.ensures.cases.enough) })
