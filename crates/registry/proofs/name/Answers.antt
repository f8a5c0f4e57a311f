-- The registry of the number, or refusal 1.
use Rattle.std.proofs.Common.{sym, ◌∙◌}
use Rattle.registry.proofs.NameCallLaws.{unknown_refused, known_named}
use Rattle.registry.proofs.name.Goals as goal

pub returns-in_err-try_from : goal.returns-in_err-try_from
returns-in_err-try_from c = unknown_refused _ _ _ _ _ (sym c.try_from.ensures ∙ c.in_err-try_from.was) c.from_residual.ensures.1

pub returns : goal.returns
returns c = known_named _ _ _ (sym c.try_from.ensures ∙ c.in_ok-try_from.was) c.name.ensures
