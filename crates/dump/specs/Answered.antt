-- What an answer of the code tells: 10 where the input is not taken, and otherwise what the push gave.
use Rattle.std.specs.Prelude.{Option, Some, None, Result}
use Rattle.outcome.specs.Call.{Outcome, refused}
use Rattle.outcome.specs.Told.{told}
use Rattle.outcome.specs.declared.Done.{Done}
use Rattle.outcome.specs.declared.Refusal.{Refusal}

abbrev pub answered : Option (Result Done Refusal) → Outcome
answered None = refused 10
answered (Some outcome) = told outcome
