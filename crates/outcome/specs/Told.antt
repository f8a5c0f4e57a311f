-- What an outcome of the code tells, in document 01's numbers.
use Rattle.std.specs.Prelude.{Result, Ok, Err}
use Rattle.outcome.specs.Call.{Outcome, refused, no_room}
use Rattle.outcome.specs.declared.Done.{Done}
use Rattle.outcome.specs.declared.Refusal.{Refusal}
use Rattle.outcome.specs.declared.Refusal.TheVariants.{NoSuchRegistry, AreaTooLong, AreaTooFar, NoTape, NoRoom, PastCount, CutsContainer, Unreadable, NameTooLong}

-- done with what it counts, or the refusal of a number; only 5 tells how many records are needed
abbrev pub told : Result Done Refusal → Outcome
told (Ok d) = record { answer = 0; covered = d.covered; written = d.written; needed = d.needed }
told (Err NoSuchRegistry) = refused 1
told (Err AreaTooLong) = refused 2
told (Err AreaTooFar) = refused 3
told (Err NoTape) = refused 4
told (Err (NoRoom needed)) = no_room needed
told (Err PastCount) = refused 6
told (Err CutsContainer) = refused 7
told (Err Unreadable) = refused 8
told (Err NameTooLong) = refused 9
