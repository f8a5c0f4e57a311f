-- What the checks tell of an area and a tape, and what a call that is done counts.
use Rattle.std.specs.Prelude.{◌≡◌, Bool, true, List, ℕ, ◌+◌, ◌-◌, ◌≤◌, ◌<◌, length, Result, Ok, Err}
use Rattle.outcome.specs.Told.{told}
use Rattle.outcome.specs.declared.Done.{Done}
use Rattle.outcome.specs.declared.Refusal.{Refusal}
use Rattle.outcome.specs.declared.Refusal.TheVariants.{NoRoom}
use Rattle.tape.specs.Forest.{size}
use Rattle.registry.specs.declared.Registry.{Registry}
use Rattle.registry.specs.Registry.{number_of}
use Rattle.tape.specs.Tape.{used, room, headed}
use Rattle.meaning.specs.Value.{Walk}
use Rattle.meaning.specs.AreaCall.{longest, furthest, area_call}

-- the checks 2 to 4 let a call on the area pass, and so many records have room behind those that are used
pub record Passes (slim : Bool) (area : List ℕ) (base : ℕ) (t : List ℕ) (left : ℕ) : Type 0 where
  pub short : length area ≤ longest
  pub near : base + length area ≤ furthest
  pub good : headed slim t ≡ true
  pub free : left ≡ room slim t - used t

-- .. or every call on the area is refused so
abbrev pub Checked : Bool → List ℕ → ℕ → List ℕ → Result ℕ Refusal → Type 0
Checked slim area base t (Ok left) = Passes slim area base t left
Checked slim area base t (Err e) = (shows : Walk) (registry : Registry) → area_call slim shows (number_of registry) area base t ≡ record { outcome = told (Err e); lent = t }

-- the check 5 of a call that shows an area of the registry number k so, where so many records have room: they are no more, or the refusal tells how many they are
abbrev pub Fits : Walk → ℕ → List ℕ → ℕ → Result (Unit {0}) Refusal → Type 0
Fits shows k area left (Ok passed) = (base : ℕ) → size (shows k area base) ≤ left
Fits shows k area left (Err e) = (base : ℕ) → (e ≡ NoRoom (size (shows k area base))) × (left < size (shows k area base))

-- what a call that is done counts: octets covered, and as many records written as needed
abbrev pub done : ℕ → ℕ → Done
done octets records = record { covered = octets; written = records; needed = records }
