-- The contract of a function that writes records: what it asks for, and what it leaves.
use Rattle.std.specs.Prelude.{◌≡◌, Bool, List, ℕ, ◌+◌, ◌^◌, ◌<◌, ◌≤◌}
use Rattle.std.specs.Borrow.{Bor, MutBor}
use denote.Triple.Both.{Both}
use Rattle.tape.specs.Tape.{room, store}
use Rattle.tape.specs.Forest.{Forest, size, flat}
use Rattle.tape.specs.declared.Position.{Position}

-- from position at to position next the forest f was laid on the tape t, which made it u; nothing else changed, and its room did not
pub record Laid (slim : Bool) (f : Forest) (t u : List ℕ) (at next : ℕ) : Type 0 where
  pub place : next ≡ at + size f
  pub words : u ≡ store slim t at (flat at f)
  pub same : room slim u ≡ room slim t

-- the tape t has room for n records; no tape has room for 2^60
pub record RoomFor (slim : Bool) (t : List ℕ) (n : ℕ) : Type 0 where
  pub fits : n ≤ room slim t
  pub small : room slim t < 2 ^ 60

-- n octets whose first stands at base end below place 2^32, and the tape t has room for the forest f from position at on
pub record Room (slim : Bool) (f : Forest) (n base : ℕ) (t : List ℕ) (at : ℕ) : Type 0 where
  pub octet : base + n < 2 ^ 32
  pub position : RoomFor slim t (at + size f)

-- the same of a function's parameters: a slice that it was lent to read, as it is passed ..
abbrev pub Lent : Type 0
Lent = Bor (List ℕ)

-- .. and as it was passed and is when the function returns
abbrev pub Used : Type 0
Used = Both Lent Lent

-- what a slice held as it was passed
abbrev pub was : Used → List ℕ
was slice = slice.entry.now

-- a tape that it was lent to write, as it is passed ..
abbrev pub LentTape : Type 0
LentTape = MutBor (List ℕ)

-- .. and as it was passed and is when the function returns
abbrev pub UsedTape : Type 0
UsedTape = Both LentTape LentTape

-- a function lays the forest f on a tape, from position at up to position next
abbrev pub Lays : Bool → Forest → UsedTape → Position → Position → Type 0
Lays slim f tape at next = Laid slim f tape.entry.now tape.exit.now at.0 next.0
