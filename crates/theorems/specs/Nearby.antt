-- What either layout asks of a reading: that the octets of what it shows fit their halves of a word.
use Rattle.std.specs.Prelude.{List, ℕ, ◌+◌, ◌≤◌, length}
use Rattle.tape.specs.Near.{Near}
use Rattle.calls.specs.Limits.{last_registry}
use Rattle.meaning.specs.Value.{Walk}
use Rattle.meaning.specs.AreaCall.{furthest}

-- whatever the checks 1 and 3 let pass lies at octets below 4,294,967,296
abbrev pub Nearby : Walk → Type 0
Nearby shows = (registry : ℕ) (area : List ℕ) (base : ℕ) → registry ≤ last_registry → base + length area ≤ furthest → Near (shows registry area base)
