-- The call `name` (document 01, 'Numbers a call gives back').
use Rattle.std.specs.Prelude.{ℕ, cond, List, leb, length, Option, Some, None}
use Rattle.outcome.specs.Call.{After, refusal}
use Rattle.octets.specs.Copy.{in_front}
use Rattle.registry.specs.Names.{name_of}
use Rattle.registry.specs.Registry.{registry_of}
use Rattle.registry.specs.declared.Registry.{Registry}

-- done: the name in front of the lent octets, and written is its length
abbrev pub name_written : List ℕ → List ℕ → After
name_written name lent = record { outcome = record { answer = 0; covered = 0; written = length name; needed = 0 }; lent = in_front name lent }

-- a name longer than the lent octets is refused with 9
unfoldable pub named : List ℕ → List ℕ → After
named name lent = cond (leb (length name) (length lent)) (name_written name lent) (refusal 9 lent)

-- a registry not 0 to 5 is refused with 1
unfoldable pub name_in : Option Registry → ℕ → List ℕ → After
name_in None t lent = refusal 1 lent
name_in (Some registry) t lent = named (name_of registry t) lent

-- the call, from registry number, type and lent octets
abbrev pub name_call : ℕ → ℕ → List ℕ → After
name_call registry t lent = name_in (registry_of registry) t lent
