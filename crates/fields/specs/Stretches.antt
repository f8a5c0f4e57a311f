-- A stretch of octets, as definitions speak of it: registry, octets, the place of the first.
use Rattle.std.specs.Prelude.{List, ℕ}
use Rattle.registry.specs.Registry.{number_of}
use Rattle.fields.specs.declared.stretch.Stretch.{Stretch}

-- its octets
abbrev pub octets_of : Stretch → List ℕ
octets_of s = s.octets.now

-- what something of registry, octets and place is of a stretch
abbrev pub of : {A : Type 0} → (ℕ → List ℕ → ℕ → A) → Stretch → A
of f s = f (number_of s.registry) s.octets.now s.base.0
