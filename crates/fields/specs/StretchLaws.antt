-- Laws of stretches.
use Rattle.std.specs.Prelude.{◌≡◌, List, ℕ}
use Rattle.registry.specs.Registry.{number_of}
use Rattle.registry.specs.declared.Registry.{Registry}
use Rattle.fields.specs.Stretches.{of}
use Rattle.fields.specs.declared.stretch.Stretch.{Stretch}

-- what something is of a stretch that has this registry, these octets and this place
pub of_is : {A : Type 0} (f : ℕ → List ℕ → ℕ → A) (s : Stretch) {r : Registry} {v : List ℕ} {base : ℕ} → s.registry ≡ r → s.octets.now ≡ v → s.base.0 ≡ base → of f s ≡ f (number_of r) v base
of_is f s a b c = λ j. f (number_of (a j)) (b j) (c j)
