-- What a walk shows, and what a push shows beside it.
use Rattle.std.specs.Prelude.{◌≡◌, refl, ℕ, ◌+◌, ◌-◌, ◌≤◌, ◌<◌, drop}
use Rattle.std.proofs.Math.Path.{ap}
use Rattle.std.proofs.Common.{◌∙◌, drop_of_length-le}
use mathlib.Core.List.{List, [], ◌∷◌}
use native.Mathlib.Omega.{arith}
use Rattle.std.proofs.Math.ListN.{length, length-drop}
use Rattle.registry.specs.Registry.{number_of}
use Rattle.registry.specs.declared.Registry.TheVariants.{Unregistered}
use Rattle.tape.specs.Forest.{Forest, none, ◌⧺◌}
use Rattle.tape.specs.ForestLaws.{⧺-none}
use Rattle.meaning.specs.Label
use Rattle.meaning.specs.Shape.{bytes}
use Rattle.meaning.specs.Frame.{entries, covered, remainder}
use Rattle.meaning.specs.Field.{push, Plan}
use Rattle.meaning.specs.Tree.{one, raw}
use Rattle.meaning.specs.Array.{array_of}
use Rattle.meaning.specs.Value.{Walk, push_by, field_trees}
use Rattle.meaning.specs.Area.{entry_trees, walk_trees, walked, pushed}

-- an area that is not empty shows one array over its entries
pub walk_shows : (plan : Plan) (walk : Walk) (registry : ℕ) (area : List ℕ) (base : ℕ) → (area ≡ [] → ⊥)
    → walk_trees plan walk registry area base ≡ array_of Label.sub_tlvs registry (entry_trees plan walk registry) base (entries area)
unfolding walk_trees
walk_shows plan walk registry [] base some = absurd (some refl)
walk_shows plan walk registry (x ∷ xs) base some = refl

-- the octets of v from a place on, as `raw`
module _ (registry place : ℕ) (v : List ℕ) (at : ℕ) where
  -- none are left
  pub raw_none : length v ≤ at → raw registry place (drop at v) ≡ none
  unfolding raw
  raw_none past = rw (drop_of_length-le v past)

  -- some are
  pub raw_some : at < length v → raw registry place (drop at v) ≡ one Label.raw bytes registry place (place + (length v - at)) 0
  unfolding raw
  raw_some inside = go (drop at v) (length v - at) (length-drop at v) (omega arith)
    where
      go : (xs : List ℕ) (n : ℕ) → length xs ≡ n → 0 < n → raw registry place xs ≡ one Label.raw bytes registry place (place + n) 0
      go [] n is some = absurd (omega (arith, is))
      go (x ∷ xs) n is some = rw (← is)

-- a push by any walk
module _ (walk : Walk) (registry : ℕ) (area : List ℕ) (base : ℕ) where
  -- where octets are left, a push is the walk and one `raw` record beside, over those octets
  pub push_left : 0 < length (remainder area)
      → push_by walk registry area base ≡ walk registry area base ⧺ one Label.raw bytes registry (base + covered area) (base + length area) 0
  unfolding push_by remainder
  push_left some =
      let left : covered area < length area = omega (arith, length-drop (covered area) area) in
      let ends : base + covered area + (length area - covered area) ≡ base + length area = omega arith in
      ap (λ (f : Forest). walk registry area base ⧺ f)
      (raw_some registry (base + covered area) area (covered area) left ∙ ap (λ (end : ℕ). one Label.raw bytes registry (base + covered area) end 0) ends)

  -- where none are left, it is the walk
  pub push_whole : remainder area ≡ [] → push_by walk registry area base ≡ walk registry area base
  unfolding push_by raw
  push_whole none_left = rw none_left (⧺-none (walk registry area base))

-- the push is the walk's
pub pushed_by : (plan : Plan) (registry : ℕ) (area : List ℕ) (base : ℕ) → pushed plan registry area base ≡ push_by (walked plan) registry area base
unfolding pushed
pushed_by plan registry area base = refl

-- what type 25 shows is a push in registry 5
pub push_field : (plan : Plan) (registry : ℕ) (v : List ℕ) (base at : ℕ) → field_trees (walked plan) registry v base (push at) ≡ pushed plan (number_of Unregistered) (drop at v) (base + at)
unfolding pushed field_trees
push_field plan registry v base at = refl
