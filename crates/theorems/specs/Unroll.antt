-- Document 01's own recursion: a walk decodes an entry, and an entry walks again.
use Rattle.std.specs.Prelude.{◌≡◌, true, ℕ, ◌+◌, get_or, drop}
use Rattle.std.proofs.Math.Path.{refl}
use Rattle.std.proofs.Common.{sym, true≢false}
use mathlib.Core.List.{List, [], ◌∷◌}
use Rattle.registry.specs.Registry.{number_of}
use Rattle.registry.specs.declared.Registry.TheVariants.{Srv6Sid, Unregistered}
use Rattle.meaning.specs.CutLaws.{each_same}
use Rattle.meaning.specs.Frame.{entries}
use Rattle.meaning.specs.Field.{Field, part, flag, sid, array, tail, push, Plan}
use Rattle.meaning.specs.Array.{array_of}
use Rattle.meaning.specs.Tail.{length_at, inner}
use Rattle.meaning.specs.Value.{Walk, push_by, field_trees, fields_trees, value_trees}
use Rattle.meaning.specs.Area.{entry_trees, walk_trees, no_walk, inner_walk, walked}
use Rattle.theorems.specs.Plan.{is_inner, is_plain, Every, Flat}
use Rattle.theorems.specs.PlanLaws.{every, every_plain}

-- two walks of areas inside values
module _ (walk walk' : Walk) (registry : ℕ) (v : List ℕ) (base : ℕ) where
  -- a field becomes the same by both
  abbrev Same : Field → Type 0
  Same f = field_trees walk registry v base f ≡ field_trees walk' registry v base f

  plain_same : (f : Field) → is_plain f ≡ true → Same f
  unfolding field_trees
  plain_same (part label shape at width) e = refl
  plain_same (flag label mask) e = refl
  plain_same (sid at) e = refl
  plain_same (array label span element) e = absurd (true≢false (sym e))
  plain_same (tail at) e = absurd (true≢false (sym e))
  plain_same (push at) e = absurd (true≢false (sym e))

  -- where they walk areas inside values alike
  field_same : ((r : ℕ) (area : List ℕ) (at : ℕ) → is_inner r ≡ true → walk r area at ≡ walk' r area at) → (f : Field) → Same f
  unfolding field_trees push_by
  field_same alike (part label shape at width) = refl
  field_same alike (flag label mask) = refl
  field_same alike (sid at) = refl
  field_same alike (array label span element) = refl
  field_same alike (tail at) = rw (alike (number_of Srv6Sid) (inner v at) (base + (length_at at + 1)) refl)
  field_same alike (push at) = rw (alike (number_of Unregistered) (drop at v) (base + at) refl)

  fields_same : (fs : List Field) → Every Same fs → fields_trees walk registry v base fs ≡ fields_trees walk' registry v base fs
  unfolding fields_trees
  fields_same [] x = refl
  fields_same (f ∷ fs) x = rw (x.0, fields_same fs x.1)

  value_same : (fs : List Field) → Every Same fs → value_trees walk registry v base fs ≡ value_trees walk' registry v base fs
  unfolding value_trees
  value_same [] x = refl
  value_same (f ∷ fs) x = rw (fields_same (f ∷ fs) x)

-- two walks that read values alike
walk_same : (plan : Plan) (walk walk' : Walk) (registry : ℕ)
    → ((t : ℕ) (v : List ℕ) (at : ℕ) → value_trees walk registry v at (plan registry t v) ≡ value_trees walk' registry v at (plan registry t v))
    → (area : List ℕ) (base : ℕ) → walk_trees plan walk registry area base ≡ walk_trees plan walk' registry area base
unfolding walk_trees array_of entry_trees
walk_same plan walk walk' registry same [] base = refl
walk_same plan walk walk' registry same (x ∷ xs) base =
    rw (each_same (entry_trees plan walk registry) (entry_trees plan walk' registry) (λ e at. rw (same (get_or e 0 0) (drop 2 e) (at + 2))) (entries (x ∷ xs)) base)

module _ (plan : Plan) (flat : Flat plan) where
  -- in an area inside a value nothing is walked again
  inner_same : (walk walk' : Walk) (registry : ℕ) (area : List ℕ) (base : ℕ) → is_inner registry ≡ true → walk_trees plan walk registry area base ≡ walk_trees plan walk' registry area base
  inner_same walk walk' registry area base inside =
      walk_same plan walk walk' registry
      (λ t v at. value_same walk walk' registry v at (plan registry t v)
      (every_plain (Same walk walk' registry v at) (plain_same walk walk' registry v at) (plan registry t v) (flat registry t v inside)))
      area base

  -- a walk is by itself the walk of the areas inside values
  pub walked_again : (registry : ℕ) (area : List ℕ) (base : ℕ) → walked plan registry area base ≡ walk_trees plan (walked plan) registry area base
  unfolding walked inner_walk
  walked_again registry area base =
      walk_same plan (inner_walk plan) (walked plan) registry
      (λ t v at. value_same (inner_walk plan) (walked plan) registry v at (plan registry t v)
      (every (Same (inner_walk plan) (walked plan) registry v at)
      (field_same (inner_walk plan) (walked plan) registry v at (inner_same no_walk (inner_walk plan))) (plan registry t v)))
      area base
