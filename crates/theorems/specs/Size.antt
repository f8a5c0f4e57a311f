-- How many records are needed does not depend on base.
use Rattle.std.specs.Prelude.{◌≡◌, Bool, true, false, cond, ℕ, ◌+◌, leb, length, get_or, drop}
use Rattle.std.proofs.Math.Path.{refl}
use Rattle.std.proofs.Common.{sym, ◌∙◌}
use mathlib.Core.List.{List, [], ◌∷◌}
use Rattle.registry.specs.Registry.{number_of}
use Rattle.registry.specs.declared.Registry.TheVariants.{Srv6Sid, Unregistered}
use Rattle.tape.specs.Forest.{Forest, none, size, ◌⧺◌}
use Rattle.tape.specs.ForestLaws.{size-⧺}
use Rattle.meaning.specs.Label.{Label}
use Rattle.meaning.specs.Cut.{each}
use Rattle.meaning.specs.Frame.{entries, covered, remainder}
use Rattle.meaning.specs.Field.{Element, numbers, msds, ranges, Field, part, flag, sid, array, tail, push, Plan}
use Rattle.meaning.specs.Tree.{raw}
use Rattle.meaning.specs.Sid.{sid_trees}
use Rattle.meaning.specs.Array.{start_of, element_trees, array_of}
use Rattle.meaning.specs.Tail.{length_at, inner_fits, inner}
use Rattle.meaning.specs.Value.{taken, Walk, push_by, field_trees, fields_trees, value_trees}
use Rattle.meaning.specs.Area.{entry_trees, walk_trees, no_walk, inner_walk, walked, pushed}

-- trees of equal sizes

both_sizes : (f f' g g' : Forest) → size f ≡ size f' → size g ≡ size g' → size (f ⧺ g) ≡ size (f' ⧺ g')
both_sizes f f' g g' a b = size-⧺ f g ∙ cc (a, b) ∙ sym (size-⧺ f' g')

either_size : (b : Bool) (f f' g g' : Forest) → size f ≡ size f' → size g ≡ size g' → size (cond b f g) ≡ size (cond b f' g')
either_size true f f' g g' x y = x
either_size false f f' g g' x y = y

size_each : (f : List ℕ → ℕ → Forest) → ((p : List ℕ) (at at' : ℕ) → size (f p at) ≡ size (f p at')) → (ps : List (List ℕ)) (at at' : ℕ) → size (each f at ps) ≡ size (each f at' ps)
unfolding each
size_each f same [] at at' = refl
size_each f same (p ∷ ps) at at' = both_sizes (f p at) (f p at') (each f (at + length p) ps) (each f (at' + length p) ps) (same p at at') (size_each f same ps (at + length p) (at' + length p))

size_raw : (registry : ℕ) (xs : List ℕ) (at at' : ℕ) → size (raw registry at xs) ≡ size (raw registry at' xs)
unfolding raw
size_raw registry [] at at' = refl
size_raw registry (x ∷ xs) at at' = refl

size_sid : (label : Label) (registry : ℕ) (v : List ℕ) (at base base' : ℕ) → size (sid_trees label registry v base at) ≡ size (sid_trees label registry v base' at)
unfolding sid_trees
size_sid label registry v at base base' = either_size (leb (at + 4) (length v)) _ _ _ _ refl (either_size (leb (at + 3) (length v)) _ _ none none refl refl)

size_array : (label : Label) (registry : ℕ) (f : List ℕ → ℕ → Forest) → ((p : List ℕ) (at at' : ℕ) → size (f p at) ≡ size (f p at')) → (ps : List (List ℕ)) (at at' : ℕ)
    → size (array_of label registry f at ps) ≡ size (array_of label registry f at' ps)
unfolding array_of
size_array label registry f same ps at at' = rw (size_each f same ps at at') refl

size_element : (element : Element) (registry : ℕ) (p : List ℕ) (at at' : ℕ) → size (element_trees element registry p at) ≡ size (element_trees element registry p at')
unfolding element_trees ◌⧺◌
size_element (numbers label shape width) registry p at at' = refl
size_element msds registry p at at' = refl
size_element ranges registry p at at' = rw (size_sid _ registry p 5 at at') refl

size_push : (walk : Walk) (registry : ℕ) (area : List ℕ) (base base' : ℕ) → size (walk registry area base) ≡ size (walk registry area base') → size (push_by walk registry area base) ≡ size (push_by walk registry area base')
unfolding push_by
size_push walk registry area base base' same = both_sizes _ _ _ _ same (size_raw registry (remainder area) (base + covered area) (base' + covered area))

-- values and areas

-- where base does not matter to what is walked inside
module _ (walk : Walk) (same : (registry : ℕ) (area : List ℕ) (at at' : ℕ) → size (walk registry area at) ≡ size (walk registry area at')) where
  size_field : (registry : ℕ) (v : List ℕ) (base base' : ℕ) (f : Field) → size (field_trees walk registry v base f) ≡ size (field_trees walk registry v base' f)
  unfolding field_trees
  size_field registry v base base' (part label shape at width) = refl
  size_field registry v base base' (flag label mask) = refl
  size_field registry v base base' (sid at) = size_sid _ registry v at base base'
  size_field registry v base base' (array label span element) = size_array label registry (element_trees element registry) (size_element element registry) _ (base + start_of span) (base' + start_of span)
  size_field registry v base base' (tail at) =
      both_sizes _ _ _ _ refl (either_size (inner_fits v at) _ _ none none (same (number_of Srv6Sid) (inner v at) (base + (length_at at + 1)) (base' + (length_at at + 1))) refl)
  size_field registry v base base' (push at) =
      size_push walk (number_of Unregistered) (drop at v) (base + at) (base' + at) (same (number_of Unregistered) (drop at v) (base + at) (base' + at))

  size_fields : (registry : ℕ) (v : List ℕ) (base base' : ℕ) (fs : List Field) → size (fields_trees walk registry v base fs) ≡ size (fields_trees walk registry v base' fs)
  unfolding fields_trees
  size_fields registry v base base' [] = refl
  size_fields registry v base base' (f ∷ fs) = both_sizes _ _ _ _ (size_field registry v base base' f) (size_fields registry v base base' fs)

  size_value : (registry : ℕ) (v : List ℕ) (base base' : ℕ) (fs : List Field) → size (value_trees walk registry v base fs) ≡ size (value_trees walk registry v base' fs)
  unfolding value_trees
  size_value registry v base base' [] = refl
  size_value registry v base base' (f ∷ fs) = both_sizes _ _ _ _ (size_fields registry v base base' (f ∷ fs)) (size_raw registry (drop (taken v (f ∷ fs)) v) (base + taken v (f ∷ fs)) (base' + taken v (f ∷ fs)))

  size_walk : (plan : Plan) (registry : ℕ) (area : List ℕ) (base base' : ℕ) → size (walk_trees plan walk registry area base) ≡ size (walk_trees plan walk registry area base')
  unfolding walk_trees entry_trees ◌⧺◌
  size_walk plan registry [] base base' = refl
  size_walk plan registry (x ∷ xs) base base' =
      size_array _ registry (entry_trees plan walk registry) (λ e at at'. rw (size_value registry (drop 2 e) (at + 2) (at' + 2) (plan registry (get_or e 0 0) (drop 2 e))) refl) (entries (x ∷ xs)) base base'

pub size_walked : (plan : Plan) (registry : ℕ) (area : List ℕ) (base base' : ℕ) → size (walked plan registry area base) ≡ size (walked plan registry area base')
unfolding walked inner_walk
size_walked plan = size_walk (inner_walk plan) (size_walk no_walk (λ registry area at at'. refl) plan) plan

pub size_pushed : (plan : Plan) (registry : ℕ) (area : List ℕ) (base base' : ℕ) → size (pushed plan registry area base) ≡ size (pushed plan registry area base')
unfolding pushed
size_pushed plan registry area base base' = size_push (walked plan) registry area base base' (size_walked plan registry area base base')
