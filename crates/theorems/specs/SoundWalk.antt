-- What a walk and a push show is sound, at most 4 containers deep.
use Rattle.std.specs.Prelude.{◌≡◌, Bool, true, false, ◌||◌, ℕ, suc, ◌+◌, ◌%◌, ◌^◌, ◌≤◌, leb, eqb, get_or, drop}
use Rattle.std.proofs.Math.Path.{refl}
use Rattle.std.proofs.Common.{sym, true≢false, arith, eqb-true}
use mathlib.Core.List.{List, [], ◌∷◌}
use Rattle.std.proofs.Math.ListN.{length}
use Rattle.octets.specs.BigEndian.{big_endian}
use Rattle.registry.specs.Registry.{number_of}
use Rattle.registry.specs.declared.Registry.TheVariants.{Srv6Sid, Unregistered}
use Rattle.calls.specs.Limits.{last_registry}
use Rattle.tape.specs.Forest.{Forest, none}
use Rattle.meaning.specs.Label.{Label}
use Rattle.meaning.specs.Shape.{Shape, u8, u32, ipv6, bytes, Container, array as array_shape, object, has_number}
use Rattle.meaning.specs.Cut.{total, each}
use Rattle.meaning.specs.Frame.{entries, covered, remainder}
use Rattle.meaning.specs.Field.{Element, numbers, msds, ranges, Field, part, flag, sid, array, tail, push, Plan}
use Rattle.meaning.specs.Tree.{one, over, raw, number_in}
use Rattle.meaning.specs.Sid.{sid_trees}
use Rattle.meaning.specs.Array.{start_of, element_trees, array_of}
use Rattle.meaning.specs.Tail.{length_at, inner_fits, inner}
use Rattle.meaning.specs.Value.{Walk, push_by, field_trees, value_trees}
use Rattle.meaning.specs.Area.{entry_trees, walk_trees, no_walk, inner_walk, walked, pushed}
use Rattle.theorems.specs.Closed.{either, push_closed, value_closed}
use Rattle.theorems.specs.Sound.{Sound}
use Rattle.theorems.specs.SoundLaws.{fine_leaf, fine_node, sound_none, sound-⧺, sound_closed, sound_deeper, sound_each}
use Rattle.theorems.specs.Plan.{is_inner, is_plain, Every, Flat}
use Rattle.theorems.specs.PlanLaws.{every, every_plain}

-- records

module _ (d registry : ℕ) (low : registry ≤ last_registry) where
  sound_one : (label : Label) (shape : Shape) (start end n : ℕ) → start ≤ end → (has_number shape ≡ false → n ≡ 0) → Sound d (one label shape registry start end n)
  unfolding Sound
  sound_one label shape start end n order empty = (fine_leaf label shape registry start end n low order empty, tt)

  -- octets without a number
  sound_octets : (label : Label) (shape : Shape) (start end : ℕ) → start ≤ end → Sound d (one label shape registry start end 0)
  sound_octets label shape start end order = sound_one label shape start end 0 order (λ e. refl)

  -- a number
  sound_number : (label : Label) (shape : Shape) (start end n : ℕ) → start ≤ end → has_number shape ≡ true → Sound d (one label shape registry start end n)
  sound_number label shape start end n order has = sound_one label shape start end n order (λ e. cc)

  -- where the shape carries one
  sound_part : (label : Label) (shape : Shape) (start end : ℕ) (v : List ℕ) (at width : ℕ) → start ≤ end → Sound d (one label shape registry start end (number_in shape v at width))
  sound_part label shape start end v at width order = sound_one label shape start end (number_in shape v at width) order (λ e. rw e refl)

  sound_over : (label : Label) (shape : Container) (start end : ℕ) (trees : Forest) → start ≤ end → Sound d trees → Sound (suc d) (over label shape registry start end trees)
  unfolding Sound
  sound_over label shape start end trees order x = (fine_node label shape registry start end low order, (x, tt))

  sound_raw : (at : ℕ) (xs : List ℕ) → Sound d (raw registry at xs)
  unfolding raw
  sound_raw at [] = sound_none d
  sound_raw at (x ∷ xs) = sound_octets Label.raw bytes at (at + length (x ∷ xs)) (omega arith)

  sound_sid : (label : Label) (v : List ℕ) (base at : ℕ) → Sound d (sid_trees label registry v base at)
  unfolding sid_trees
  sound_sid label v base at =
      either (Sound d) (leb (at + 4) (length v)) _ _ (sound_number label u32 (base + at) (base + at + 4) (big_endian v at 4) (omega arith) refl)
      (either (Sound d) (leb (at + 3) (length v)) _ none (sound_number label u32 (base + at) (base + at + 3) (big_endian v at 3 % 2 ^ 20) (omega arith) refl) (sound_none _))

-- a push
sound_push : (d : ℕ) (walk : Walk) (registry : ℕ) (area : List ℕ) (base : ℕ) → registry ≤ last_registry → Sound d (walk registry area base) → Sound d (push_by walk registry area base)
sound_push d walk registry area base low x = push_closed (Sound d) (sound_closed d) walk registry area base x (sound_raw d registry low (base + covered area) (remainder area))

-- arrays

module _ (registry : ℕ) (low : registry ≤ last_registry) where
  sound_element : (element : Element) (p : List ℕ) (at : ℕ) → Sound 1 (element_trees element registry p at)
  unfolding element_trees
  sound_element (numbers label shape width) p at = sound_part 1 registry low label shape at (at + width) p 0 width (omega arith)
  sound_element msds p at =
      sound_over 0 registry low Label.msd object at (at + 2) _ (omega arith)
      (sound-⧺ 0 _ _ (sound_number 0 registry low Label.msd_type u8 at (at + 1) (get_or p 0 0) (omega arith) refl)
      (sound_number 0 registry low Label.msd_value u8 (at + 1) (at + 2) (get_or p 1 0) (omega arith) refl))
  sound_element ranges p at =
      sound_over 0 registry low Label.range object at (at + length p) _ (omega arith)
      (sound-⧺ 0 _ _ (sound_number 0 registry low Label.range_size u32 at (at + 3) (big_endian p 0 3) (omega arith) refl)
      (sound_sid 0 registry low Label.range_sid p at 5))

  sound_array : (d : ℕ) (label : Label) (f : List ℕ → ℕ → Forest) (at : ℕ) (ps : List (List ℕ)) → ((p : List ℕ) (at : ℕ) → Sound d (f p at)) → Sound (suc d) (array_of label registry f at ps)
  unfolding array_of
  sound_array d label f at ps x = sound_over d registry low label array_shape at (at + total ps) (each f at ps) (omega arith) (sound_each d f x ps at)

-- values

module _ (walk : Walk) (registry : ℕ) (low : registry ≤ last_registry) (v : List ℕ) (base : ℕ) where
  sound_plain : (f : Field) → is_plain f ≡ true → Sound 0 (field_trees walk registry v base f)
  unfolding field_trees
  sound_plain (part label shape at width) e = sound_part 0 registry low label shape (base + at) (base + at + width) v at width (omega arith)
  sound_plain (flag label mask) e = sound_number 0 registry low label u8 base (base + 1) _ (omega arith) refl
  sound_plain (sid at) e = sound_sid 0 registry low Label.sid v base at
  sound_plain (array label span element) e = absurd (true≢false (sym e))
  sound_plain (tail at) e = absurd (true≢false (sym e))
  sound_plain (push at) e = absurd (true≢false (sym e))

  plain_deeper : (f : Field) → is_plain f ≡ true → Sound 2 (field_trees walk registry v base f)
  plain_deeper f e = sound_deeper 1 (field_trees walk registry v base f) (sound_deeper 0 (field_trees walk registry v base f) (sound_plain f e))

  -- where what is walked inside is sound
  sound_field : ((r : ℕ) (area : List ℕ) (at : ℕ) → is_inner r ≡ true → Sound 2 (walk r area at)) → (f : Field) → Sound 2 (field_trees walk registry v base f)
  unfolding field_trees
  sound_field inside (part label shape at width) = plain_deeper (part label shape at width) refl
  sound_field inside (flag label mask) = plain_deeper (flag label mask) refl
  sound_field inside (sid at) = plain_deeper (sid at) refl
  sound_field inside (array label span element) = sound_array registry low 1 label (element_trees element registry) (base + start_of span) _ (sound_element registry low element)
  sound_field inside (tail at) =
      sound-⧺ 2 _ _ (sound_octets 2 registry low Label.srv6_sid ipv6 (base + at) (base + length_at at) (omega arith))
      (either (Sound 2) (inner_fits v at) _ none (inside (number_of Srv6Sid) (inner v at) (base + (length_at at + 1)) refl) (sound_none _))
  sound_field inside (push at) =
      sound_push 2 walk (number_of Unregistered) (drop at v) (base + at) (omega arith) (inside (number_of Unregistered) (drop at v) (base + at) refl)

  sound_value : (d : ℕ) (fs : List Field) → Every (λ (f : Field). Sound d (field_trees walk registry v base f)) fs → Sound d (value_trees walk registry v base fs)
  sound_value d =
      value_closed (Sound d) (sound_closed d) walk registry v base
      (sound_octets d registry low Label.value bytes base (base + length v) (omega arith))
      (λ n. sound_raw d registry low (base + n) (drop n v))

-- areas

-- a walk is two containers deeper than the values in it
module _ (plan : Plan) (walk : Walk) (registry : ℕ) (low : registry ≤ last_registry) (d : ℕ)
    (values : (t : ℕ) (v : List ℕ) (at : ℕ) → Sound d (value_trees walk registry v at (plan registry t v))) where
  sound_entry : (e : List ℕ) (at : ℕ) → Sound (suc d) (entry_trees plan walk registry e at)
  unfolding entry_trees
  sound_entry e at =
      sound_over d registry low Label.sub_tlv object at (at + length e) _ (omega arith)
      (sound-⧺ d _ _ (sound_number d registry low Label.type u8 at (at + 1) (get_or e 0 0) (omega arith) refl)
      (sound-⧺ d _ _ (sound_number d registry low Label.length u8 (at + 1) (at + 2) (get_or e 1 0) (omega arith) refl)
      (values (get_or e 0 0) (drop 2 e) (at + 2))))

  sound_walk : (area : List ℕ) (base : ℕ) → Sound (suc (suc d)) (walk_trees plan walk registry area base)
  unfolding walk_trees
  sound_walk [] base = sound_none (suc (suc d))
  sound_walk (x ∷ xs) base = sound_array registry low (suc d) Label.sub_tlvs (entry_trees plan walk registry) base (entries (x ∷ xs)) sound_entry

-- the registries of areas inside a value are registries
inner_low : (registry : ℕ) → is_inner registry ≡ true → registry ≤ last_registry
inner_low registry e = go (eqb registry (number_of Srv6Sid)) refl e
  where
    go : (b : Bool) → eqb registry (number_of Srv6Sid) ≡ b → (b || eqb registry (number_of Unregistered)) ≡ true → registry ≤ last_registry
    go true is e = omega (arith, eqb-true registry (number_of Srv6Sid) is)
    go false is e = omega (arith, eqb-true registry (number_of Unregistered) e)

module _ (plan : Plan) (flat : Flat plan) where
  -- inside a value: two deep
  sound_inner : (registry : ℕ) (area : List ℕ) (base : ℕ) → is_inner registry ≡ true → Sound 2 (inner_walk plan registry area base)
  unfolding inner_walk
  sound_inner registry area base inside =
      sound_walk plan no_walk registry (inner_low registry inside) 0
      (λ t v at. sound_value no_walk registry (inner_low registry inside) v at 0 (plan registry t v)
      (every_plain _ (sound_plain no_walk registry (inner_low registry inside) v at) (plan registry t v) (flat registry t v inside)))
      area base

  pub sound_walked : (registry : ℕ) (area : List ℕ) (base : ℕ) → registry ≤ last_registry → Sound 4 (walked plan registry area base)
  unfolding walked
  sound_walked registry area base low =
      sound_walk plan (inner_walk plan) registry low 2
      (λ t v at. sound_value (inner_walk plan) registry low v at 2 (plan registry t v) (every _ (sound_field (inner_walk plan) registry low v at sound_inner) (plan registry t v)))
      area base

  pub sound_pushed : (registry : ℕ) (area : List ℕ) (base : ℕ) → registry ≤ last_registry → Sound 4 (pushed plan registry area base)
  unfolding pushed
  sound_pushed registry area base low = sound_push 4 (walked plan) registry area base low (sound_walked registry area base low)
