-- For n octets, n at least 1, needed is at most 1 + floor(7n / 3).
use Rattle.std.specs.Prelude.{◌≡◌, refl, Bool, true, false, cond, leb, get_or, take, drop}
use Rattle.std.proofs.Common.{sym, true≢false, length-take, length-take-le}
use mathlib.Core.List.{List, [], ◌∷◌}
use Prim.Native.Nat.{ℕ, suc, ◌+◌, ◌*◌, ◌/◌, ◌≤◌, ◌<◌}
use Rattle.std.proofs.Math.Decide.{dec_le}
use native.Mathlib.Omega.{arith}
use borrow.Author.Tests.{leb-true}
use Rattle.std.proofs.Math.ListN.{length, length-drop}
use Rattle.registry.specs.Registry.{number_of}
use Rattle.registry.specs.declared.Registry.TheVariants.{Srv6Sid, Unregistered}
use Rattle.tape.specs.Both.{both}
use Rattle.tape.specs.Forest.{Forest, none, size, ◌⧺◌}
use Rattle.tape.specs.ForestLaws.{⧺-none, size-⧺}
use Rattle.meaning.specs.Label.{Label}
use Rattle.meaning.specs.Cut.{Measure, pieces, total, each}
use Rattle.meaning.specs.CutLaws.{pieces_ind, total_le}
use Rattle.meaning.specs.Frame.{entry_length, entries, covered, remainder, range_length}
use Rattle.meaning.specs.FrameLaws.{whole_fits, whole_is, entry_fits, range_fits, range_eight, covered_le, length_remainder}
use Rattle.meaning.specs.Field.{Span, from, first, Element, numbers, msds, ranges, Field, part, flag, sid, array, tail, push, Plan}
use Rattle.meaning.specs.Tree.{raw}
use Rattle.meaning.specs.Sid.{sid_end}
use Rattle.meaning.specs.SidLaws.{size_sid_le, sid_four_end, sid_three_end}
use Rattle.meaning.specs.Array.{octets_in, start_of, element_length, element_trees, array_of}
use Rattle.meaning.specs.Tail.{length_at, inner_fits, inner}
use Rattle.meaning.specs.Value.{field_end, taken, Walk, push_by, field_trees, fields_trees, value_trees}
use Rattle.meaning.specs.Area.{entry_trees, walk_trees, no_walk, inner_walk, walked, pushed}
use Rattle.theorems.specs.Plan.{is_plain, need, are_sparing, Spare, Sparing}

-- pieces

-- where each piece shows at most 7 records for 3 octets, so do all
pieces_bound : (m : Measure) → ((xs : List ℕ) → m xs ≤ length xs) → (f : List ℕ → ℕ → Forest) → ((xs : List ℕ) → 0 < m xs → (at : ℕ) → 3 * size (f (take (m xs) xs) at) ≤ 7 * m xs)
    → (xs : List ℕ) (at : ℕ) → 3 * size (each f at (pieces m xs)) ≤ 7 * total (pieces m xs)
unfolding each total
pieces_bound m fits f small =
    pieces_ind m fits (λ xs ps. (at : ℕ) → 3 * size (each f at ps) ≤ 7 * total ps)
    (λ xs e at. omega arith)
    (λ xs some ih at. rw size-⧺ (omega (arith, small xs some at, ih (at + length (take (m xs) xs)), length-take-le (m xs) xs (fits xs))))

size_raw_le : (registry at : ℕ) (xs : List ℕ) → size (raw registry at xs) ≤ length xs
unfolding raw
size_raw_le registry at [] = omega arith
size_raw_le registry at (x ∷ xs) = omega arith

-- a push, where the walk shows at most 7 records for 3 octets covered, beside its array
push_bound : (walk : Walk) (registry : ℕ) (area : List ℕ) (base : ℕ) → 3 * size (walk registry area base) ≤ 3 + 7 * covered area → 3 * size (push_by walk registry area base) ≤ 3 + 7 * length area
unfolding push_by
push_bound walk registry area base small = rw size-⧺ (omega (arith, size_raw_le registry (base + covered area) (remainder area), length_remainder area))

-- a tail
tail_bound : (b : Bool) (f : Forest) (at c : ℕ) → 3 * size f ≤ 3 + 7 * c → 3 * (1 + size (cond b f none)) + 7 * (at + 16) ≤ 3 + 7 * cond b (at + 16 + 1 + c) (at + 16)
tail_bound true f at c h = omega arith
tail_bound false f at c h = omega arith

-- elements

pub element_fits : (element : Element) (xs : List ℕ) → element_length element xs ≤ length xs
element_fits (numbers label shape width) xs = whole_fits width xs
element_fits msds xs = whole_fits 2 xs
element_fits ranges xs = range_fits xs

element_small : (element : Element) (registry : ℕ) (xs : List ℕ) → 0 < element_length element xs → (at : ℕ)
    → 3 * size (element_trees element registry (take (element_length element xs) xs) at) ≤ 7 * element_length element xs
unfolding element_trees ◌⧺◌
element_small (numbers label shape width) registry xs some at = omega arith
element_small msds registry xs some at = omega (arith, whole_is 2 xs some)
element_small ranges registry xs some at = omega (arith, range_eight xs some, size_sid_le Label.range_sid registry (take (range_length xs) xs) at 5)

array_bound : (label : Label) (registry at : ℕ) (element : Element) (xs : List ℕ)
    → 3 * size (array_of label registry (element_trees element registry) at (pieces (element_length element) xs)) ≤ 3 + 7 * total (pieces (element_length element) xs)
unfolding array_of
array_bound label registry at element xs =
    omega (arith, pieces_bound (element_length element) (element_fits element) (element_trees element registry) (element_small element registry) xs at)

-- ends

-- a SID that is there ends after 3 or 4 octets, inside
sid_ends : (v : List ℕ) (at : ℕ) → at + 3 ≤ length v → (at + 3 ≤ sid_end v at) × (sid_end v at ≤ length v)
sid_ends v at inside = go (dec_le (at + 4) (length v))
  where
    go : Dec (at + 4 ≤ length v) → (at + 3 ≤ sid_end v at) × (sid_end v at ≤ length v)
    go (yes long) = (omega (arith, sid_four_end v at long), omega (arith, sid_four_end v at long))
    go (no short) =
        let three : length v ≡ at + 3 = omega arith in
        (omega (arith, sid_three_end v at three), omega (arith, sid_three_end v at three))

pub span_inside : (span : Span) (v : List ℕ) → start_of span ≤ length v → start_of span + length (octets_in span v) ≤ length v
span_inside (from at) v inside = omega (arith, length-drop at v)
span_inside (first n) v inside = omega (arith, length-take n v)

tail_inside : (v : List ℕ) (at : ℕ) → length_at at ≤ length v → cond (inner_fits v at) (length_at at + 1 + covered (inner v at)) (length_at at) ≤ length v
tail_inside v at inside = go (inner_fits v at) refl
  where
    go : (b : Bool) → inner_fits v at ≡ b → cond b (length_at at + 1 + covered (inner v at)) (length_at at) ≤ length v
    go true e =
        omega (arith, leb-true (length_at at + 1 + get_or v (length_at at) 0) (length v) e, covered_le (inner v at), length-take (get_or v (length_at at) 0) (drop (length_at at + 1) v))
    go false e = inside

-- a field that finds its octets ends inside the value
field_inside : (v : List ℕ) (f : Field) → need f ≤ length v → field_end v f ≤ length v
unfolding field_end
field_inside v (part label shape at width) inside = inside
field_inside v (flag label mask) inside = inside
field_inside v (sid at) inside = (sid_ends v at inside).1
field_inside v (array label span element) inside = omega (arith, span_inside span v inside, total_le (element_length element) (element_fits element) (octets_in span v))
field_inside v (tail at) inside = tail_inside v at inside
field_inside v (push at) inside = omega arith

-- an entry has at least its type and its length
pub entry_least : (xs : List ℕ) → 0 < entry_length xs → 2 ≤ entry_length xs
unfolding entry_length
entry_least xs some = omega (arith, whole_is (suc (suc (get_or xs 1 0))) xs some)

-- fields

-- where an area inside a value shows at most 7 records for 3 octets covered, beside its array
module _ (walk : Walk) (small : (registry : ℕ) (area : List ℕ) (at : ℕ) → 3 * size (walk registry area at) ≤ 3 + 7 * covered area) where
  field_bound : (registry : ℕ) (v : List ℕ) (base : ℕ) (f : Field) → need f ≤ length v → 3 * size (field_trees walk registry v base f) + 7 * need f ≤ 3 + 7 * field_end v f
  unfolding field_trees field_end
  field_bound registry v base (part label shape at width) inside = omega arith
  field_bound registry v base (flag label mask) inside = omega arith
  field_bound registry v base (sid at) inside = omega (arith, size_sid_le Label.sid registry v base at, (sid_ends v at inside).0)
  field_bound registry v base (array label span element) inside = omega (arith, array_bound label registry (base + start_of span) element (octets_in span v))
  field_bound registry v base (tail at) inside =
      rw size-⧺ (tail_bound (inner_fits v at) (walk (number_of Srv6Sid) (inner v at) (base + (length_at at + 1))) at (covered (inner v at)) (small (number_of Srv6Sid) (inner v at) (base + (length_at at + 1))))
  field_bound registry v base (push at) inside = omega (arith, push_bound walk (number_of Unregistered) (drop at v) (base + at) (small (number_of Unregistered) (drop at v) (base + at)), length-drop at v)

  plain_size : (registry : ℕ) (v : List ℕ) (base : ℕ) (f : Field) → is_plain f ≡ true → size (field_trees walk registry v base f) ≤ 1
  unfolding field_trees
  plain_size registry v base (part label shape at width) e = omega arith
  plain_size registry v base (flag label mask) e = omega arith
  plain_size registry v base (sid at) e = size_sid_le Label.sid registry v base at
  plain_size registry v base (array label span element) e = absurd (true≢false (sym e))
  plain_size registry v base (tail at) e = absurd (true≢false (sym e))
  plain_size registry v base (push at) e = absurd (true≢false (sym e))

  -- k fields stand before
  fields_bound : (registry : ℕ) (v : List ℕ) (base least k : ℕ) (f : Field) (fs : List Field) → least ≤ length v → are_sparing least k (f ∷ fs) ≡ true
      → (3 * size (fields_trees walk registry v base (f ∷ fs)) + 3 * k ≤ 5 + 7 * taken v (f ∷ fs)) × (taken v (f ∷ fs) ≤ length v)
  unfolding fields_trees taken
  fields_bound registry v base least k f [] long few =
      let x = both (leb (need f) least) (leb (3 * suc k) (5 + 7 * need f)) few in
      let a : need f ≤ least = leb-true _ _ x.0 in
      let b : 3 * suc k ≤ 5 + 7 * need f = leb-true _ _ x.1 in
      let c : need f ≤ length v = omega arith in
      (rw ⧺-none (omega (arith, field_bound registry v base f c)), field_inside v f c)
  fields_bound registry v base least k f (g ∷ fs) long few =
      let x = both (is_plain f) (are_sparing least (suc k) (g ∷ fs)) few in
      let ih = fields_bound registry v base least (suc k) g fs long x.1 in
      (rw size-⧺ (omega (arith, plain_size registry v base f x.0, ih.0)), ih.1)

  value_bound : (registry : ℕ) (v : List ℕ) (base : ℕ) (fs : List Field) → Spare fs (length v) → 3 * size (value_trees walk registry v base fs) ≤ 5 + 7 * length v
  unfolding value_trees
  value_bound registry v base [] spare = omega arith
  value_bound registry v base (f ∷ fs) spare =
      let n : ℕ = taken v (f ∷ fs) in
      let b = fields_bound registry v base spare.least 0 f fs spare.inside spare.few in
      rw size-⧺ (omega (arith, b.0, b.1, size_raw_le registry (base + n) (drop n v), length-drop n v))

  -- areas

  module _ (plan : Plan) (sparing : Sparing plan) where
    entry_bound : (registry : ℕ) (e : List ℕ) (at : ℕ) → 2 ≤ length e → 3 * size (entry_trees plan walk registry e at) ≤ 7 * length e
    unfolding entry_trees ◌⧺◌
    entry_bound registry e at long =
        omega (arith, value_bound registry (drop 2 e) (at + 2) (plan registry (get_or e 0 0) (drop 2 e)) (sparing registry (get_or e 0 0) (drop 2 e)), length-drop 2 e)

    entry_small : (registry : ℕ) (xs : List ℕ) → 0 < entry_length xs → (at : ℕ) → 3 * size (entry_trees plan walk registry (take (entry_length xs) xs) at) ≤ 7 * entry_length xs
    entry_small registry xs some at =
        let l : length (take (entry_length xs) xs) ≡ entry_length xs = length-take-le (entry_length xs) xs (entry_fits xs) in
        omega (arith, entry_bound registry (take (entry_length xs) xs) at (omega (arith, entry_least xs some, l)), l)

    walk_bound : (registry : ℕ) (area : List ℕ) (base : ℕ) → 3 * size (walk_trees plan walk registry area base) ≤ 3 + 7 * covered area
    unfolding walk_trees array_of covered entries
    walk_bound registry [] base = omega arith
    walk_bound registry (x ∷ xs) base = omega (arith, pieces_bound entry_length entry_fits (entry_trees plan walk registry) (entry_small registry) (x ∷ xs) base)

module _ (plan : Plan) (sparing : Sparing plan) (registry : ℕ) (area : List ℕ) (base : ℕ) where
  -- beside the array, at most 7 records for 3 octets covered
  walked_bound : 3 * size (walked plan registry area base) ≤ 3 + 7 * covered area
  unfolding walked inner_walk
  walked_bound = walk_bound (inner_walk plan) (walk_bound no_walk (λ r a at. omega arith) plan sparing) plan sparing registry area base

  -- a walk
  pub needed_walked : size (walked plan registry area base) ≤ 1 + 7 * length area / 3
  needed_walked = omega (arith, walked_bound, covered_le area)

  -- a push
  pub needed_pushed : size (pushed plan registry area base) ≤ 1 + 7 * length area / 3
  unfolding pushed
  needed_pushed = omega (arith, push_bound (walked plan) registry area base walked_bound)
