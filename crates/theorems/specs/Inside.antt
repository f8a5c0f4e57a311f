-- Every record lies inside its container, and so inside the area.
use Rattle.std.specs.Prelude.{◌≡◌, refl, Bool, true, false, cond, get_or, take}
use mathlib.Core.List.{List, [], ◌∷◌}
use Prim.Native.Nat.{ℕ, suc, ◌+◌, ◌-◌, ◌≤◌, ◌<◌}
use Rattle.std.proofs.Math.Decide.{dec_le}
use native.Mathlib.Omega.{arith}
use Rattle.std.proofs.Common.{leb-true, length-take}
use Rattle.std.proofs.Math.ListN.{length, drop, length-drop}
use Rattle.std.proofs.Math.Seq.{length-take-le}
use Rattle.registry.specs.Registry.{number_of}
use Rattle.registry.specs.declared.Registry.TheVariants.{Srv6Sid, Unregistered}
use Rattle.tape.specs.Forest.{Forest, none, leaf, node, size, ◌⧺◌, flat}
use Rattle.tape.specs.declared.Record.{Record}
use Rattle.meaning.specs.Label.{Label}
use Rattle.meaning.specs.Shape.{Shape, u8, ipv6, bytes}
use Rattle.meaning.specs.Cut.{Measure, pieces, total, each}
use Rattle.meaning.specs.CutLaws.{pieces_ind, total_le}
use Rattle.meaning.specs.Frame.{entry_length, entries, covered, remainder, range_length}
use Rattle.meaning.specs.FrameLaws.{whole_is, entry_fits, range_eight}
use Rattle.meaning.specs.Field.{Element, numbers, msds, ranges, Field, part, flag, sid, array, tail, push, Plan}
use Rattle.meaning.specs.Tree.{one, raw}
use Rattle.meaning.specs.Sid.{sid_trees}
use Rattle.meaning.specs.SidLaws.{sid_four, sid_three, sid_fewer}
use Rattle.meaning.specs.Array.{octets_in, start_of, element_length, elements, element_trees, array_of}
use Rattle.meaning.specs.Tail.{length_at, inner_fits, inner}
use Rattle.meaning.specs.Value.{Walk, push_by, field_trees, value_trees}
use Rattle.meaning.specs.Area.{entry_trees, walk_trees, no_walk, inner_walk, walked, pushed}
use Rattle.theorems.specs.Plan.{Every, need, Fitting}
use Rattle.theorems.specs.PlanLaws.{every_so}
use Rattle.theorems.specs.Closed.{Closed, push_closed, value_closed}
use Rattle.theorems.specs.EachRecord.{EachRecord, each_record-++}
use Rattle.theorems.specs.Bound.{element_fits, entry_least, span_inside}

-- every record is inside the octets from lo up to hi, and inside its container
unfoldable pub Within : ℕ → ℕ → Forest → Type 0
Within lo hi none = Unit {0}
Within lo hi (leaf m f) = (lo ≤ m.start.0) × ((m.end.0 ≤ hi) × Within lo hi f)
Within lo hi (node m k f) = (lo ≤ m.start.0) × ((m.end.0 ≤ hi) × (Within m.start.0 m.end.0 k × Within lo hi f))

-- nothing
within_none : (lo hi : ℕ) → Within lo hi none
unfolding Within
within_none lo hi = tt

-- a leaf
within_one : (label : Label) (shape : Shape) (registry start end n lo hi : ℕ) → lo ≤ start → end ≤ hi → Within lo hi (one label shape registry start end n)
unfolding Within
within_one label shape registry start end n lo hi from below = (from, (below, tt))

-- one after the other
within-⧺ : (lo hi : ℕ) (f g : Forest) → Within lo hi f → Within lo hi g → Within lo hi (f ⧺ g)
unfolding Within ◌⧺◌
within-⧺ lo hi none g x y = y
within-⧺ lo hi (leaf m f) g x y = (x.0, (x.1.0, within-⧺ lo hi f g x.1.1 y))
within-⧺ lo hi (node m k f) g x y = (x.0, (x.1.0, (x.1.1.0, within-⧺ lo hi f g x.1.1.1 y)))

within_closed : (lo hi : ℕ) → Closed (Within lo hi)
within_closed lo hi = record { nothing = within_none lo hi; together = within-⧺ lo hi }

-- inside more octets
within_wider : (lo lo' hi hi' : ℕ) → lo' ≤ lo → hi ≤ hi' → (f : Forest) → Within lo hi f → Within lo' hi' f
unfolding Within
within_wider lo lo' hi hi' a b none x = tt
within_wider lo lo' hi hi' a b (leaf m f) x = (omega (arith, x.0), (omega (arith, x.1.0), within_wider lo lo' hi hi' a b f x.1.1))
within_wider lo lo' hi hi' a b (node m k f) x = (omega (arith, x.0), (omega (arith, x.1.0), (x.1.1.0, within_wider lo lo' hi hi' a b f x.1.1.1)))

-- pieces, each inside its own octets
pieces_within : (m : Measure) → ((xs : List ℕ) → m xs ≤ length xs) → (f : List ℕ → ℕ → Forest) → ((xs : List ℕ) → 0 < m xs → (at : ℕ) → Within at (at + m xs) (f (take (m xs) xs) at))
    → (xs : List ℕ) (at : ℕ) → Within at (at + total (pieces m xs)) (each f at (pieces m xs))
unfolding each total
pieces_within m fits f own = pieces_ind m fits (λ xs ps. (at : ℕ) → Within at (at + total ps) (each f at ps)) (λ xs e at. within_none at (at + 0)) step
  where
    step : (xs : List ℕ) → 0 < m xs → ((at : ℕ) → Within at (at + total (pieces m (drop (m xs) xs))) (each f at (pieces m (drop (m xs) xs))))
        → (at : ℕ) → Within at (at + (length (take (m xs) xs) + total (pieces m (drop (m xs) xs)))) (f (take (m xs) xs) at ⧺ each f (at + length (take (m xs) xs)) (pieces m (drop (m xs) xs)))
    step xs some ih at =
        let n : ℕ = length (take (m xs) xs) in
        let k : ℕ = total (pieces m (drop (m xs) xs)) in
        let same : n ≡ m xs = length-take-le (m xs) xs (fits xs) in
        within-⧺ at (at + (n + k)) (f (take (m xs) xs) at) (each f (at + n) (pieces m (drop (m xs) xs)))
        (within_wider at at (at + m xs) (at + (n + k)) (omega arith) (omega (arith, same)) (f (take (m xs) xs) at) (own xs some at))
        (within_wider (at + n) at (at + n + k) (at + (n + k)) (omega arith) (omega arith) (each f (at + n) (pieces m (drop (m xs) xs))) (ih (at + n)))

-- octets that are left of a value
within_raw : (registry base n : ℕ) (v : List ℕ) → Within base (base + length v) (raw registry (base + n) (drop n v))
unfolding Within raw
within_raw registry base n v = go (drop n v) (length-drop n v)
  where
    go : (xs : List ℕ) → length xs ≡ length v - n → Within base (base + length v) (raw registry (base + n) xs)
    go [] e = tt
    go (x ∷ xs) e = (omega arith, (omega arith, tt))

-- a SID
within_sid : (label : Label) (registry : ℕ) (v : List ℕ) (base at : ℕ) → Within base (base + length v) (sid_trees label registry v base at)
unfolding Within
within_sid label registry v base at = go (dec_le (at + 4) (length v)) (dec_le (at + 3) (length v))
  where
    go : Dec (at + 4 ≤ length v) → Dec (at + 3 ≤ length v) → Within base (base + length v) (sid_trees label registry v base at)
    go (yes four) x = rw (sid_four label registry v base at four) (omega arith, (omega arith, tt))
    go (no less) (yes three) = rw (sid_three label registry v base at (omega arith)) (omega arith, (omega arith, tt))
    go (no less) (no fewer) = rw (sid_fewer label registry v base at (omega arith)) tt

-- arrays

within_element : (element : Element) (registry : ℕ) (xs : List ℕ) → 0 < element_length element xs → (at : ℕ)
    → Within at (at + element_length element xs) (element_trees element registry (take (element_length element xs) xs) at)
unfolding Within element_trees ◌⧺◌
within_element (numbers label shape width) registry xs some at = (omega arith, (omega (arith, whole_is width xs some), tt))
within_element msds registry xs some at =
    (omega arith, (omega (arith, whole_is 2 xs some), ((omega arith, (omega arith, (omega arith, (omega arith, tt)))), tt)))
within_element ranges registry xs some at =
    let p : List ℕ = take (range_length xs) xs in
    let same : length p ≡ range_length xs = length-take-le (range_length xs) xs (element_fits ranges xs) in
    (omega arith, (omega (arith, same), ((omega arith, (omega (arith, same, range_eight xs some), within_sid Label.range_sid registry p at 5)), tt)))

within_array : (label : Label) (registry : ℕ) (f : List ℕ → ℕ → Forest) (at : ℕ) (ps : List (List ℕ)) (lo hi : ℕ) → lo ≤ at → at + total ps ≤ hi → Within at (at + total ps) (each f at ps) → Within lo hi (array_of label registry f at ps)
unfolding Within array_of
within_array label registry f at ps lo hi from below x = (from, (below, (x, tt)))

-- a push
within_push : (walk : Walk) (registry : ℕ) (area : List ℕ) (base : ℕ) → Within base (base + length area) (walk registry area base) → Within base (base + length area) (push_by walk registry area base)
unfolding remainder
within_push walk registry area base x = push_closed (Within base (base + length area)) (within_closed base (base + length area)) walk registry area base x (within_raw registry base (covered area) area)

-- values

-- where what is walked inside a value is inside its area
module _ (walk : Walk) (inside : (registry : ℕ) (area : List ℕ) (base : ℕ) → Within base (base + length area) (walk registry area base)) (registry : ℕ) (v : List ℕ) (base : ℕ) where
  within_inner : (at : ℕ) → Within base (base + length v) (cond (inner_fits v at) (walk (number_of Srv6Sid) (inner v at) (base + (length_at at + 1))) none)
  within_inner at = go (inner_fits v at) refl
    where
      go : (b : Bool) → inner_fits v at ≡ b → Within base (base + length v) (cond b (walk (number_of Srv6Sid) (inner v at) (base + (length_at at + 1))) none)
      go true fits =
          let start : ℕ = base + (length_at at + 1) in
          within_wider start base (start + length (inner v at)) (base + length v) (omega arith)
          (omega (arith, leb-true (length_at at + 1 + get_or v (length_at at) 0) (length v) fits, length-take (get_or v (length_at at) 0) (drop (length_at at + 1) v)))
          (walk (number_of Srv6Sid) (inner v at) start) (inside (number_of Srv6Sid) (inner v at) start)
      go false over = within_none base (base + length v)

  within_field : (f : Field) → need f ≤ length v → Within base (base + length v) (field_trees walk registry v base f)
  unfolding field_trees
  within_field (part label shape at width) fits = within_one label shape registry (base + at) (base + at + width) _ base (base + length v) (omega arith) (omega arith)
  within_field (flag label mask) fits = within_one label u8 registry base (base + 1) _ base (base + length v) (omega arith) (omega arith)
  within_field (sid at) fits = within_sid Label.sid registry v base at
  within_field (array label span element) fits =
      let start : ℕ = base + start_of span in
      within_array label registry (element_trees element registry) start (elements span element v) base (base + length v) (omega arith)
      (omega (arith, span_inside span v fits, total_le (element_length element) (element_fits element) (octets_in span v)))
      (pieces_within (element_length element) (element_fits element) (element_trees element registry) (within_element element registry) (octets_in span v) start)
  within_field (tail at) fits =
      within-⧺ base (base + length v) _ _ (within_one Label.srv6_sid ipv6 registry (base + at) (base + length_at at) 0 base (base + length v) (omega arith) (omega arith)) (within_inner at)
  within_field (push at) fits =
      within_wider (base + at) base (base + at + length (drop at v)) (base + length v) (omega arith) (omega (arith, length-drop at v)) _
      (within_push walk (number_of Unregistered) (drop at v) (base + at) (inside (number_of Unregistered) (drop at v) (base + at)))

  within_value : (fs : List Field) → Every (λ (f : Field). need f ≤ length v) fs → Within base (base + length v) (value_trees walk registry v base fs)
  within_value fs fit =
      value_closed (Within base (base + length v)) (within_closed base (base + length v)) walk registry v base
      (within_one Label.value bytes registry base (base + length v) 0 base (base + length v) (omega arith) (omega arith))
      (λ n. within_raw registry base n v)
      fs (every_so (λ (f : Field). need f ≤ length v) (λ (f : Field). Within base (base + length v) (field_trees walk registry v base f)) within_field fs fit)

-- areas

module _ (plan : Plan) (fitting : Fitting plan) where
  module _ (walk : Walk) (inside : (registry : ℕ) (area : List ℕ) (base : ℕ) → Within base (base + length area) (walk registry area base)) (registry : ℕ) where
    within_entry : (e : List ℕ) (at : ℕ) → 2 ≤ length e → Within at (at + length e) (entry_trees plan walk registry e at)
    unfolding entry_trees Within ◌⧺◌
    within_entry e at long =
        let v : List ℕ = drop 2 e in
        let fields = plan registry (get_or e 0 0) v in
        let value' = within_wider (at + 2) at (at + 2 + length v) (at + length e) (omega arith) (omega (arith, length-drop 2 e)) (value_trees walk registry v (at + 2) fields)
        (within_value walk inside registry v (at + 2) fields (fitting registry (get_or e 0 0) v)) in
        (omega arith, (omega arith, ((omega arith, (omega arith, (omega arith, (omega arith, value')))), tt)))

    within_walk : (area : List ℕ) (base : ℕ) → Within base (base + length area) (walk_trees plan walk registry area base)
    unfolding walk_trees entries
    within_walk [] base = within_none base (base + 0)
    within_walk (x ∷ xs) base =
        within_array Label.sub_tlvs registry (entry_trees plan walk registry) base (pieces entry_length (x ∷ xs)) base (base + length (x ∷ xs)) (omega arith)
        (omega (arith, total_le entry_length entry_fits (x ∷ xs)))
        (pieces_within entry_length entry_fits (entry_trees plan walk registry) own (x ∷ xs) base)
      where
        own : (ys : List ℕ) → 0 < entry_length ys → (at : ℕ) → Within at (at + entry_length ys) (entry_trees plan walk registry (take (entry_length ys) ys) at)
        own ys some at =
            let same : length (take (entry_length ys) ys) ≡ entry_length ys = length-take-le (entry_length ys) ys (entry_fits ys) in
            rw same at (within_entry (take (entry_length ys) ys) at (omega (arith, same, entry_least ys some)))

  pub inside_walked : (registry : ℕ) (area : List ℕ) (base : ℕ) → Within base (base + length area) (walked plan registry area base)
  unfolding walked inner_walk
  inside_walked = within_walk (inner_walk plan) (within_walk no_walk (λ registry area base. within_none base (base + length area)))

  pub inside_pushed : (registry : ℕ) (area : List ℕ) (base : ℕ) → Within base (base + length area) (pushed plan registry area base)
  unfolding pushed
  inside_pushed registry area base = within_push (walked plan) registry area base (inside_walked registry area base)

-- on the tape

-- a record inside the octets from lo up to hi
abbrev pub Inside : ℕ → ℕ → Record → Type 0
Inside lo hi r = (lo ≤ r.start.0) × (r.end.0 ≤ hi)

pub within_each : (lo hi : ℕ) (f : Forest) → Within lo hi f → (at : ℕ) → EachRecord (Inside lo hi) (flat at f)
unfolding Within flat
within_each lo hi none x at = tt
within_each lo hi (leaf m f) x at = ((x.0, x.1.0), within_each lo hi f x.1.1 (suc at))
within_each lo hi (node m k f) x at = (
  (x.0, x.1.0),
  each_record-++ (Inside lo hi) (flat (suc at) k) (flat (suc at + size k) f)
      (within_each lo hi k (within_wider m.start.0 lo m.end.0 hi x.0 x.1.0 k x.1.1.0) (suc at))
      (within_each lo hi f x.1.1.1 (suc at + size k)),
)
