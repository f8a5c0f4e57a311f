-- The records of a last field that goes by its octets.
use Rattle.std.specs.Prelude.{◌≡◌, List, ℕ, ◌+◌, ◌*◌, ◌-◌, ◌≤◌, ◌<◌, Some, length, take, drop}
use Rattle.std.proofs.Math.Path.{refl, ap}
use Rattle.std.proofs.Common.{◌∙◌, arith, le-leb, length-take-le}
use borrow.Author.Tests.{lt-leb}
use Rattle.tape.specs.Forest.{size}
use Rattle.meaning.specs.Label
use Rattle.meaning.specs.Cut.{pieces, total}
use Rattle.meaning.specs.Frame.{range_length}
use Rattle.meaning.specs.FrameLaws.{range_fits, range_eight}
use Rattle.meaning.specs.Complete.{complete}
use Rattle.meaning.specs.CompleteLaws.{complete_is}
use Rattle.meaning.specs.PlaceLaws.{part_rest}
use Rattle.meaning.specs.Field.{Field, array, push, from, ranges}
use Rattle.meaning.specs.Array.{element_trees, array_of}
use Rattle.meaning.specs.Table.{usual}
use Rattle.meaning.specs.Value.{push_by, field_end, field_trees}
use Rattle.meaning.specs.Area.{inner_walk}
use Rattle.fields.specs.ElementLaws.{range_size}
use Rattle.count.specs.Records.{rest, last_records, Cuts, Heads, Walks}
use Rattle.count.specs.RowCount.{rest_behind}
use Rattle.count.specs.AreaCount.{push_counted}
use Rattle.count.specs.declared.Counted.{Counted}

-- a range of w octets stands in front
pub range_found : (xs : List ℕ) {w : ℕ} → Some w ≡ complete (range_length xs) → (8 ≤ w) × (w ≤ length xs)
range_found xs is =
    let here = complete_is (range_length xs) is in
    (omega (arith, here, range_eight xs here.1), omega (arith, here, range_fits xs))

-- it has 3 records
pub range_counts : (xs : List ℕ) {w : ℕ} → Some w ≡ complete (range_length xs) → (registry at : ℕ) → size (element_trees ranges registry (take w xs) at) ≡ 3
range_counts xs {w} is registry at =
    let found = range_found xs is in
    range_size registry (take w xs) at (omega (arith, found, length-take-le w xs found.1))

-- a value too short for it
pub heads_short : {least head : ℕ} {v : List ℕ} {f : Field} → length v < least → Heads least head v f 1
heads_short {least} {v = v} short = record { few = omega arith; records = λ registry base. rw (lt-leb least (length v) short) refl }

-- a value long enough for it
pub heads_long : {least head r : ℕ} {v : List ℕ} {f : Field} → least ≤ length v → r ≤ 5 + 4 * length v → ((registry base : ℕ) → r ≡ head + last_records registry v base f)
    → Heads least head v f r
heads_long {least} {head} {v = v} long few same = record { few = few; records = λ registry base. rw (le-leb least (length v) long) (same registry base) }

module _ (registry : ℕ) (v : List ℕ) (base : ℕ) {octets : List ℕ} {r : Counted} where
  -- ranges behind flags
  pub ranges_last : 1 ≤ length v → octets ≡ take (length v - 1) (drop 1 v) → Cuts range_length (element_trees ranges registry) octets r
      → 1 + (r.records + rest r.covered (length octets)) ≡ last_records registry v base (array Label.ranges (from 1) ranges)
  unfolding field_trees field_end array_of
  ranges_last long part cut =
      let all : octets ≡ drop 1 v = part ∙ part_rest 1 v in
      let these = rw all at cut in
      let left = ap (λ (s : List ℕ). rest r.covered (length s)) all in
      let behind = ap (λ (t : ℕ). rest t (length (drop 1 v))) these.covers in
      omega (arith, these.records (base + 1), left, behind, rest_behind 1 (total (pieces range_length (drop 1 v))) v long)

  -- a push behind flags of 2 octets
  pub push_last : octets ≡ take (length v - 2) (drop 2 v) → Walks (inner_walk usual) 5 octets r → r.records + rest r.covered (length octets) ≡ last_records registry v base (push 2)
  unfolding field_trees field_end
  push_last part walk =
      let all : octets ≡ drop 2 v = part ∙ part_rest 2 v in
      let these = push_counted (inner_walk usual) 5 walk (base + 2) in
      rw (le-leb (length v) (length v) (omega arith)) (omega (arith, these, ap (λ (s : List ℕ). size (push_by (inner_walk usual) 5 s (base + 2))) all))
