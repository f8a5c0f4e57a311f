-- The records of an area, entry by entry.
use Rattle.std.specs.Prelude.{◌≡◌, ℕ, ◌+◌, ◌*◌, ◌-◌, ◌≤◌, ◌<◌, Some, length, take, drop}
use Rattle.std.proofs.Math.Path.{refl, ap}
use Rattle.std.proofs.Common.{◌∙◌, length-drop, length-take-le}
use Rattle.std.proofs.lemmas.List.{drop-take}
use mathlib.Core.List.{List, [], ◌∷◌}
use native.Mathlib.Omega.{arith}
use Rattle.std.proofs.Math.ListN.{get_or}
use Rattle.std.proofs.Math.Seq.{get_or-take}
use Rattle.tape.specs.Forest.{size, ◌⧺◌}
use Rattle.tape.specs.ForestLaws.{size-⧺}
use Rattle.meaning.specs.Cut.{pieces, each}
use Rattle.meaning.specs.Complete.{complete}
use Rattle.meaning.specs.CompleteLaws.{complete_is}
use Rattle.meaning.specs.Frame.{entry_length, entries, covered, remainder}
use Rattle.meaning.specs.FrameLaws.{covered_none, entry_fits, entry_two}
use Rattle.meaning.specs.Array.{array_of}
use Rattle.meaning.specs.Tree.{raw}
use Rattle.meaning.specs.Table.{usual}
use Rattle.meaning.specs.Value.{Walk, push_by}
use Rattle.meaning.specs.Area.{entry_trees, walk_trees}
use Rattle.count.specs.Records.{rest, Cuts, CountsBy, Walks}
use Rattle.count.specs.RecordsLaws.{size_raw}
use Rattle.count.specs.declared.Counted.{Counted}

-- a complete entry of w octets stands in front
pub entry_found : (xs : List ℕ) {w : ℕ} → Some w ≡ complete (entry_length xs) → (entry_length xs ≡ w) × (2 ≤ w) × (w ≤ length xs)
entry_found xs {w} is =
    let here = complete_is (entry_length xs) is in
    (here.0, omega (arith, here, entry_two xs here.1), omega (arith, here, entry_fits xs))

-- its value is all but its first two octets
pub length_value : (xs : List ℕ) (w : ℕ) → w ≤ length xs → 2 ≤ w → length (take (w - 2) (drop 2 xs)) ≡ w - 2
length_value xs w fits two = length-take-le (w - 2) (drop 2 xs) (omega (arith, length-drop 2 xs))

-- it becomes its object, type and length, and what its value becomes
pub entry_counts : (xs : List ℕ) {walk : Walk} {registry w k : ℕ} → Some w ≡ complete (entry_length xs) → CountsBy walk registry (get_or xs 0 0) (take (w - 2) (drop 2 xs)) k
    → (3 + k ≤ 4 * w) × ((at : ℕ) → size (entry_trees usual walk registry (take w xs) at) ≡ 3 + k)
unfolding entry_trees ◌⧺◌
entry_counts xs {w = w} {k = k} is value =
    let found = entry_found xs is in
    let few : 3 + k ≤ 4 * w = omega (arith, found, value.few, length_value xs w found.2 found.1) in
    let sum : w ≡ 2 + (w - 2) = omega (arith, found) in
    let behind : drop 2 (take w xs) ≡ take (w - 2) (drop 2 xs) = ap (λ (n : ℕ). drop 2 (take n xs)) sum ∙ drop-take 2 (w - 2) xs in
    let kind : get_or (take w xs) 0 0 ≡ get_or xs 0 0 = get_or-take w xs 0 0 (omega (arith, found)) in
    (few, λ at. rw (behind, kind) (omega (arith, value.records (at + 2))))

-- an empty area
pub walk_none : (walk : Walk) {registry : ℕ} (area : List ℕ) → length area ≡ 0 → Walks (walk_trees usual walk) registry area (record { covered = 0; records = 0 })
unfolding walk_trees
walk_none walk [] empty = record { few = omega arith; covers = omega (arith, covered_none); records = λ base. refl }
walk_none walk (x ∷ xs) empty = absurd (omega arith)

module _ (walk : Walk) (registry : ℕ) where
  -- the array over its entries
  area_count : (area : List ℕ) (base : ℕ) → 0 < length area → size (walk_trees usual walk registry area base) ≡ 1 + size (each (entry_trees usual walk registry) base (pieces entry_length area))
  unfolding walk_trees array_of entries
  area_count [] base some = absurd (omega arith)
  area_count (x ∷ xs) base some = omega arith

  -- after the last entry
  pub walk_counted : {area : List ℕ} {covers n : ℕ} → 0 < length area → Cuts entry_length (entry_trees usual walk registry) area (record { covered = covers; records = n })
      → Walks (walk_trees usual walk) registry area (record { covered = covers; records = 1 + n })
  unfolding covered entries
  walk_counted {area} some c = record { few = omega (arith, c.few); covers = c.covers; records = λ base. omega (arith, c.records base, area_count area base some) }

-- a push of it
pub push_counted : (walk : Walk) (registry : ℕ) {area : List ℕ} {r : Counted} → Walks walk registry area r → (base : ℕ)
    → r.records + rest r.covered (length area) ≡ size (push_by walk registry area base)
unfolding push_by remainder
push_counted walk registry {area} w base =
    let place = base + covered area in
    let sum = size-⧺ (walk registry area base) (raw registry place (drop (covered area) area)) in
    omega (arith, w.records base, ap (λ (t : ℕ). rest t (length area)) w.covers, sum, size_raw registry place (covered area) area)
