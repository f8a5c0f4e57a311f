-- The bound on needed records is attained, at every multiple of 3 octets.
use Rattle.std.specs.Prelude.{◌≡◌, refl, List, [], ◌∷◌, ◌++◌, ℕ, zero, suc, ◌+◌, ◌*◌, ◌/◌, length}
use Rattle.std.proofs.Common.{ap, ◌∙◌, arith}
use Rattle.tape.specs.Forest.{size, ◌⧺◌}
use Rattle.tape.specs.ForestLaws.{size-⧺}
use Rattle.meaning.specs.Cut.{each}
use Rattle.meaning.specs.Frame.{entries, covered}
use Rattle.meaning.specs.FrameLaws.{entry, entries_none, covered_none, entries_entry, covered_entry, remainder_none}
use Rattle.meaning.specs.Table.{table, fields_of, usual}
use Rattle.meaning.specs.Tree.{raw}
use Rattle.meaning.specs.Array.{array_of}
use Rattle.meaning.specs.Value.{Walk, field_end, taken, field_trees, fields_trees, value_trees}
use Rattle.meaning.specs.Area.{entry_trees, walk_trees, inner_walk, walked, pushed}
use Rattle.meaning.specs.AreaLaws.{push_whole, pushed_by}

-- k entries `04 01 A0`
abbrev pub full : ℕ → List ℕ
full zero = []
full (suc k) = entry 0x04 (0xA0 ∷ []) ++ full k

length_full : (k : ℕ) → length (full k) ≡ 3 * k
length_full zero = refl
length_full (suc k) = omega (arith, length_full k)

covered_full : (k : ℕ) → covered (full k) ≡ length (full k)
covered_full zero = covered_none
covered_full (suc k) = omega (arith, covered_entry 0x04 (0xA0 ∷ []) (full k), covered_full k)

-- in registry 1 each of them shows 7 records
size_full : (walk : Walk) (k at : ℕ) → size (each (entry_trees usual walk 1) at (entries (full k))) ≡ 7 * k
unfolding each usual fields_of table entry_trees value_trees fields_trees field_trees field_end taken raw ◌⧺◌
size_full walk zero at = rw entries_none refl
size_full walk (suc k) at = rw (entries_entry 0x04 (0xA0 ∷ []) (full k), size-⧺ (entry_trees usual walk 1 (entry 0x04 (0xA0 ∷ [])) at)) (omega (arith, size_full walk k (at + 3)))

pub attained_walk : (k base : ℕ) → size (walked usual 1 (full (suc k)) base) ≡ 1 + 7 * length (full (suc k)) / 3
unfolding walked walk_trees array_of
attained_walk k base = omega (arith, size_full (inner_walk usual) (suc k) base, length_full (suc k))

pub attained_push : (k base : ℕ) → size (pushed usual 1 (full (suc k)) base) ≡ 1 + 7 * length (full (suc k)) / 3
attained_push k base = ap size (pushed_by usual 1 (full (suc k)) base ∙ push_whole (walked usual) 1 (full (suc k)) base (remainder_none (full (suc k)) (covered_full (suc k)))) ∙ attained_walk k base
