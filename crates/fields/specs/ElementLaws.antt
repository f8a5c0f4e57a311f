-- Elements of arrays, out of their parts.
use Rattle.std.specs.Prelude.{◌≡◌, refl, List, ℕ, ◌+◌, ◌≤◌, length}
use Rattle.std.proofs.Common.{ap, add-zero, add_assoc, arith}
use Rattle.octets.specs.BigEndianLaws.{big_endian_one}
use Rattle.tape.specs.Forest.{node, none, size, ◌⧺◌}
use Rattle.meaning.specs.Label
use Rattle.meaning.specs.Tree.{content}
use Rattle.meaning.specs.Field.{msds, ranges}
use Rattle.meaning.specs.Array.{element_trees}
use Rattle.fields.specs.Shows.{number_at, sid_at}
use Rattle.fields.specs.ShowsLaws.{sid_shown}

module _ (registry : ℕ) (p : List ℕ) (base : ℕ) where
  -- an MSD is an object of two numbers
  pub msd_is : element_trees msds registry p base ≡ node (content 51 8 registry (base + 0) (base + 0 + 2) 0) (number_at 52 0 0 1 registry p base ⧺ number_at 53 0 1 1 registry p base) none
  unfolding element_trees ◌⧺◌
  msd_is = rw (add-zero base, big_endian_one p 0, big_endian_one p 1, add_assoc base 1 1) refl

  -- a range is an object of a number and a SID
  pub range_is : 8 ≤ length p
      → element_trees ranges registry p base ≡ node (content 48 8 registry (base + 0) (base + 0 + length p) 0) (number_at 49 2 0 3 registry p base ⧺ sid_at 50 5 registry p base) none
  unfolding element_trees ◌⧺◌
  range_is long = rw (add-zero base, sid_shown p 5 Label.range_sid registry base (omega arith)) refl

  -- three records each
  pub msd_size : size (element_trees msds registry p base) ≡ 3
  unfolding element_trees ◌⧺◌
  msd_size = refl

  pub range_size : 8 ≤ length p → size (element_trees ranges registry p base) ≡ 3
  unfolding ◌⧺◌
  range_size long = ap size (range_is long)
