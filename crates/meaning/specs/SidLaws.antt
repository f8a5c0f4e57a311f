-- A SID, case by case.
use Rattle.std.specs.Prelude.{◌≡◌, Bool, cond, List, ℕ, ◌+◌, ◌%◌, ◌≤◌, ◌<◌, leb, length}
use Rattle.std.proofs.Math.Bool.{true, false}
use native.Mathlib.Omega.{arith}
use borrow.Author.Tests.{le-leb, lt-leb}
use Rattle.octets.specs.BigEndian.{big_endian}
use Rattle.tape.specs.Forest.{none, size}
use Rattle.meaning.specs.Label.{Label}
use Rattle.meaning.specs.Shape.{u32}
use Rattle.meaning.specs.Tree.{one}
use Rattle.meaning.specs.Sid.{sid_trees, sid_end}

module _ (label : Label) (registry : ℕ) (v : List ℕ) (base at : ℕ) where
  -- one record at most
  pub size_sid_le : size (sid_trees label registry v base at) ≤ 1
  unfolding sid_trees
  size_sid_le = go (leb (at + 4) (length v)) (leb (at + 3) (length v))
    where
      go : (four three : Bool)
          → size (cond four (one label u32 registry (base + at) (base + at + 4) (big_endian v at 4)) (cond three (one label u32 registry (base + at) (base + at + 3) (big_endian v at 3 % 1048576)) none)) ≤ 1
      go true three = omega arith
      go false true = omega arith
      go false false = omega arith

  -- 4 octets or more are left
  pub sid_four : at + 4 ≤ length v → sid_trees label registry v base at ≡ one label u32 registry (base + at) (base + at + 4) (big_endian v at 4)
  unfolding sid_trees
  sid_four long = rw (le-leb (at + 4) (length v) long)

  -- 3 are left
  pub sid_three : length v ≡ at + 3 → sid_trees label registry v base at ≡ one label u32 registry (base + at) (base + at + 3) (big_endian v at 3 % 1048576)
  unfolding sid_trees
  sid_three three = rw (lt-leb (at + 4) (length v) (omega (arith, three)), le-leb (at + 3) (length v) (omega (arith, three)))

  -- fewer are left
  pub sid_fewer : length v < at + 3 → sid_trees label registry v base at ≡ none
  unfolding sid_trees
  sid_fewer short = rw (lt-leb (at + 4) (length v) (omega arith), lt-leb (at + 3) (length v) short)

module _ (v : List ℕ) (at : ℕ) where
  pub sid_four_end : at + 4 ≤ length v → sid_end v at ≡ at + 4
  unfolding sid_end
  sid_four_end long = rw (le-leb (at + 4) (length v) long)

  pub sid_three_end : length v ≡ at + 3 → sid_end v at ≡ at + 3
  unfolding sid_end
  sid_three_end three = rw (lt-leb (at + 4) (length v) (omega (arith, three)), le-leb (at + 3) (length v) (omega (arith, three)))

  pub sid_fewer_end : length v < at + 3 → sid_end v at ≡ at
  unfolding sid_end
  sid_fewer_end short = rw (lt-leb (at + 4) (length v) (omega arith), lt-leb (at + 3) (length v) short)
