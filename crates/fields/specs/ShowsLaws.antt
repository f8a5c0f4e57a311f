-- A SID's width and number, case by case.
use Rattle.std.specs.Prelude.{◌≡◌, List, Bool, ℕ, ◌+◌, ◌%◌, ◌^◌, ◌≤◌, ◌<◌, leb, length}
use Rattle.std.proofs.Math.Path.{refl}
use Rattle.std.proofs.Math.Bool.{true, false, cond}
use Rattle.std.proofs.Common.{le-leb, leb-true}
use Rattle.std.proofs.lemmas.Bool.{lt-leb}
use Rattle.octets.specs.BigEndian.{big_endian}
use Rattle.tape.specs.Forest.{none, leaf}
use Rattle.meaning.specs.Label.{Label, number}
use Rattle.meaning.specs.Tree.{content}
use Rattle.meaning.specs.Sid.{sid_trees, sid_end}
use Rattle.fields.specs.Shows.{sid_width, sid_number}

module _ (v : List ℕ) (at : ℕ) where
  -- 4 octets or more are left
  pub four : at + 4 ≤ length v → (big_endian v at 4 ≡ sid_number v at) × (4 ≡ sid_width v at)
  four long = let e = le-leb (at + 4) (length v) long in (rw e, rw e)

  -- fewer are left
  pub three : length v < at + 4 → (big_endian v at 3 % 1048576 ≡ sid_number v at) × (3 ≡ sid_width v at)
  three short = let e = lt-leb (at + 4) (length v) short in (rw e, rw e)

  -- it stays within the value
  pub sid_fits : at + 3 ≤ length v → at + sid_width v at ≤ length v
  sid_fits there = go (leb (at + 4) (length v)) (leb-true (at + 4) (length v))
    where
      go : (b : Bool) → (b ≡ true → at + 4 ≤ length v) → at + cond b 4 3 ≤ length v
      go true long = long refl
      go false long = there

  -- the definition's SID, where 3 octets are left or more: one leaf ..
  pub sid_shown : (label : Label) (registry base : ℕ) → at + 3 ≤ length v
      → sid_trees label registry v base at ≡ leaf (content (number label) 2 registry (base + at) (base + at + sid_width v at) (sid_number v at)) none
  unfolding sid_trees
  sid_shown label registry base there = rw (le-leb (at + 3) (length v) there) (go (leb (at + 4) (length v)))
    where
      go : (b : Bool)
          → cond b (leaf (content (number label) 2 registry (base + at) (base + at + 4) (big_endian v at 4)) none) (leaf (content (number label) 2 registry (base + at) (base + at + 3) (big_endian v at 3 % 2 ^ 20)) none)
          ≡ leaf (content (number label) 2 registry (base + at) (base + at + cond b 4 3) (cond b (big_endian v at 4) (big_endian v at 3 % 2 ^ 20))) none
      go true = refl
      go false = refl

  -- .. of that width
  pub sid_ends : at + 3 ≤ length v → sid_end v at ≡ at + sid_width v at
  unfolding sid_end
  sid_ends there = rw (le-leb (at + 3) (length v) there) (go (leb (at + 4) (length v)))
    where
      go : (b : Bool) → cond b (at + 4) (at + 3) ≡ at + cond b 4 3
      go true = refl
      go false = refl
