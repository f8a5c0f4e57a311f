-- Laws of big-endian numbers, over the width.
use Rattle.std.specs.Prelude.{◌≡◌, refl, true, ℕ, zero, suc, ◌+◌, ◌*◌, ◌^◌, ◌<◌, ◌≤◌, List, get_or, take, drop}
use Rattle.std.proofs.Common.{sym, ◌∙◌, true≢false, add-zero, zero-add, add-one, add-suc, add_assoc, pow-suc, pow-add, mul-one, arith, get_or-take, get_or-drop, ne_eqb, eqb-true}
use Rattle.std.proofs.Math.Decide.{dec_le}
use Rattle.std.proofs.Math.Nat.{pow-le-pow_right}
use Rattle.octets.specs.BigEndian.{big_endian, is_width}

-- an octet is a number of width 1
pub big_endian_one : (s : List ℕ) (at : ℕ) → big_endian s at 1 ≡ get_or s at 0
unfolding big_endian
big_endian_one s at = rw (add-zero, zero-add)

-- a number of width v + w is made of its first v octets and its last w
pub big_endian_join : (s : List ℕ) (at v w : ℕ) → big_endian s at (v + w) ≡ big_endian s at v * 256 ^ w + big_endian s (at + v) w
unfolding big_endian
big_endian_join s at v zero = rw (add-zero, mul-one, add-zero)
big_endian_join s at v (suc w) = rw (add-suc, big_endian_join s at v w, add_assoc at v w, pow-suc 256 w) (omega arith)

-- so two reads side by side make the wider one
pub joined : (s : List ℕ) (at v w : ℕ) {a b : ℕ} → a ≡ big_endian s at v → b ≡ big_endian s (at + v) w → a * 256 ^ w + b ≡ big_endian s at (v + w)
joined s at v w p q = rw (p, q) (sym (big_endian_join s at v w))

-- a number in a part of the octets stands in the octets themselves
big_endian_part : (s : List ℕ) (from n at width : ℕ) → at + width ≤ n → big_endian (take n (drop from s)) at width ≡ big_endian s (from + at) width
unfolding big_endian
big_endian_part s from n at zero h = refl
big_endian_part s from n at (suc w) h =
    rw (big_endian_part s from n at w (omega arith), get_or-take n (drop from s) (at + w) 0 (omega arith), get_or-drop, add_assoc)

-- so a piece that is a number
pub big_endian_piece : (s : List ℕ) (at width : ℕ) → big_endian (take width (drop at s)) 0 width ≡ big_endian s at width
big_endian_piece s at width = big_endian_part s at width 0 width (omega arith) ∙ rw (add-zero at)

-- no width is 0
pub width_some : (width : ℕ) → is_width width ≡ true → 1 ≤ width
width_some zero is = absurd (true≢false (sym is))
width_some (suc width) is = omega arith

-- the widest of the widths
pub width_eight : (width : ℕ) → is_width width ≡ true → (width ≡ 1 → ⊥) → (width ≡ 2 → ⊥) → (width ≡ 3 → ⊥) → (width ≡ 4 → ⊥) → width ≡ 8
width_eight width is n1 n2 n3 n4 = eqb-true width 8 (rw (ne_eqb width 1 n1, ne_eqb width 2 n2, ne_eqb width 3 n3, ne_eqb width 4 n4) at is)

-- the widest has 8
pub width_most : (width : ℕ) → is_width width ≡ true → width ≤ 8
width_most width is = go (dec_le width 8)
  where
    go : Dec (width ≤ 8) → width ≤ 8
    go (yes few) = few
    go (no many) =
        let other : (n : ℕ) → n ≤ 8 → width ≡ n → ⊥ = λ n few same. omega (arith, many, few, same) in
        absurd (other 8 (omega arith) (width_eight width is (other 1 (omega arith)) (other 2 (omega arith)) (other 3 (omega arith)) (other 4 (omega arith))))

-- a number and an octet behind it make the wider number
pub big_endian_more : (s : List ℕ) (at i : ℕ) → big_endian s at (i + 1) ≡ big_endian s at i * 256 + get_or s (at + i) 0
unfolding big_endian
big_endian_more s at i = rw add-one refl

-- .. wherever the place of that octet comes from
pub octet_more : (s : List ℕ) (at i place : ℕ) {number : ℕ} → place ≡ at + i → number ≡ big_endian s at i → number * 256 + get_or s place 0 ≡ big_endian s at (i + 1)
octet_more s at i place there so_far = rw (there, so_far) (sym (big_endian_more s at i))

-- a number of 7 octets or fewer, and an octet behind it
pub one_more : (n i x : ℕ) → i < 8 → n < 256 ^ i → x < 2 ^ 8 → n * 256 + x < 256 ^ (i + 1)
one_more n i x few below octet = rw (pow-add 256 i 1) (omega (arith, below, octet))

-- .. fit 64 bits
pub one_more_fits : (n i x : ℕ) → i < 8 → n < 256 ^ i → x < 2 ^ 8 → n * 256 + x < 2 ^ 64
one_more_fits n i x few below octet =
    let most : 256 ^ i ≤ 256 ^ 7 = pow-le-pow_right {n = 256} (omega arith) {i = i} {j = 7} (omega arith) in omega (arith, most, below, octet)
