-- Laws of masking.
use Rattle.std.specs.Prelude.{◌≡◌, refl, ℕ, zero, suc, ◌+◌, ◌*◌, ◌-◌, ◌/◌, ◌%◌, ◌^◌, ◌<◌, ◌≤◌, List, [], ◌∷◌, ◌++◌, length, get_or, set, take, drop, replicate}
use Rattle.std.proofs.Common.{sym, ◌∙◌, ap, append-nil, mod-eq_of_lt, mul_assoc, pow-suc, div-add-mod', pow-add, shr-shr, add-one, arith, length-set, length-drop, drop-cons, get_or-drop, take-suc-set}
use Rattle.std.proofs.Math.Nat.{sub-zero, zero-sub, zero-mod, mod-one, mul-mod_left}
use Rattle.std.proofs.lemmas.Nat.{shl-shr}
use Rattle.std.proofs.Math.Seq.{drop-length, append_snoc}
use borrow.Rule.Slice.PartMut.{mid_of, put_mid, mid_len}
use Rattle.octets.specs.Mask.{kept, masked, bit, Masks}

-- each element is an octet
abbrev Octets : List ℕ → Type 0
Octets xs = (i : ℕ) → get_or xs i 0 < 2 ^ 8

-- kept

-- from 8 bits on, the octet stays
kept_whole : (b x : ℕ) → 8 ≤ b → kept b x ≡ x
unfolding kept
kept_whole b x h = let none : 8 - b ≡ 0 = omega arith in rw (none, mod-one, sub-zero)

-- with no bit kept, an octet is 0
kept_none : (x : ℕ) → x < 2 ^ 8 → kept 0 x ≡ 0
unfolding kept
kept_none x octet = rw (mod-eq_of_lt octet) (omega arith)

-- an octet's kept bits are the multiples of the unit
kept_units : (b x : ℕ) → kept b x ≡ x / 2 ^ (8 - b) * 2 ^ (8 - b)
unfolding kept
kept_units b x = omega (arith, div-add-mod' x (2 ^ (8 - b)))

-- an octet whose low bits are shifted out, and zeros in, is an octet
pub shifted_octet : (k x : ℕ) → x < 2 ^ 8 → (x / 2 ^ k * 2 ^ k) % 2 ^ 64 < 2 ^ 8
shifted_octet k x octet = omega (arith, div-add-mod' x (2 ^ k))

-- .. whose first bits are kept
pub kept_shifted : (b x : ℕ) → x < 2 ^ 8 → (x / 2 ^ (8 - b) * 2 ^ (8 - b)) % 2 ^ 64 ≡ kept b x
kept_shifted b x octet = omega (arith, kept_units b x, div-add-mod' x (2 ^ (8 - b)))

-- a bit that is kept, counted from the least significant
kept_high : (b x j : ℕ) → 8 - b ≤ j → kept b x / 2 ^ j ≡ x / 2 ^ j
kept_high b x j h =
    let m = 8 - b in
    let e : j ≡ m + (j - m) = omega arith in
    rw (kept_units b x, e, ← shr-shr (x / 2 ^ m * 2 ^ m) m (j - m), shl-shr (x / 2 ^ m) m) (shr-shr x m (j - m))

-- a multiple of 2 ^ (d + 1 + j) has no bit j
even_above : (q d j : ℕ) → q * 2 ^ (suc d + j) / 2 ^ j % 2 ≡ 0
even_above q d j =
    rw (pow-add 2 (suc d) j, ← mul_assoc q (2 ^ suc d) (2 ^ j), shl-shr (q * 2 ^ suc d) j, pow-suc 2 d, ← mul_assoc q (2 ^ d) 2) (mul-mod_left (q * 2 ^ d) 2)

-- a bit that is cleared
kept_low : (b x j : ℕ) → j < 8 - b → kept b x / 2 ^ j % 2 ≡ 0
kept_low b x j h =
    let d = 8 - b - suc j in
    let e : 8 - b ≡ suc d + j = omega arith in
    rw (kept_units b x, e) (even_above (x / 2 ^ (suc d + j)) d j)

-- masked

-- as many octets as before
pub masked_length : (b : ℕ) (xs : List ℕ) → length (masked b xs) ≡ length xs
unfolding masked
masked_length b [] = refl
masked_length b (x ∷ xs) = ap suc (masked_length (b - 8) xs)

-- octet i of the result, 0 past the end on both sides
masked_at : (b : ℕ) (xs : List ℕ) (i : ℕ) → get_or (masked b xs) i 0 ≡ kept (b - i * 8) (get_or xs i 0)
unfolding masked kept
masked_at b [] i = rw (zero-mod, zero-sub)
masked_at b (x ∷ xs) zero = rw sub-zero
masked_at b (x ∷ xs) (suc i) = let e : b - 8 - i * 8 ≡ b - suc i * 8 = omega arith in masked_at (b - 8) xs i ∙ rw e

-- with b at or past the end, nothing changes
pub masked_past : (b : ℕ) (xs : List ℕ) → length xs * 8 ≤ b → masked b xs ≡ xs
unfolding masked
masked_past b [] h = refl
masked_past b (x ∷ xs) h = rw (kept_whole b x (omega arith), masked_past (b - 8) xs (omega arith))

-- with no bit kept, every octet is 0
masked_none : (xs : List ℕ) → Octets xs → masked 0 xs ≡ replicate (length xs) 0
unfolding masked
masked_none [] octets = refl
masked_none (x ∷ xs) octets = rw (kept_none x (octets 0)) (ap (λ (rest : List ℕ). 0 ∷ rest) (masked_none xs (λ i. octets (suc i))))

-- the octets that the bits reach past, and the others
masked_split : (i b : ℕ) (xs : List ℕ) → i * 8 ≤ b → masked b xs ≡ take i xs ++ masked (b - i * 8) (drop i xs)
unfolding masked
masked_split zero b xs h = rw sub-zero
masked_split (suc i) b [] h = refl
masked_split (suc i) b (x ∷ xs) h =
    let e : b - 8 - i * 8 ≡ b - suc i * 8 = omega arith in
    rw (kept_whole b x (omega arith), ← e) (ap (λ (rest : List ℕ). x ∷ rest) (masked_split i (b - 8) xs (omega arith)))

-- an octet of which not all bits are kept, and those after it
masked_cut : (b x : ℕ) (xs : List ℕ) → b < 8 → Octets xs → masked b (x ∷ xs) ≡ kept b x ∷ replicate (length xs) 0
unfolding masked
masked_cut b x xs h octets = let none : b - 8 ≡ 0 = omega arith in rw (none, masked_none xs octets)

-- bit

-- bits after the first b become 0 ..
pub bit_cleared : (b : ℕ) (xs : List ℕ) (k : ℕ) → b ≤ k → bit (masked b xs) k ≡ 0
unfolding bit
bit_cleared b xs k h = rw (masked_at b xs (k / 8)) (kept_low (b - k / 8 * 8) (get_or xs (k / 8) 0) (7 - k % 8) (omega arith))

-- .. and the first b stay
pub bit_kept : (b : ℕ) (xs : List ℕ) (k : ℕ) → k < b → bit (masked b xs) k ≡ bit xs k
unfolding bit
bit_kept b xs k h = rw (masked_at b xs (k / 8), kept_high (b - k / 8 * 8) (get_or xs (k / 8) 0) (7 - k % 8) (omega arith))

-- an octet stored, and the octets after it lent

-- the octets after octet i, as a part that is lent
abbrev behind : List ℕ → ℕ → List ℕ
behind xs i = mid_of (i + 1) (length xs - (i + 1)) xs

-- .. their number, once octet i is stored
behind_length : (xs : List ℕ) (i r : ℕ) → length (behind (set xs i r) i) ≡ length xs - suc i
behind_length xs i r = mid_len (i + 1) (length (set xs i r)) (set xs i r) (omega arith) ∙ rw (length-set, add-one)

-- all octets, once others have come back for that part
abbrev with_behind : List ℕ → ℕ → List ℕ → List ℕ
with_behind xs i rest = put_mid (i + 1) (length xs - (i + 1)) xs rest

-- .. octet i stored before
stored_behind : (xs : List ℕ) (i r : ℕ) (rest : List ℕ) → i < length xs → with_behind (set xs i r) i rest ≡ take i xs ++ r ∷ rest
stored_behind xs i r rest inside =
    let stored = set xs i r in
    let none : drop (length stored - suc i) (drop (suc i) stored) ≡ [] = rw (← length-drop (suc i) stored) (drop-length (drop (suc i) stored)) in
    rw (add-one, none, append-nil, take-suc-set xs i r inside) (append_snoc (take i xs) r rest)

-- octets in which the bits end

module _ (b : ℕ) (xs : List ℕ) (inside : b / 8 < length xs) (octets : Octets xs) where
  -- whole octets kept, one octet cut, the rest zero
  pub masked_parts : masked b xs ≡ take (b / 8) xs ++ kept (b % 8) (get_or xs (b / 8) 0) ∷ replicate (length xs - suc (b / 8)) 0
  masked_parts =
      let rest = drop (suc (b / 8)) xs in
      let left : b - b / 8 * 8 ≡ b % 8 = omega arith in
      let after : Octets rest = λ i. rw (get_or-drop (suc (b / 8)) xs i 0) (octets (suc (b / 8) + i)) in
      rw (masked_split (b / 8) b xs (omega arith), left, drop-cons xs (b / 8) 0 inside, masked_cut (b % 8) (get_or xs (b / 8) 0) rest (omega arith) after, length-drop (suc (b / 8)) xs)

  -- .. as the code makes them
  pub mask_made : (r : ℕ) (rest : List ℕ) → r ≡ kept (b % 8) (get_or xs (b / 8) 0) → let cut = set xs (b / 8) r in rest ≡ replicate (length (behind cut (b / 8))) 0 → Masks b xs (with_behind cut (b / 8) rest)
  mask_made r rest cut zeros = record { left = stored_behind xs (b / 8) r rest inside ∙ rw (zeros, behind_length xs (b / 8) r, cut) (sym masked_parts) }

-- Masks

-- as many octets as before
pub masks_length : {bits : ℕ} {before after : List ℕ} → Masks bits before after → length after ≡ length before
masks_length {bits} {before} m = rw m.left (masked_length bits before)

-- two results that meet the contract are equal
pub masks_unique : {bits : ℕ} {before one other : List ℕ} → Masks bits before one → Masks bits before other → one ≡ other
masks_unique a b = a.left ∙ sym b.left
