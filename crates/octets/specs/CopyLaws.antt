-- Laws of octets in front of others, and for a loop that puts them there: `paste to 0 from i` after i turns.
use Rattle.std.specs.Prelude.{◌≡◌, ℕ, suc, ◌+◌, ◌<◌, List, [], length, get_or, set, drop, replicate}
use Rattle.std.proofs.Common.{sym, ◌∙◌, subst, append-nil, zero-add, add-one, arith, get_or-append-add, get_or-drop}
use Rattle.std.proofs.lemmas.List.{length-replicate, get_or-replicate}
use Rattle.std.proofs.Math.Seq.{paste, paste-suc, take-length, drop-length}
use Rattle.octets.specs.Copy.{in_front}

-- a turn
pub copy_more : (to from : List ℕ) (i : ℕ) → i < length to → i < length from → set (paste to 0 from i) i (get_or from i 0) ≡ paste to 0 from (i + 1)
copy_more to from i in_to in_from =
    rw add-one (subst (λ (k : ℕ). set (paste to 0 from i) k (get_or from i 0) ≡ paste to 0 from (suc i)) (zero-add i) (paste-suc to 0 from i 0 (omega arith) in_from))

-- after the last turn
pub copied : (to from : List ℕ) (i : ℕ) → i ≡ length from → paste to 0 from i ≡ in_front from to
unfolding in_front
copied to from i all = rw all (simp (take-length, zero-add))

-- a list of the same length is replaced whole
pub in_front_whole : (to from : List ℕ) → length to ≡ length from → in_front from to ≡ from
unfolding in_front
in_front_whole to from h =
    let none : drop (length from) to ≡ [] = subst (λ (k : ℕ). drop k to ≡ []) h (drop-length to) in simp (none, append-nil)

-- the octets after what was copied stay
pub in_front_after : (to from : List ℕ) (i : ℕ) → get_or (in_front from to) (length from + i) 0 ≡ get_or to (length from + i) 0
unfolding in_front
in_front_after to from i = get_or-append-add from (drop (length from) to) i 0 ∙ get_or-drop (length from) to i 0

-- a turn of a loop that makes a list's elements 0
pub zero_more : (xs now : List ℕ) (i : ℕ) → i < length xs → now ≡ paste xs 0 (replicate (length xs) 0) i → set now i 0 ≡ paste xs 0 (replicate (length xs) 0) (i + 1)
zero_more xs now i inside so_far =
    let zeros : List ℕ = replicate (length xs) 0 in
    let same : length zeros ≡ length xs = length-replicate (length xs) 0 in
    rw so_far (subst (λ (x : ℕ). set (paste xs 0 zeros i) i x ≡ paste xs 0 zeros (i + 1)) (get_or-replicate (length xs) i 0 0 inside) (copy_more xs zeros i inside (omega arith)))

-- .. wherever its place comes from
pub zero_place : (xs now : List ℕ) (i : ℕ) {place : ℕ} → place ≡ i → i < length xs → now ≡ paste xs 0 (replicate (length xs) 0) i → set now place 0 ≡ paste xs 0 (replicate (length xs) 0) (i + 1)
zero_place xs now i there inside so_far = rw there (zero_more xs now i inside so_far)

-- .. and after the last one
pub zeroed : (xs : List ℕ) (i : ℕ) → i ≡ length xs → paste xs 0 (replicate (length xs) 0) i ≡ replicate (length xs) 0
zeroed xs i all =
    let zeros : List ℕ = replicate (length xs) 0 in
    let same : length zeros ≡ length xs = length-replicate (length xs) 0 in
    copied xs zeros i (all ∙ sym same) ∙ in_front_whole xs zeros (sym same)
