-- Cutting, at a place of the octets: what is left there, as a loop over pieces meets it.
use Rattle.std.specs.Prelude.{◌≡◌, Bool, ◌||◌, ◌&&◌, ◌⊎◌, List, ◌∷◌, ℕ, ◌+◌, ◌-◌, ◌≤◌, ◌<◌, eqb, length, take, drop}
use Rattle.std.proofs.Math.Path.{refl}
use Rattle.std.proofs.Common.{◌∙◌, inl, inr, add_assoc, arith, length-drop, length-take-le, take_all, drop-drop}
use Rattle.std.proofs.Math.Bool.{true, false, cond}
use Rattle.std.proofs.Math.ListN.{get_or}
use Rattle.std.proofs.Math.Seq.{get_or-drop}
use borrow.Author.Tests.{le-leb, lt-leb, ne_eqb}
use Rattle.tape.specs.Forest.{Forest, none, ◌⧺◌}
use Rattle.meaning.specs.Cut.{Measure, pieces, total, each}
use Rattle.meaning.specs.CutLaws.{pieces_stop, pieces_step}
use Rattle.meaning.specs.Frame.{whole, is_range, range_length}

-- pieces cut by m out of s, whose first octet stands at base, and what each becomes
module _ (m : Measure) (f : List ℕ → ℕ → Forest) (base : ℕ) (s : List ℕ) where
  -- what the octets from i on become
  abbrev pub left : ℕ → Forest
  left i = each f (base + i) (pieces m (drop i s))

  -- how many of them pieces have
  abbrev pub more : ℕ → ℕ
  more i = total (pieces m (drop i s))

-- a measure that stays within the octets
module _ (m : Measure) (fits : (xs : List ℕ) → m xs ≤ length xs) (f : List ℕ → ℕ → Forest) (base : ℕ) (s : List ℕ) where
  -- a piece of w octets stands at i
  module _ (i w : ℕ) (is : m (drop i s) ≡ w) (some : 0 < w) where
    pieces_here : pieces m (drop i s) ≡ take w (drop i s) ∷ pieces m (drop (i + w) s)
    pieces_here = pieces_step m fits (drop i s) (rw is some) ∙ rw (is, drop-drop)

    piece_length : length (take w (drop i s)) ≡ w
    piece_length = length-take-le w (drop i s) (rw is at (fits (drop i s)))

    pub left_step : left m f base s i ≡ f (take w (drop i s)) (base + i) ⧺ left m f base s (i + w)
    unfolding each
    left_step = rw (pieces_here, piece_length, add_assoc)

    pub more_step : i + more m f base s i ≡ i + w + more m f base s (i + w)
    unfolding total
    more_step = rw (pieces_here, piece_length) (omega arith)

  -- none does
  module _ (i : ℕ) (stops : m (drop i s) ≡ 0) where
    pub left_end : left m f base s i ≡ none
    unfolding each
    left_end = rw (pieces_stop m fits (drop i s) stops)

    pub more_end : more m f base s i ≡ 0
    unfolding total
    more_end = rw (pieces_stop m fits (drop i s) stops)

-- the octets from i on, as a part that ends with the last
pub part_rest : (i : ℕ) (s : List ℕ) → take (length s - i) (drop i s) ≡ drop i s
part_rest i s = take_all (length s - i) (drop i s) (omega (arith, length-drop i s))

-- whole

module _ (n : ℕ) (s : List ℕ) (i : ℕ) where
  pub whole_here : i + n ≤ length s → whole n (drop i s) ≡ n
  whole_here enough = rw (le-leb n (length (drop i s)) (omega (arith, length-drop i s)))

  pub whole_over : length s < i + n → i ≤ length s → whole n (drop i s) ≡ 0
  whole_over few inside = rw (lt-leb n (length (drop i s)) (omega (arith, length-drop i s)))

-- range_length

three_or_four : (n : ℕ) → (n ≡ 3) ⊎ (n ≡ 4) → (eqb n 3 || eqb n 4) ≡ true
three_or_four n (inl three) = rw three
three_or_four n (inr four) = rw four

module _ (s : List ℕ) (i : ℕ) (inside : i ≤ length s) where
  pub range_few : length s < i + 5 → range_length (drop i s) ≡ 0
  unfolding range_length
  range_few few = go (is_range (drop i s))
    where
      go : (b : Bool) → cond b (whole (5 + get_or (drop i s) 4 0) (drop i s)) 0 ≡ 0
      go true = whole_over (5 + get_or (drop i s) 4 0) s i (omega arith) inside
      go false = refl

  pub range_other : (get_or s (i + 3) 0 ≡ 1 → ⊥) → range_length (drop i s) ≡ 0
  unfolding range_length
  range_other other = rw (get_or-drop i s 3 0, ne_eqb (get_or s (i + 3) 0) 1 other)

  pub range_neither : (get_or s (i + 4) 0 ≡ 3 → ⊥) → (get_or s (i + 4) 0 ≡ 4 → ⊥) → range_length (drop i s) ≡ 0
  unfolding range_length
  range_neither not3 not4 = rw (get_or-drop i s 4 0, ne_eqb (get_or s (i + 4) 0) 3 not3, ne_eqb (get_or s (i + 4) 0) 4 not4) (go (eqb (get_or (drop i s) 3 0) 1))
    where
      go : (b : Bool) → cond (b && false) (whole (5 + get_or s (i + 4) 0) (drop i s)) 0 ≡ 0
      go true = refl
      go false = refl

  -- sub-type 1, and a length of 3 or 4
  module _ (one : get_or s (i + 3) 0 ≡ 1) (either : (get_or s (i + 4) 0 ≡ 3) ⊎ (get_or s (i + 4) 0 ≡ 4)) where
    range_is : range_length (drop i s) ≡ whole (5 + get_or s (i + 4) 0) (drop i s)
    unfolding range_length
    range_is = rw (get_or-drop i s 3 0, get_or-drop i s 4 0, one, three_or_four (get_or s (i + 4) 0) either)

    pub range_here : i + (5 + get_or s (i + 4) 0) ≤ length s → range_length (drop i s) ≡ 5 + get_or s (i + 4) 0
    range_here enough = range_is ∙ whole_here (5 + get_or s (i + 4) 0) s i enough

    pub range_over : length s < i + (5 + get_or s (i + 4) 0) → range_length (drop i s) ≡ 0
    range_over few = range_is ∙ whole_over (5 + get_or s (i + 4) 0) s i few inside
