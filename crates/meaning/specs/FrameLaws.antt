-- Laws of the framing.
use Rattle.std.specs.Prelude.{◌≡◌, refl, Bool, true, false, ◌&&◌, ◌||◌, cond, List, [], ◌∷◌, ◌++◌, ℕ, suc, ◌+◌, ◌≤◌, ◌<◌, leb, eqb, length, get_or}
use Rattle.std.proofs.Common.{arith, leb-true, le-leb, eqb-true, ne_eqb, length-append, length-drop}
use Rattle.std.proofs.lemmas.Bool.{lt-leb}
use Rattle.std.proofs.Math.ListN.{get_or-append}
use Rattle.std.proofs.Math.Seq.{drop-append-add, drop-length}
use Rattle.tape.specs.Both.{both}
use Rattle.meaning.specs.Cut.{pieces_after, pieces, total}
use Rattle.meaning.specs.CutLaws.{total-++, joined, total_le, pieces_rejoined, pieces_after_lem, pieces_piece, pieces-++}
use Rattle.meaning.specs.Frame.{whole, entry_length, entries, covered, remainder, is_range, range_length}

-- whole

-- a measure that is not 0 has passed its test
pub passed : (b : Bool) (n : ℕ) → 0 < cond b n 0 → b ≡ true
passed true n h = refl
passed false n h = absurd (omega arith)

cond_le : (b : Bool) (n k : ℕ) → (b ≡ true → n ≤ k) → cond b n 0 ≤ k
cond_le true n k h = h refl
cond_le false n k h = omega arith

pub whole_fits : (n : ℕ) (xs : List ℕ) → whole n xs ≤ length xs
whole_fits n xs = cond_le (leb n (length xs)) n (length xs) (leb-true n (length xs))

-- where a piece of n octets stands, there are as many
pub whole_is : (n : ℕ) (xs : List ℕ) → 0 < whole n xs → whole n xs ≡ n
whole_is n xs h = rw (passed (leb n (length xs)) n h)

-- entry_length

pub entry_is : (xs : List ℕ) → entry_length xs ≡ whole (2 + get_or xs 1 0) xs
unfolding entry_length
entry_is xs = let two : 2 + get_or xs 1 0 ≡ suc (suc (get_or xs 1 0)) = omega arith in rw two refl

-- an entry has two octets or more
pub entry_two : (xs : List ℕ) → 0 < entry_length xs → 2 ≤ entry_length xs
entry_two xs some = omega (arith, entry_is xs, whole_is (2 + get_or xs 1 0) xs (rw (entry_is xs) at some))

pub entry_few : (xs : List ℕ) → length xs < 2 → entry_length xs ≡ 0
unfolding entry_length
entry_few xs few = rw (lt-leb (suc (suc (get_or xs 1 0))) (length xs) (omega arith)) refl

pub entry_fits : (xs : List ℕ) → entry_length xs ≤ length xs
unfolding entry_length
entry_fits xs = whole_fits (suc (suc (get_or xs 1 0))) xs

-- as the length octet says
module _ (xs : List ℕ) where
  pub entry_here : 2 + get_or xs 1 0 ≤ length xs → entry_length xs ≡ 2 + get_or xs 1 0
  unfolding entry_length
  entry_here enough = rw (le-leb (suc (suc (get_or xs 1 0))) (length xs) (omega (arith, enough))) (omega arith)

  pub entry_over : length xs < 2 + get_or xs 1 0 → entry_length xs ≡ 0
  unfolding entry_length
  entry_over few = rw (lt-leb (suc (suc (get_or xs 1 0))) (length xs) (omega (arith, few)))

entry_more : (xs ys : List ℕ) → 0 < entry_length xs → entry_length (xs ++ ys) ≡ entry_length xs
unfolding entry_length
entry_more xs ys h =
    let n : ℕ = suc (suc (get_or xs 1 0)) in
    let e : leb n (length xs) ≡ true = passed (leb n (length xs)) n h in
    let g : n ≤ length xs = leb-true n (length xs) e in
    rw (get_or-append xs ys 0 1 (omega arith), le-leb n (length (xs ++ ys)) (omega (arith, length-append xs ys)), e)

-- an entry: type, length, value
abbrev pub entry : ℕ → List ℕ → List ℕ
entry t v = t ∷ length v ∷ v

entry_whole : (t : ℕ) (v : List ℕ) → entry_length (entry t v) ≡ length (entry t v)
unfolding entry_length
entry_whole t v = rw (le-leb (length (entry t v)) (length (entry t v)) (omega arith))

-- range_length

pub range_fits : (xs : List ℕ) → range_length xs ≤ length xs
unfolding range_length
range_fits xs = cond_le (is_range xs) (whole (5 + get_or xs 4 0) xs) (length xs) (λ e. whole_fits (5 + get_or xs 4 0) xs)

-- of a length of 3 or 4
three_four : (n : ℕ) → (eqb n 3 || eqb n 4) ≡ true → 3 ≤ n
three_four n is = go (eqb n 3) refl
  where
    go : (b : Bool) → eqb n 3 ≡ b → 3 ≤ n
    go true three = omega (arith, eqb-true n 3 three)
    go false other = omega (arith, eqb-true n 4 (rw other at is))

-- where no range stands in front: too few octets, ..
pub range_few : (xs : List ℕ) → length xs < 5 → range_length xs ≡ 0
unfolding range_length
range_few xs few = go (is_range xs)
  where
    go : (b : Bool) → cond b (whole (5 + get_or xs 4 0) xs) 0 ≡ 0
    go true = rw (lt-leb (5 + get_or xs 4 0) (length xs) (omega arith)) refl
    go false = refl

-- .. another sub-type, ..
pub range_other : (xs : List ℕ) → (get_or xs 3 0 ≡ 1 → ⊥) → range_length xs ≡ 0
unfolding range_length
range_other xs other = rw (ne_eqb (get_or xs 3 0) 1 other) refl

-- .. another length
pub range_neither : (xs : List ℕ) → (get_or xs 4 0 ≡ 3 → ⊥) → (get_or xs 4 0 ≡ 4 → ⊥) → range_length xs ≡ 0
unfolding range_length
range_neither xs not3 not4 = rw (ne_eqb (get_or xs 4 0) 3 not3, ne_eqb (get_or xs 4 0) 4 not4) (go (eqb (get_or xs 3 0) 1))
  where
    go : (b : Bool) → cond (b && false) (whole (5 + get_or xs 4 0) xs) 0 ≡ 0
    go true = refl
    go false = refl

-- sub-type 1, and a length of 3 or of 4
pub range_of_three : (xs : List ℕ) → get_or xs 3 0 ≡ 1 → get_or xs 4 0 ≡ 3 → range_length xs ≡ whole 8 xs
unfolding range_length
range_of_three xs one three = rw (one, three) refl

pub range_of_four : (xs : List ℕ) → get_or xs 3 0 ≡ 1 → get_or xs 4 0 ≡ 4 → range_length xs ≡ whole 9 xs
unfolding range_length
range_of_four xs one four = rw (one, four) refl

-- so a range has 8 octets or more
pub range_eight : (xs : List ℕ) → 0 < range_length xs → 8 ≤ range_length xs
unfolding range_length
range_eight xs some =
    let n : ℕ = get_or xs 4 0 in
    let is : is_range xs ≡ true = passed (is_range xs) (whole (5 + n) xs) some in
    let there : 0 < whole (5 + n) xs = rw is at some in
    rw (is, whole_is (5 + n) xs there) (omega (arith, three_four n (both (eqb (get_or xs 3 0) 1) (eqb n 3 || eqb n 4) is).1))

-- covered, remainder

-- an empty area has no entries
pub entries_none : entries [] ≡ []
unfolding entries pieces pieces_after
entries_none = refl

pub covered_none : covered [] ≡ 0
unfolding covered total
covered_none = rw entries_none

pub covered_le : (area : List ℕ) → covered area ≤ length area
unfolding covered entries
covered_le = total_le entry_length entry_fits

pub length_remainder : (area : List ℕ) → covered area + length (remainder area) ≡ length area
unfolding remainder
length_remainder area = omega (arith, length-drop (covered area) area, covered_le area)

-- an area is its complete entries and the remainder ..
pub area_rejoined : (area : List ℕ) → joined (entries area) ++ remainder area ≡ area
unfolding remainder covered entries
area_rejoined = pieces_rejoined entry_length entry_fits

-- .. in front of which no complete entry stands
pub remainder_stops : (area : List ℕ) → entry_length (remainder area) ≡ 0
unfolding remainder covered entries
remainder_stops = pieces_after_lem entry_length entry_fits

-- an area that is covered whole, and octets after it
module _ (a b : List ℕ) (all : covered a ≡ length a) where
  pub entries-++ : entries (a ++ b) ≡ entries a ++ entries b
  unfolding entries covered
  entries-++ = pieces-++ entry_length entry_fits entry_more b a all

  covered-++ : covered (a ++ b) ≡ length a + covered b
  unfolding covered
  covered-++ = rw (entries-++, total-++, all)

  pub remainder-++ : remainder (a ++ b) ≡ remainder b
  unfolding remainder
  remainder-++ = rw (covered-++, drop-append-add)

-- it leaves nothing
pub remainder_none : (a : List ℕ) → covered a ≡ length a → remainder a ≡ []
unfolding remainder
remainder_none a all = rw (all, drop-length)

-- an entry, and octets after it
module _ (t : ℕ) (v post : List ℕ) where
  pub entries_entry : entries (entry t v ++ post) ≡ entry t v ∷ entries post
  unfolding entries
  entries_entry = pieces_piece entry_length entry_fits entry_more (entry t v) post (entry_whole t v) (omega arith)

  pub covered_entry : covered (entry t v ++ post) ≡ length (entry t v) + covered post
  unfolding covered total
  covered_entry = rw entries_entry

  pub remainder_entry : remainder (entry t v ++ post) ≡ remainder post
  unfolding remainder
  remainder_entry = rw (covered_entry, drop-append-add (entry t v) post)
