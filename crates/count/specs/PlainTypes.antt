-- Which rows have plain fields.
use Rattle.std.specs.Prelude.{◌≡◌, Bool, true, false, ◌&&◌, List, [], ◌∷◌, ℕ, ◌+◌, ◌≤◌, leb, length}
use Rattle.std.proofs.Common.{arith, leb-true}
use Rattle.tape.specs.Both.{both}
use Rattle.meaning.specs.Field.{Field, part, flag, sid, array, tail, push}
use Rattle.readings.specs.Plain.{Plain}

-- fields of a value that has at least so many octets: each is a part, a bit, or a SID whose octets are there
abbrev pub are_plain : ℕ → List Field → Bool
are_plain least [] = true
are_plain least (part label shape at width ∷ fs) = are_plain least fs
are_plain least (flag label mask ∷ fs) = are_plain least fs
are_plain least (sid at ∷ fs) = leb (at + 3) least && are_plain least fs
are_plain least (array label span element ∷ fs) = false
are_plain least (tail at ∷ fs) = false
are_plain least (push at ∷ fs) = false

-- in a value so long they are plain
pub plain_fields : (least : ℕ) (fs : List Field) (v : List ℕ) → least ≤ length v → are_plain least fs ≡ true → Plain v fs
plain_fields least [] v long e = tt
plain_fields least (part label shape at width ∷ fs) v long e = plain_fields least fs v long e
plain_fields least (flag label mask ∷ fs) v long e = plain_fields least fs v long e
plain_fields least (sid at ∷ fs) v long e =
    let x = both (leb (at + 3) least) (are_plain least fs) e in
    (omega (arith, leb-true (at + 3) least x.0), plain_fields least fs v long x.1)
plain_fields least (array label span element ∷ fs) v long e = cc
plain_fields least (tail at ∷ fs) v long e = cc
plain_fields least (push at ∷ fs) v long e = cc
