-- The framing of an area: its complete entries, the octets that they cover, and the remainder; and the other pieces that are cut.
use Rattle.std.specs.Prelude.{Bool, ◌&&◌, ◌||◌, cond, List, ℕ, suc, ◌+◌, leb, eqb, length, get_or, drop}
use Rattle.meaning.specs.Cut.{Measure, pieces, total}

-- n octets, where there are as many
abbrev pub whole : ℕ → Measure
whole n xs = cond (leb n (length xs)) n 0

-- RFC 5305, section 3: type, length, and as many octets as the length says (document 01, 'The walk')
unfoldable pub entry_length : Measure
entry_length xs = whole (suc (suc (get_or xs 1 0))) xs

-- the complete entries of an area
unfoldable pub entries : List ℕ → List (List ℕ)
entries area = pieces entry_length area

-- the octets that they cover
unfoldable pub covered : List ℕ → ℕ
covered area = total (entries area)

-- the octets after them
unfoldable pub remainder : List ℕ → List ℕ
remainder area = drop (covered area) area

-- RFC 8667, section 3.1 (document 01, 'Ranges'): after 3 octets of size stand sub-type 1 and length 3 or 4
abbrev pub is_range : List ℕ → Bool
is_range xs = eqb (get_or xs 3 0) 1 && (eqb (get_or xs 4 0) 3 || eqb (get_or xs 4 0) 4)

-- a range: those 5 octets, and as many as the length says; anything else stops
unfoldable pub range_length : Measure
range_length xs = cond (is_range xs) (whole (5 + get_or xs 4 0) xs) 0
