-- Arrays (document 01, 'The registries' and 'Ranges'): one array over pieces, as many as fit.
use Rattle.std.specs.Prelude.{List, ℕ, ◌+◌, length, get_or, take, drop}
use Rattle.octets.specs.BigEndian.{big_endian}
use Rattle.tape.specs.Forest.{Forest, ◌⧺◌}
use Rattle.meaning.specs.Label.{Label}
use Rattle.meaning.specs.Shape.{u8, u32, array as array_shape, object}
use Rattle.meaning.specs.Cut.{Measure, pieces, total, each}
use Rattle.meaning.specs.Frame.{whole, range_length}
use Rattle.meaning.specs.Field.{Span, from, first, Element, numbers, msds, ranges}
use Rattle.meaning.specs.Tree.{one, over, number_in}
use Rattle.meaning.specs.Sid.{sid_trees}

-- the octets of a span
abbrev pub octets_in : Span → List ℕ → List ℕ
octets_in (from at) v = drop at v
octets_in (first n) v = take n v

-- the place of a span's first octet
abbrev pub start_of : Span → ℕ
start_of (from at) = at
start_of (first n) = 0

-- the complete element in front
abbrev pub element_length : Element → Measure
element_length (numbers label shape width) = whole width
element_length msds = whole 2
element_length ranges = range_length

-- the complete elements of a value in a span
abbrev pub elements : Span → Element → List ℕ → List (List ℕ)
elements span element v = pieces (element_length element) (octets_in span v)

-- an element p, the first octet at a place
unfoldable pub element_trees : Element → ℕ → List ℕ → ℕ → Forest
element_trees (numbers label shape width) registry p at = one label shape registry at (at + width) (number_in shape p 0 width)
element_trees msds registry p at =
    over Label.msd object registry at (at + 2)
    (one Label.msd_type u8 registry at (at + 1) (get_or p 0 0)
    ⧺ one Label.msd_value u8 registry (at + 1) (at + 2) (get_or p 1 0))
element_trees ranges registry p at =
    over Label.range object registry at (at + length p)
    (one Label.range_size u32 registry at (at + 3) (big_endian p 0 3)
    ⧺ sid_trees Label.range_sid registry p at 5)

-- an array over pieces, the first octet at a place: its range ends with the last of them
unfoldable pub array_of : Label → ℕ → (List ℕ → ℕ → Forest) → ℕ → List (List ℕ) → Forest
array_of label registry f at ps = over label array_shape registry at (at + total ps) (each f at ps)
