-- What functions that lay the fields of a value promise.
use Rattle.std.specs.Prelude.{◌≡◌, Bool, cond, List, ℕ, ◌+◌, ◌/◌, ◌%◌, ◌^◌, leb, eqb, length, get_or}
use Rattle.octets.specs.BigEndian.{big_endian}
use Rattle.tape.specs.Forest.{Forest, none, leaf, node}
use Rattle.store.specs.Pen.{Writes}
use Rattle.store.specs.declared.pen.Pen.{Pen}
use Rattle.meaning.specs.Tree.{content}
use Rattle.meaning.specs.Cut.{pieces, total, each}
use Rattle.meaning.specs.Frame.{whole, range_length}
use Rattle.meaning.specs.Field.{msds, ranges}
use Rattle.meaning.specs.Array.{element_trees}

-- trees were laid, up to an octet
pub record WritesUpTo {L : Type 0} (slim : Bool) (octets : ℕ) (trees : Forest) (p q : Pen L) (r : ℕ) : Type 0 where
  pub covers : r ≡ octets
  pub writes : Writes slim trees p q

-- the shape of a number of so many octets
abbrev pub number_shape : ℕ → ℕ
number_shape width = cond (eqb width 1) 0 (cond (eqb width 2) 1 (cond (eqb width 8) 3 2))

-- a number in the width octets from a place on: label, shape, place, width
abbrev pub number_at : ℕ → ℕ → ℕ → ℕ → ℕ → List ℕ → ℕ → Forest
number_at label shape at width registry v base = leaf (content label shape registry (base + at) (base + at + width) (big_endian v at width)) none

-- octets without a number: label, shape, place, width
abbrev pub octets_at : ℕ → ℕ → ℕ → ℕ → ℕ → List ℕ → ℕ → Forest
octets_at label shape at width registry v base = leaf (content label shape registry (base + at) (base + at + width) 0) none

-- a bit of octet 0: label, mask
abbrev pub flag_at : ℕ → ℕ → ℕ → List ℕ → ℕ → Forest
flag_at label mask registry v base = leaf (content label 0 registry base (base + 1) (get_or v 0 0 / mask % 2)) none

-- how many octets a SID has, where 3 are left or more ..
abbrev pub sid_width : List ℕ → ℕ → ℕ
sid_width v at = cond (leb (at + 4) (length v)) 4 3

-- .. and its number
abbrev pub sid_number : List ℕ → ℕ → ℕ
sid_number v at = cond (leb (at + 4) (length v)) (big_endian v at 4) (big_endian v at 3 % 2 ^ 20)

-- a SID: label, place
abbrev pub sid_at : ℕ → ℕ → ℕ → List ℕ → ℕ → Forest
sid_at label at registry v base = leaf (content label 2 registry (base + at) (base + at + sid_width v at) (sid_number v at)) none

-- an element that is a number: label, shape, width, registry
abbrev pub number_trees : ℕ → ℕ → ℕ → ℕ → List ℕ → ℕ → Forest
number_trees label shape width registry p at = leaf (content label shape registry at (at + width) (big_endian p 0 width)) none

-- an array over pieces, by the number of its label
abbrev pub array_by : ℕ → ℕ → (List ℕ → ℕ → Forest) → ℕ → List (List ℕ) → Forest
array_by label registry f at ps = node (content label 7 registry at (at + total ps) 0) (each f at ps) none

-- octets as an array of numbers: label of the array, label, shape and width of the numbers
abbrev pub numbers_in : ℕ → ℕ → ℕ → ℕ → ℕ → List ℕ → ℕ → Forest
numbers_in array label shape width registry v base = array_by array registry (number_trees label shape width registry) base (pieces (whole width) v)

-- octets as an array of MSDs
abbrev pub msds_in : ℕ → List ℕ → ℕ → Forest
msds_in registry v base = array_by 42 registry (element_trees msds registry) base (pieces (whole 2) v)

-- octets as an array of ranges
abbrev pub ranges_in : ℕ → List ℕ → ℕ → Forest
ranges_in registry v base = array_by 40 registry (element_trees ranges registry) base (pieces range_length v)
