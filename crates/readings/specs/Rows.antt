-- Readings that several types share, by the numbers of labels and shapes, and what stands before an SRv6 SID.
use Rattle.std.specs.Prelude.{cond, List, ℕ, ◌+◌, eqb}
use Rattle.tape.specs.Forest.{Forest, none, ◌⧺◌}
use Rattle.meaning.specs.Label
use Rattle.meaning.specs.Cut.{pieces, total}
use Rattle.meaning.specs.Frame.{whole}
use Rattle.meaning.specs.Sid.{sid_trees, sid_end}
use Rattle.fields.specs.Shows.{number_at, octets_at, flag_at, numbers_in}
use Rattle.readings.specs.Reading.{Reading, took, given}

-- a number: label, shape, place, width
abbrev pub one_number : ℕ → ℕ → ℕ → ℕ → ℕ → List ℕ → ℕ → Reading
one_number label shape at width registry v base = given (at + width) v (took (at + width) (number_at label shape at width registry v base))

-- an address: label, shape, width
abbrev pub one_address : ℕ → ℕ → ℕ → ℕ → List ℕ → ℕ → Reading
one_address label shape width registry v base = given width v (took width (octets_at label shape 0 width registry v base))

-- flags, an octet, a SID
abbrev pub octet_and_sid : ℕ → ℕ → List ℕ → ℕ → Reading
octet_and_sid label registry v base =
    given 5 v (took (sid_end v 2) (number_at 16 0 0 1 registry v base ⧺ number_at label 0 1 1 registry v base ⧺ sid_trees Label.sid registry v base 2 ⧺ none))

-- the anomalous bit, and 24 bits
abbrev pub flag_and_number : ℕ → ℕ → List ℕ → ℕ → Reading
flag_and_number label registry v base = given 4 v (took 4 (flag_at 21 0x80 registry v base ⧺ number_at label 2 1 3 registry v base ⧺ none))

-- an array of numbers: least length, label of the array, label, shape and width of the numbers
abbrev pub number_array : ℕ → ℕ → ℕ → ℕ → ℕ → ℕ → List ℕ → ℕ → Reading
number_array least array label shape width registry v base =
    given least v (took (total (pieces (whole width) v)) (numbers_in array label shape width registry v base))

-- flags, algorithm, weight, endpoint behavior: place
abbrev pub end_x_head : ℕ → ℕ → List ℕ → ℕ → Forest
end_x_head at registry v base =
    number_at 16 0 at 1 registry v base ⧺ number_at 18 0 (at + 1) 1 registry v base ⧺ number_at 17 0 (at + 2) 1 registry v base ⧺ number_at 28 1 (at + 3) 2 registry v base

-- the neighbor's system id, where it has octets: width
abbrev pub system_id : ℕ → ℕ → List ℕ → ℕ → Forest
system_id width registry v base = cond (eqb width 0) none (octets_at 20 6 0 width registry v base)

-- flags, endpoint behavior
abbrev pub end_head : ℕ → List ℕ → ℕ → Forest
end_head registry v base = number_at 16 0 0 1 registry v base ⧺ number_at 28 1 1 2 registry v base
