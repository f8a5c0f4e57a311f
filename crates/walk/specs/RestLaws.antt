-- Laws of what follows a decoder's records.
use Rattle.std.specs.Prelude.{◌≡◌, refl, List, [], ◌∷◌, ℕ, ◌+◌, ◌-◌, ◌<◌, length, None}
use Rattle.std.proofs.Common.{add-zero}
use Rattle.tape.specs.Forest.{◌⧺◌}
use Rattle.meaning.specs.Field.{Field}
use Rattle.meaning.specs.Value.{value_trees}
use Rattle.meaning.specs.Table.{usual}
use Rattle.meaning.specs.Area.{walked}
use Rattle.fields.specs.Shows.{octets_at}
use Rattle.readings.specs.Reading.{reading_of}
use Rattle.meaning.specs.AreaLaws.{raw_some}
use Rattle.walk.specs.Rest.{raw_from, rest_of}

-- octets that are left are one record
pub raw_is : (at registry : ℕ) (v : List ℕ) (base : ℕ) → at < length v → raw_from at registry v base ≡ octets_at 3 6 at (length v - at) registry v base
raw_is at registry v base some = raw_some registry (base + at) v at some

-- a value without fields
pub rest_none : (registry : ℕ) (v : List ℕ) (base : ℕ) → rest_of None registry v base ≡ octets_at 2 6 0 (length v) registry v base
unfolding rest_of
rest_none registry v base = rw (add-zero base) refl

-- a value is what its decoder shows, and the rest
pub value_is : (registry : ℕ) (v : List ℕ) (base : ℕ) (fs : List Field)
    → value_trees (walked usual) registry v base fs ≡ (reading_of registry v base fs).found ⧺ rest_of (reading_of registry v base fs).taken registry v base
unfolding value_trees reading_of rest_of ◌⧺◌
value_is registry v base [] = refl
value_is registry v base (f ∷ fs) = refl
