-- What follows a decoder's records.
use Rattle.std.specs.Prelude.{List, ℕ, ◌+◌, drop, Option, Some, None}
use Rattle.tape.specs.Forest.{Forest}
use Rattle.meaning.specs.Tree.{raw, value}

-- the octets from a place on, as one `raw` record, absent when empty
abbrev pub raw_from : ℕ → ℕ → List ℕ → ℕ → Forest
raw_from at registry v base = raw registry (base + at) (drop at v)

-- the octets that are not taken, as `raw`; where nothing is taken, the whole value
unfoldable pub rest_of : Option ℕ → ℕ → List ℕ → ℕ → Forest
rest_of (Some k) registry v base = raw_from k registry v base
rest_of None registry v base = value registry base v

-- .. of the value of an entry
abbrev pub rest_in : Option ℕ → ℕ → List ℕ → ℕ → Forest
rest_in taken registry e base = rest_of taken registry (drop 2 e) (base + 2)
