-- What a decoder gives for a value: what it takes, and the trees that it shows.
use Rattle.std.specs.Prelude.{◌≡◌, Bool, cond, List, [], ◌∷◌, ℕ, leb, length, Option, Some, None}
use Rattle.tape.specs.Forest.{Forest, none, size}
use Rattle.store.specs.Pen.{HasRoom, Writes}
use Rattle.store.specs.declared.pen.Pen.{Pen}
use Rattle.meaning.specs.Field.{Field}
use Rattle.meaning.specs.Table.{usual}
use Rattle.meaning.specs.Value.{taken, fields_trees}
use Rattle.meaning.specs.Area.{walked}

-- what is taken of a value, and what is shown
pub record Reading : Type 0 where
  pub taken : Option ℕ
  pub found : Forest

-- a value that is not decoded
abbrev pub nothing : Reading
nothing = record { taken = None; found = none }

-- so many octets taken, and trees shown
abbrev pub took : ℕ → Forest → Reading
took n trees = record { taken = Some n; found = trees }

-- a reading, where the value has so many octets or more
abbrev pub given : ℕ → List ℕ → Reading → Reading
given least v x = cond (leb least (length v)) x nothing

-- the reading by fields: none where there are no fields
unfoldable pub reading_of : ℕ → List ℕ → ℕ → List Field → Reading
reading_of registry v base [] = nothing
reading_of registry v base (f ∷ fs) = took (taken v (f ∷ fs)) (fields_trees (walked usual) registry v base (f ∷ fs))

-- the reading of a value by the row of type t in a registry, as registry r shows it
abbrev pub by_row : ℕ → ℕ → ℕ → List ℕ → ℕ → Reading
by_row registry t r v base = reading_of r v base (usual registry t v)

-- the reading of a value of type t, the first octet at base
abbrev pub reading : ℕ → ℕ → List ℕ → ℕ → Reading
reading registry t v base = reading_of registry v base (usual registry t v)

-- the contract of a decoder: what it took, and what it laid
pub record Reads {L : Type 0} (slim : Bool) (x : Reading) (p q : Pen L) (r : Option ℕ) : Type 0 where
  pub taken : r ≡ x.taken
  pub writes : Writes slim x.found p q

-- what a decoder asks for: room for what is shown
abbrev pub Asks : {L : Type 0} → Bool → Reading → Pen L → Type 0
Asks slim x p = HasRoom slim p (size x.found)
