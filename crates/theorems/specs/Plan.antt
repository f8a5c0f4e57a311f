-- What the theorems ask of a reading, and the tests by which the table passes.
use Rattle.std.specs.Prelude.{◌≡◌, Bool, true, false, ◌&&◌, ◌||◌, cond, List, [], ◌∷◌, ℕ, suc, ◌+◌, ◌*◌, ◌≤◌, leb, eqb, length}
use Rattle.registry.specs.Registry.{number_of}
use Rattle.registry.specs.declared.Registry.TheVariants.{Srv6Sid, Unregistered}
use Rattle.meaning.specs.Field.{Field, part, flag, sid, array, tail, push, Row, row, Plan}
use Rattle.meaning.specs.Array.{start_of}
use Rattle.meaning.specs.Tail.{length_at}

-- the registries of areas inside a value
abbrev pub is_inner : ℕ → Bool
is_inner registry = eqb registry (number_of Srv6Sid) || eqb registry (number_of Unregistered)

-- a field without a container and without an area inside
abbrev pub is_plain : Field → Bool
is_plain (part label shape at width) = true
is_plain (flag label mask) = true
is_plain (sid at) = true
is_plain (array label span element) = false
is_plain (tail at) = false
is_plain (push at) = false

-- fields that are all so
abbrev pub all_plain : List Field → Bool
all_plain [] = true
all_plain (f ∷ fs) = is_plain f && all_plain fs

-- what holds of each field
abbrev pub Every : (Field → Type 0) → List Field → Type 0
Every P [] = Unit {0}
Every P (f ∷ fs) = P f × Every P fs

-- a reading under which an area inside a value has no container and no area inside its values
abbrev pub Flat : Plan → Type 0
Flat plan = (registry t : ℕ) (v : List ℕ) → is_inner registry ≡ true → all_plain (plan registry t v) ≡ true

-- the fields of a row of such a reading
abbrev pub are_flat : ℕ → ℕ → List Field → Bool
are_flat registry least fields = cond (is_inner registry) (all_plain fields) true

-- the octets that a field asks for, whatever they are
abbrev pub need : Field → ℕ
need (part label shape at width) = at + width
need (flag label mask) = 1
need (sid at) = at + 3
need (array label span element) = start_of span
need (tail at) = length_at at
need (push at) = at

-- a reading whose fields lie inside the value
abbrev pub Fitting : Plan → Type 0
Fitting plan = (registry t : ℕ) (v : List ℕ) → Every (λ (f : Field). need f ≤ length v) (plan registry t v)

-- the fields of a row of such a reading
abbrev pub are_inside : ℕ → ℕ → List Field → Bool
are_inside registry least [] = true
are_inside registry least (f ∷ fs) = leb (need f) least && are_inside registry least fs

-- An entry has 2 octets and 3 records beside its value's, so where it shows at most 7 records for 3 octets, a value of m octets shows at most (5 + 7m) / 3.
-- fields, k others before them: all but the last are plain, and the last lies inside n octets and asks for so many that one record a field is not too many
abbrev pub are_sparing : ℕ → ℕ → List Field → Bool
are_sparing n k [] = true
are_sparing n k (f ∷ []) = leb (need f) n && leb (3 * suc k) (5 + 7 * need f)
are_sparing n k (f ∷ g ∷ fs) = is_plain f && are_sparing n (suc k) (g ∷ fs)

-- such fields in a value of n octets
pub record Spare (fs : List Field) (n : ℕ) : Type 0 where
  pub least : ℕ
  pub inside : least ≤ n
  pub few : are_sparing least 0 fs ≡ true

-- a reading with such fields
abbrev pub Sparing : Plan → Type 0
Sparing plan = (registry t : ℕ) (v : List ℕ) → Spare (plan registry t v) (length v)

-- the fields of a row of such a reading
abbrev pub have_few : ℕ → ℕ → List Field → Bool
have_few registry least fields = are_sparing least 0 fields

-- rows that pass a test of registry, least length and fields
abbrev pub rows_pass : (ℕ → ℕ → List Field → Bool) → List Row → Bool
rows_pass test [] = true
rows_pass test (row registry t least fields ∷ rows) = test registry least fields && rows_pass test rows
