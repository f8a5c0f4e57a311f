-- What the table says of a type that it does not list.
use Rattle.std.specs.Prelude.{◌≡◌, refl, Bool, true, false, ◌&&◌, cond, List, [], ◌∷◌, ℕ, leb, eqb, length}
use Rattle.std.proofs.Common.{ne_eqb}
use Rattle.meaning.specs.Field.{Field, Row, row}
use Rattle.meaning.specs.Table.{table, fields_of, usual}

-- the types of a registry
abbrev pub types_of : ℕ → List Row → List ℕ
types_of registry [] = []
types_of registry (row registry' t least fields ∷ rows) = cond (eqb registry registry') (t ∷ types_of registry rows) (types_of registry rows)

-- a type is none of these
abbrev pub NoneOf : ℕ → List ℕ → Type 0
NoneOf t [] = Unit {0}
NoneOf t (x ∷ xs) = (t ≡ x → ⊥) × NoneOf t xs

-- rows that do not list a type give it no fields
pub unlisted : (registry t n : ℕ) (rows : List Row) → NoneOf t (types_of registry rows) → fields_of rows registry t n ≡ []
unfolding fields_of
unlisted registry t n [] x = refl
unlisted registry t n (row registry' t' least fields ∷ rows) x = go (eqb registry registry') (leb least n) x (λ y. unlisted registry t n rows y)
  where
    go : (b c : Bool) → NoneOf t (cond b (t' ∷ types_of registry rows) (types_of registry rows)) → (NoneOf t (types_of registry rows) → fields_of rows registry t n ≡ [])
        → cond (b && (eqb t t' && c)) fields (fields_of rows registry t n) ≡ []
    go true c x ih = rw (ne_eqb t t' x.0) (ih x.1)
    go false c x ih = ih x

-- a type that the table does not list in a registry has no fields
pub usual_unknown : (registry t : ℕ) (v : List ℕ) → NoneOf t (types_of registry table) → usual registry t v ≡ []
unfolding usual
usual_unknown registry t v = unlisted registry t (length v) table

-- the least value length that rows ask of a type, and its fields then
unfoldable pub least_in : List Row → ℕ → ℕ → ℕ
least_in [] registry t = 0
least_in (row registry' t' least fields ∷ rows) registry t = cond (eqb registry registry' && eqb t t') least (least_in rows registry t)

unfoldable pub fields_in : List Row → ℕ → ℕ → List Field
fields_in [] registry t = []
fields_in (row registry' t' least fields ∷ rows) registry t = cond (eqb registry registry' && eqb t t') fields (fields_in rows registry t)

-- a type has one row: it says the least length and the fields
abbrev pub OneRow : ℕ → ℕ → List ℕ → Type 0
OneRow registry t v = usual registry t v ≡ cond (leb (least_in table registry t) (length v)) (fields_in table registry t) []
