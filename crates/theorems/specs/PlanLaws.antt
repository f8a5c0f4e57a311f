-- The table's reading has what the theorems ask of a reading.
use Rattle.std.specs.Prelude.{◌≡◌, refl, Bool, true, false, ◌&&◌, cond, List, [], ◌∷◌, ℕ, ◌≤◌, leb, eqb, length}
use Rattle.std.proofs.Common.{ap, ◌∙◌, arith, leb-true, eqb-true}
use Rattle.registry.specs.Registry.{number_of, is_nested}
use Rattle.registry.specs.declared.Registry.{Registry}
use Rattle.registry.specs.declared.Registry.TheVariants.{Neighbor, Prefix, RouterCapability, Binding, Srv6Sid, Unregistered}
use Rattle.tape.specs.Both.{both}
use Rattle.meaning.specs.Field.{Field, Row, row}
use Rattle.meaning.specs.Table.{table, fields_of, usual}
use Rattle.theorems.specs.Plan.{is_inner, is_plain, all_plain, Every, Flat, are_flat, need, Fitting, are_inside, Spare, Sparing, have_few, rows_pass}

-- the registries of areas inside a value are those of the nested level
pub inner_nested : (registry : Registry) → is_inner (number_of registry) ≡ is_nested registry
inner_nested Neighbor = refl
inner_nested Prefix = refl
inner_nested RouterCapability = refl
inner_nested Binding = refl
inner_nested Srv6Sid = refl
inner_nested Unregistered = refl

-- what holds of any field holds of each
pub every : (P : Field → Type 0) → ((f : Field) → P f) → (fs : List Field) → Every P fs
every P x [] = tt
every P x (f ∷ fs) = (x f, every P x fs)

-- what follows for any field follows for each
pub every_so : (P Q : Field → Type 0) → ((f : Field) → P f → Q f) → (fs : List Field) → Every P fs → Every Q fs
every_so P Q so [] x = tt
every_so P Q so (f ∷ fs) x = (so f x.0, every_so P Q so fs x.1)

-- what holds of any plain field holds of each where all are plain
pub every_plain : (P : Field → Type 0) → ((f : Field) → is_plain f ≡ true → P f) → (fs : List Field) → all_plain fs ≡ true → Every P fs
every_plain P x [] plain = tt
every_plain P x (f ∷ fs) plain =
    let p = both (is_plain f) (all_plain fs) plain in
    (x f p.0, every_plain P x fs p.1)

-- rows

-- what holds of no fields, and of the fields of rows that pass a test, where the value is long enough, holds of the fields that rows give
rows_give : (test : ℕ → ℕ → List Field → Bool) (P : ℕ → List Field → ℕ → Type 0)
    → ((registry n : ℕ) → P registry [] n) → ((registry least n : ℕ) (fs : List Field) → least ≤ n → test registry least fs ≡ true → P registry fs n)
    → (rows : List Row) → rows_pass test rows ≡ true → (registry t n : ℕ) → P registry (fields_of rows registry t n) n
unfolding fields_of
rows_give test P nothing something [] pass registry t n = nothing registry n
rows_give test P nothing something (row registry' t' least fields ∷ rows) pass registry t n =
    let x = both (test registry' least fields) (rows_pass test rows) pass in
    go (eqb registry registry') (eqb t t') (leb least n) refl refl x.0 (rows_give test P nothing something rows x.1 registry t n)
  where
    go : (a b c : Bool) → eqb registry registry' ≡ a → leb least n ≡ c → test registry' least fields ≡ true
        → P registry (fields_of rows registry t n) n → P registry (cond (a && (b && c)) fields (fields_of rows registry t n)) n
    go true true true same long here later =
        something registry least n fields (leb-true least n long) (ap (λ (r : ℕ). test r least fields) (eqb-true registry registry' same) ∙ here)
    go true true false same long here later = later
    go true false c same long here later = later
    go false b c same long here later = later

-- the table's reading

pub usual_flat : Flat usual
unfolding usual table
usual_flat registry t v =
    rows_give are_flat (λ r fs n. is_inner r ≡ true → all_plain fs ≡ true) (λ r n inside. refl) (λ r least n fs long pass inside. rw inside at pass) table refl registry t (length v)

-- fields inside some octets are inside more
inside_more : (registry least n : ℕ) (fs : List Field) → least ≤ n → are_inside registry least fs ≡ true → Every (λ (f : Field). need f ≤ n) fs
inside_more registry least n [] more pass = tt
inside_more registry least n (f ∷ fs) more pass =
    let x = both (leb (need f) least) (are_inside registry least fs) pass in
    (omega (arith, leb-true (need f) least x.0), inside_more registry least n fs more x.1)

pub usual_fitting : Fitting usual
unfolding usual table
usual_fitting registry t v =
    rows_give are_inside (λ r fs n. Every (λ (f : Field). need f ≤ n) fs) (λ r n. tt) inside_more table refl registry t (length v)

pub usual_sparing : Sparing usual
unfolding usual table
usual_sparing registry t v =
    rows_give have_few (λ r fs n. Spare fs n) (λ r n. record { least = 0; inside = omega arith; few = refl })
    (λ r least n fs long pass. record { least = least; inside = long; few = pass }) table refl registry t (length v)
