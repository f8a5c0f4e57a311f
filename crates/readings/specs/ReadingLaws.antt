-- Laws of readings.
use Rattle.std.specs.Prelude.{◌≡◌, refl, Bool, true, false, cond, List, [], ℕ, ◌≤◌, ◌<◌, leb, length, Option, None}
use Rattle.std.proofs.Common.{ap, ◌∙◌, le-leb}
use Rattle.std.proofs.lemmas.Bool.{lt-leb}
use Rattle.store.specs.PenLaws.{writes_none}
use Rattle.store.specs.declared.pen.Pen.{Pen}
use Rattle.meaning.specs.Field.{Field}
use Rattle.meaning.specs.Table.{table}
use Rattle.meaning.specs.TableLaws.{NoneOf, types_of, usual_unknown, least_in, fields_in, OneRow}
use Rattle.readings.specs.Reading.{Reading, nothing, given, reading_of, by_row, Reads, Asks}

module _ {L : Type 0} {slim : Bool} where
  -- readings that are equal
  pub reads_as : {x y : Reading} {p q : Pen L} {r : Option ℕ} → x ≡ y → Reads slim y p q r → Reads slim x p q r
  reads_as e h = rw e h

  pub asks_as : {x y : Reading} (p : Pen L) → x ≡ y → Asks slim x p → Asks slim y p
  asks_as p e h = rw e at h

  -- nothing is taken, and nothing is laid
  pub reads_nothing : (p : Pen L) → Reads slim nothing p p None
  reads_nothing p = record { taken = refl; writes = writes_none }

  -- a value that is too short
  pub reads_short : (least : ℕ) (v : List ℕ) (x : Reading) (p : Pen L) → length v < least → Reads slim (given least v x) p p None
  reads_short least v x p short = rw (lt-leb least (length v) short) (reads_nothing p)

  -- a value that is long enough
  pub reads_long : (least : ℕ) (v : List ℕ) {x : Reading} {p q : Pen L} {r : Option ℕ} → least ≤ length v → Reads slim x p q r → Reads slim (given least v x) p q r
  reads_long least v long h = rw (le-leb least (length v) long) h

  pub asks_long : (least : ℕ) (v : List ℕ) (x : Reading) (p : Pen L) → least ≤ length v → Asks slim (given least v x) p → Asks slim x p
  asks_long least v x p long h = rw (le-leb least (length v) long) at h

-- fields that are there under a test
given_fields : (r : ℕ) (v : List ℕ) (base : ℕ) (b : Bool) (fs : List Field) → reading_of r v base (cond b fs []) ≡ cond b (reading_of r v base fs) nothing
unfolding reading_of
given_fields r v base true fs = refl
given_fields r v base false fs = refl

-- the row of type k in a registry, as registry r shows it
pub row_is : (registry k r : ℕ) (v : List ℕ) (base : ℕ) → OneRow registry k v → by_row registry k r v base ≡ given (least_in table registry k) v (reading_of r v base (fields_in table registry k))
row_is registry k r v base row = ap (reading_of r v base) row ∙ given_fields r v base (leb (least_in table registry k) (length v)) (fields_in table registry k)

-- the fields of a value that is long enough
pub row_fields : (registry k r : ℕ) (v : List ℕ) (base : ℕ) → OneRow registry k v → least_in table registry k ≤ length v → by_row registry k r v base ≡ reading_of r v base (fields_in table registry k)
row_fields registry k r v base row long = row_is registry k r v base row ∙ rw (le-leb (least_in table registry k) (length v) long) refl

-- a type that the table does not list
pub row_unknown : (registry kind r : ℕ) (v : List ℕ) (base : ℕ) → NoneOf kind (types_of registry table) → by_row registry kind r v base ≡ nothing
unfolding reading_of
row_unknown registry kind r v base none = ap (reading_of r v base) (usual_unknown registry kind v none)

module _ {L : Type 0} {slim : Bool} (registry k r : ℕ) (v : List ℕ) (base : ℕ) (row : OneRow registry k v) where
  -- a value of the row's type that is too short
  pub row_short : (p : Pen L) → length v < least_in table registry k → Reads slim (by_row registry k r v base) p p None
  row_short p short = reads_as (row_is registry k r v base row) (reads_short (least_in table registry k) v (reading_of r v base (fields_in table registry k)) p short)

  -- .. that is long enough
  pub row_long : {p q : Pen L} {t : Option ℕ} → least_in table registry k ≤ length v → Reads slim (reading_of r v base (fields_in table registry k)) p q t → Reads slim (by_row registry k r v base) p q t
  row_long long h = reads_as (row_fields registry k r v base row long) h

  -- .. by what its fields are under the test
  pub row_given : {p q : Pen L} {t : Option ℕ} → Reads slim (given (least_in table registry k) v (reading_of r v base (fields_in table registry k))) p q t → Reads slim (by_row registry k r v base) p q t
  row_given h = reads_as (row_is registry k r v base row) h

  pub asks_given : (p : Pen L) → Asks slim (by_row registry k r v base) p → Asks slim (given (least_in table registry k) v (reading_of r v base (fields_in table registry k))) p
  asks_given p asked = asks_as p (row_is registry k r v base row) asked

  pub asks_fields : (p : Pen L) → least_in table registry k ≤ length v → Asks slim (by_row registry k r v base) p → Asks slim (reading_of r v base (fields_in table registry k)) p
  asks_fields p long asked = asks_as p (row_fields registry k r v base row long) asked

-- a value of type k
module _ {L : Type 0} {slim : Bool} (registry k r : ℕ) {kind : ℕ} (v : List ℕ) (base : ℕ) (is : kind ≡ k) where
  pub of_type : {p q : Pen L} {t : Option ℕ} → Reads slim (by_row registry k r v base) p q t → Reads slim (by_row registry kind r v base) p q t
  of_type h = reads_as (ap (λ (n : ℕ). by_row registry n r v base) is) h

  pub asks_type : (p : Pen L) → Asks slim (by_row registry kind r v base) p → Asks slim (by_row registry k r v base) p
  asks_type p asked = asks_as p (ap (λ (n : ℕ). by_row registry n r v base) is) asked

-- a value of a type that the table does not list
pub of_unknown : {L : Type 0} {slim : Bool} (registry kind r : ℕ) (v : List ℕ) (base : ℕ) (p : Pen L) → NoneOf kind (types_of registry table) → Reads slim (by_row registry kind r v base) p p None
of_unknown registry kind r v base p none = reads_as (row_unknown registry kind r v base none) (reads_nothing p)
