-- Rows of registry 0, for a value as a stretch, and the arms of a match on its type.
use Rattle.std.specs.Prelude.{◌≡◌, Bool, List, ℕ, ◌≤◌, ◌<◌, length, Option, None}
use Rattle.std.proofs.Common.{ap}
use Rattle.registry.specs.Registry.{number_of}
use Rattle.store.specs.Pen.{HasRoom}
use Rattle.store.specs.declared.pen.Pen.{Pen}
use Rattle.meaning.specs.Table.{usual, table}
use Rattle.meaning.specs.TableLaws.{least_in, fields_in, OneRow}
use Rattle.fields.specs.Stretches.{of}
use Rattle.fields.specs.declared.stretch.Stretch.{Stretch}
use Rattle.readings.specs.Reading.{Reading, given, reading_of, by_row, Reads, Asks}
use Rattle.readings.specs.ReadingLaws.{reads_as, asks_as, row_short, row_long, row_given, asks_given}
use Rattle.readings.specs.Plain.{Plain, plain_room}

-- the reading of a stretch by the fields of type k ..
abbrev pub by_fields : ℕ → Stretch → Reading
by_fields k s = reading_of (number_of s.registry) s.octets.now s.base.0 (fields_in table 0 k)

-- .. where it has as many octets as the row asks for
abbrev pub of_row : ℕ → Stretch → Reading
of_row k s = given (least_in table 0 k) s.octets.now (by_fields k s)

-- a value of type k
module _ {L : Type 0} {slim : Bool} (k : ℕ) (s : Stretch) (row : OneRow 0 k s.octets.now) where
  -- that is too short
  pub short : (p : Pen L) → length s.octets.now < least_in table 0 k → Reads slim (of (by_row 0 k) s) p p None
  short p few = row_short 0 k (number_of s.registry) s.octets.now s.base.0 row p few

  -- that is long enough
  pub long : {p q : Pen L} {t : Option ℕ} → least_in table 0 k ≤ length s.octets.now → Reads slim (by_fields k s) p q t → Reads slim (of (by_row 0 k) s) p q t
  long enough h = row_long 0 k (number_of s.registry) s.octets.now s.base.0 row enough h

  -- the room for its fields, one record each
  pub room : (p : Pen L) → least_in table 0 k ≤ length s.octets.now → Plain s.octets.now (fields_in table 0 k) → Asks slim (of (by_row 0 k) s) p → HasRoom slim p (length (fields_in table 0 k))
  room p enough plain asked = plain_room 0 k (number_of s.registry) s.octets.now s.base.0 p row enough plain asked

-- a type that is k has the fields of type k
pub same_type : {k kind : ℕ} (v : List ℕ) → kind ≡ k → usual 0 kind v ≡ usual 0 k v
same_type v is = ap (λ (n : ℕ). usual 0 n v) is

-- a value of a type that has the fields of type k
same_row : (k kind : ℕ) (s : Stretch) → usual 0 kind s.octets.now ≡ usual 0 k s.octets.now → of (by_row 0 kind) s ≡ of (by_row 0 k) s
same_row k kind s same = ap (reading_of (number_of s.registry) s.octets.now s.base.0) same

-- .. by the row of type k
module _ {L : Type 0} {slim : Bool} (k kind : ℕ) (s : Stretch) (same : usual 0 kind s.octets.now ≡ usual 0 k s.octets.now) (row : OneRow 0 k s.octets.now) where
  pub arm_asks : (p : Pen L) → Asks slim (of (by_row 0 kind) s) p → Asks slim (of_row k s) p
  arm_asks p asked = asks_given 0 k (number_of s.registry) s.octets.now s.base.0 row p (asks_as p (same_row k kind s same) asked)

  pub arm_reads : {p q : Pen L} {t : Option ℕ} → Reads slim (of_row k s) p q t → Reads slim (of (by_row 0 kind) s) p q t
  arm_reads h = reads_as (same_row k kind s same) (row_given 0 k (number_of s.registry) s.octets.now s.base.0 row h)
