-- Fields that are one record each, and the room that a row of such fields asks for.
use Rattle.std.specs.Prelude.{◌≡◌, refl, List, [], ◌∷◌, Bool, ℕ, ◌+◌, ◌≤◌, length}
use Rattle.std.proofs.Common.{ap, arith}
use Rattle.tape.specs.Forest.{size, ◌⧺◌}
use Rattle.store.specs.Pen.{HasRoom}
use Rattle.store.specs.declared.pen.Pen.{Pen}
use Rattle.meaning.specs.Label
use Rattle.meaning.specs.Field.{Field, part, flag, sid, array, tail, push}
use Rattle.meaning.specs.Table.{usual, table}
use Rattle.meaning.specs.TableLaws.{least_in, fields_in, OneRow}
use Rattle.meaning.specs.Value.{Walk, field_trees, fields_trees}
use Rattle.meaning.specs.Area.{walked}
use Rattle.fields.specs.ShowsLaws.{sid_shown}
use Rattle.readings.specs.Reading.{Reading, reading_of, by_row, Asks}
use Rattle.readings.specs.ReadingLaws.{row_fields}

-- parts, bits and SIDs, whose octets are there
abbrev pub Plain : List ℕ → List Field → Type 0
Plain v [] = Unit {0}
Plain v (part label shape at width ∷ fs) = Plain v fs
Plain v (flag label mask ∷ fs) = Plain v fs
Plain v (sid at ∷ fs) = (at + 3 ≤ length v) × Plain v fs
Plain v (array label span element ∷ fs) = ⊥
Plain v (tail at ∷ fs) = ⊥
Plain v (push at ∷ fs) = ⊥

-- each is one record
pub size_plain : (walk : Walk) (registry : ℕ) (v : List ℕ) (base : ℕ) (fs : List Field) → Plain v fs → size (fields_trees walk registry v base fs) ≡ length fs
unfolding field_trees fields_trees ◌⧺◌
size_plain walk registry v base [] p = refl
size_plain walk registry v base (part label shape at width ∷ fs) p = omega (arith, size_plain walk registry v base fs p)
size_plain walk registry v base (flag label mask ∷ fs) p = omega (arith, size_plain walk registry v base fs p)
size_plain walk registry v base (sid at ∷ fs) p =
    rw (sid_shown v at Label.sid registry base p.0) (omega (arith, size_plain walk registry v base fs p.1))
size_plain walk registry v base (array label span element ∷ fs) p = absurd p
size_plain walk registry v base (tail at ∷ fs) p = absurd p
size_plain walk registry v base (push at ∷ fs) p = absurd p

size_reading : (r : ℕ) (v : List ℕ) (base : ℕ) (fs : List Field) → Plain v fs → size (reading_of r v base fs).found ≡ length fs
unfolding reading_of
size_reading r v base [] p = refl
size_reading r v base (f ∷ fs) p = size_plain (walked usual) r v base (f ∷ fs) p

-- the row of type k in a registry, shown by registry r: room for as many records as it has fields
pub plain_room : {L : Type 0} {slim : Bool} (registry k r : ℕ) (v : List ℕ) (base : ℕ) (p : Pen L) → OneRow registry k v → least_in table registry k ≤ length v → Plain v (fields_in table registry k)
    → Asks slim (by_row registry k r v base) p → HasRoom slim p (length (fields_in table registry k))
plain_room registry k r v base p row long plain asked =
    let shown = ap (λ (x : Reading). size x.found) (row_fields registry k r v base row long) in
    record { fits = omega (arith, asked.fits, shown, size_reading r v base (fields_in table registry k) plain); small = asked.small }
