-- Values that hold an area of their own: what stands before it, and the area.
use Rattle.std.specs.Prelude.{◌≡◌, ◌⊎◌, refl, Bool, true, false, cond, List, ℕ, ◌+◌, ◌≤◌, eqb, length, get_or, drop, Some}
use Rattle.std.proofs.Common.{ap, sym, ◌∙◌, inl, inr, add_assoc, arith}
use Rattle.registry.specs.Registry.{number_of}
use Rattle.registry.specs.declared.Registry.TheVariants.{Srv6Sid, Unregistered}
use Rattle.tape.specs.Forest.{Forest, leaf, none, size, ◌⧺◌}
use Rattle.tape.specs.ForestLaws.{size-⧺, ⧺-none}
use Rattle.store.specs.Pen.{HasRoom, Writes}
use Rattle.store.specs.PenLaws.{writes_as, writes_then, room_behind}
use Rattle.store.specs.declared.pen.Pen.{Pen}
use Rattle.meaning.specs.Tree.{content}
use Rattle.meaning.specs.Frame.{covered}
use Rattle.meaning.specs.Field.{Field, tail, push}
use Rattle.meaning.specs.Tail.{inner}
use Rattle.meaning.specs.Table.{usual, table, fields_of}
use Rattle.meaning.specs.TableLaws.{least_in, fields_in, OneRow}
use Rattle.meaning.specs.Value.{field_end, field_trees, fields_trees, taken}
use Rattle.meaning.proofs.ValueLaws.{tail_inner, Alone, Inner}
use Rattle.meaning.specs.Area.{walked, pushed}
use Rattle.fields.specs.Shows.{WritesUpTo, octets_at}
use Rattle.readings.specs.Reading.{Reading, took, reading_of, by_row, Reads, Asks}
use Rattle.readings.specs.ReadingLaws.{reads_as, row_fields}
use Rattle.readings.specs.Rows.{system_id, end_x_head}

-- the row of type k in a registry, as registry r shows it: a head, and then the field f
module _ (registry k r : ℕ) (v : List ℕ) (base : ℕ) (row : OneRow registry k v) (long : least_in table registry k ≤ length v) (head : Forest) (f : Field)
    (is : reading_of r v base (fields_in table registry k) ≡ took (field_end v f) (head ⧺ (field_trees (walked usual) r v base f ⧺ none))) where
  -- what the field shows
  abbrev pub trees : Forest
  trees = field_trees (walked usual) r v base f

  nested_is : by_row registry k r v base ≡ took (field_end v f) (head ⧺ trees)
  nested_is = row_fields registry k r v base row long ∙ is ∙ ap (λ (g : Forest). took (field_end v f) (head ⧺ g)) (⧺-none trees)

  nested_size : size (by_row registry k r v base).found ≡ size head + size trees
  nested_size = ap (λ (x : Reading). size x.found) nested_is ∙ size-⧺ head trees

  module _ {L : Type 0} {slim : Bool} (p : Pen L) (asked : Asks slim (by_row registry k r v base) p) where
    -- the room that both have
    pub head_room : HasRoom slim p (size head + size trees)
    head_room = record { fits = omega (arith, asked.fits, nested_size); small = asked.small }

    -- the room that the field has
    pub nested_room : {q : Pen L} → Writes slim head p q → HasRoom slim q (size trees)
    nested_room wrote = room_behind (size trees) wrote head_room (omega arith)

  -- the head, and then the field
  pub nested_made : {L : Type 0} {slim : Bool} {p q s : Pen L} {t : ℕ} → Writes slim head p q → WritesUpTo slim (field_end v f) trees q s t → Reads slim (by_row registry k r v base) p s (Some t)
  nested_made wrote upto = reads_as nested_is (record { taken = ap Some upto.covers; writes = writes_then wrote upto.writes })

-- a system id is one record at most
pub system_id_size : (id registry : ℕ) (v : List ℕ) (base : ℕ) → size (system_id id registry v base) ≤ 1
system_id_size id registry v base = go (eqb id 0)
  where
    go : (is : Bool) → size (cond is none (octets_at 20 6 0 id registry v base)) ≤ 1
    go true = omega arith
    go false = omega arith

-- what stands before the SID of an End.X SID is four records
pub end_x_head_size : (at registry : ℕ) (v : List ℕ) (base : ℕ) → size (end_x_head at registry v base) ≡ 4
unfolding ◌⧺◌
end_x_head_size at registry v base = refl

-- an SRv6 tail is a record at least
pub tail_some : (registry : ℕ) (v : List ℕ) (base at : ℕ) → 1 ≤ size (field_trees (walked usual) registry v base (tail at))
unfolding field_trees ◌⧺◌
tail_some registry v base at = omega arith

-- the SRv6 tail of a value v from a place on
module _ (registry : ℕ) (v : List ℕ) (base at : ℕ) {L : Type 0} {slim : Bool} {p q : Pen L} (sid : Writes slim (octets_at 29 5 at 16 registry v base) p q) where
  -- its SID
  sid_laid : Writes slim (leaf (content 29 5 registry (base + at) (base + (at + 16)) 0) none) p q
  sid_laid = rw (add_assoc base at 16) at sid

  -- the SID alone
  pub tail_alone : {t : ℕ} → Alone (walked usual) registry v base at → t ≡ at + 16 → WritesUpTo slim (field_end v (tail at)) (field_trees (walked usual) registry v base (tail at)) p q t
  tail_alone alone taken = record { covers = taken ∙ sym alone.takes; writes = writes_as alone.shows sid_laid }

  module _ (fits : at + 16 + 1 + get_or v (at + 16) 0 ≤ length v) where
    inner_is : Inner (walked usual) registry v base at
    inner_is = tail_inner (walked usual) registry v base at (omega arith)

    -- the room that the walk of the inner area has
    pub inner_room : HasRoom slim p (size (field_trees (walked usual) registry v base (tail at))) → HasRoom slim q (size (walked usual (number_of Srv6Sid) (inner v at) (base + (at + 16 + 1))))
    unfolding ◌⧺◌
    inner_room asked = room_behind _ sid_laid asked (omega (arith, ap size inner_is.shows))

    -- the SID, and the inner area behind it
    pub inner_made : {s : Pen L} {t : ℕ} → WritesUpTo slim (covered (inner v at)) (walked usual (number_of Srv6Sid) (inner v at) (base + (at + 16 + 1))) q s t
        → WritesUpTo slim (field_end v (tail at)) (field_trees (walked usual) registry v base (tail at)) p s (at + 16 + 1 + t)
    inner_made walk =
        record {
          covers = ap (λ (n : ℕ). at + 16 + 1 + n) walk.covers ∙ omega arith ∙ sym inner_is.takes;
          writes = writes_as inner_is.shows (writes_then sid_laid walk.writes);
        }

-- the push of a value's octets from a place on takes the whole value
module _ (registry : ℕ) (v : List ℕ) (base at : ℕ) where
  pub behind_is : field_trees (walked usual) registry v base (push at) ≡ pushed usual (number_of Unregistered) (drop at v) (base + at)
  unfolding field_trees pushed
  behind_is = refl

  pub behind_made : {L : Type 0} {slim : Bool} {p q : Pen L} → Writes slim (pushed usual (number_of Unregistered) (drop at v) (base + at)) p q
      → WritesUpTo slim (field_end v (push at)) (field_trees (walked usual) registry v base (push at)) p q (length v)
  unfolding field_end
  behind_made wrote = record { covers = refl; writes = writes_as behind_is wrote }

-- the types 43 and 44: the neighbor's system id, of that many octets, the head of an End.X SID, and its tail
pub record EndX (kind id r : ℕ) (v : List ℕ) (base : ℕ) : Type 0 where
  pub row : OneRow 0 kind v
  pub least : least_in table 0 kind ≡ id + 21
  pub is : reading_of r v base (fields_in table 0 kind)
      ≡ took (field_end v (tail (id + 5))) ((system_id id r v base ⧺ end_x_head id r v base) ⧺ (field_trees (walked usual) r v base (tail (id + 5)) ⧺ none))

pub end_x : (kind id r : ℕ) (v : List ℕ) (base : ℕ) → ((kind ≡ 43 → ⊥) × (kind ≡ 44)) ⊎ (kind ≡ 43) → id ≡ cond (eqb kind 44) 6 0 → EndX kind id r v base
unfolding usual fields_of table least_in fields_in reading_of fields_trees field_trees taken field_end ◌⧺◌
end_x kind id r v base (inl e) there = rw (there, e.1) (record { row = refl; least = refl; is = refl })
end_x kind id r v base (inr e) there = rw (there, e) (record { row = refl; least = refl; is = refl })
