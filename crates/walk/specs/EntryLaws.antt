-- An entry, out of its parts.
use Rattle.std.specs.Prelude.{◌≡◌, refl, Bool, List, [], ◌∷◌, ℕ, ◌+◌, ◌≤◌, length, get_or, drop, Option}
use Rattle.std.proofs.Common.{ap, ◌∙◌, arith, length-drop}
use Rattle.tape.specs.Record.{leaf_record, container_record}
use Rattle.tape.specs.Forest.{Forest, none, leaf, node, size, ◌⧺◌}
use Rattle.tape.specs.ForestLaws.{size-⧺}
use Rattle.store.specs.Pen.{HasRoom, Writes, Skips, Puts}
use Rattle.store.specs.PenLaws.{writes_as, writes_then, writes_around}
use Rattle.store.specs.declared.pen.Pen.{Pen}
use Rattle.meaning.specs.Tree.{content}
use Rattle.meaning.specs.Table.{usual}
use Rattle.meaning.specs.Value.{value_trees}
use Rattle.meaning.specs.Area.{walked, entry_trees}
use Rattle.registry.specs.Registry.{number_of}
use Rattle.registry.specs.declared.Registry.{Registry}
use Rattle.fields.specs.Stretches.{of}
use Rattle.fields.specs.declared.stretch.Stretch.{Stretch}
use Rattle.readings.specs.Reading.{Reading, reading, Reads, Asks}
use Rattle.walk.specs.Entry.{entry_in, reading_as}
use Rattle.walk.specs.Rest.{rest_of}
use Rattle.walk.specs.RestLaws.{value_is}

-- the reading of an entry's value, as a stretch of its own
pub value_reading : {kind : ℕ} (x : Stretch) {k : Registry} {v : List ℕ} {base n : ℕ} → x.registry ≡ k → x.octets.now ≡ v → x.base.0 ≡ base → kind ≡ n → of (reading_as kind) x ≡ reading (number_of k) n v base
value_reading x a b c d = λ j. reading (number_of (a j)) (d j) (b j) (c j)

-- what is told of a value is told of an equal one of an equal type in an equal registry
pub leaf_told : {r k kind n : ℕ} {w v : List ℕ} (l s m base : ℕ) → r ≡ k → w ≡ v → kind ≡ n
    → value_trees (walked usual) r w base (usual r kind w) ≡ leaf (content l s r base (base + length w) m) none
    → value_trees (walked usual) k v base (usual k n v) ≡ leaf (content l s k base (base + length v) m) none
leaf_told l s m base a b c told = rw (a, b, c) at told

-- octets are a type, a length and a value
pub entry_octets : (e : List ℕ) → 2 ≤ length e → get_or e 0 0 ∷ get_or e 1 0 ∷ drop 2 e ≡ e
entry_octets [] two = absurd (omega arith)
entry_octets (x ∷ []) two = absurd (omega arith)
entry_octets (x ∷ y ∷ e) two = refl

-- an entry e in registry k, whose first octet stands at base
module _ (k : ℕ) (e : List ℕ) (base : ℕ) where
  -- its value ..
  abbrev v : List ℕ
  v = drop 2 e

  -- .. as it is read
  abbrev x : Reading
  x = reading k (get_or e 0 0) v (base + 2)

  -- .. and what it becomes
  abbrev inside : Forest
  inside = value_trees (walked usual) k v (base + 2) (usual k (get_or e 0 0) v)

  -- an object with the type, the length and the value
  entry_is : entry_in k e base ≡ node (content 47 8 k base (base + length e) 0) (leaf (content 0 0 k base (base + 1) (get_or e 0 0)) (leaf (content 1 0 k (base + 1) (base + 2) (get_or e 1 0)) inside)) none
  unfolding entry_trees ◌⧺◌
  entry_is = refl

  -- its records are three and those of its value
  pub entry_size : size (entry_in k e base) ≡ 3 + (size x.found + size (rest_of x.taken k v (base + 2)))
  entry_size = ap size entry_is ∙ omega (arith, ap size (value_is k v (base + 2) (usual k (get_or e 0 0) v)), size-⧺ x.found (rest_of x.taken k v (base + 2)))

  -- a value that is one leaf: label, shape, number
  module _ (l s n : ℕ) (is : inside ≡ leaf (content l s k (base + 2) (base + 2 + length v) n) none) (two : 2 ≤ length e) where
    pub leaf_is : entry_in k e base
        ≡ node (content 47 8 k base (base + length e) 0) (leaf (content 0 0 k base (base + 1) (get_or e 0 0)) (leaf (content 1 0 k (base + 1) (base + 2) (get_or e 1 0)) (leaf (content l s k (base + 2) (base + length e) n) none))) none
    leaf_is = let ends : base + 2 + length v ≡ base + length e = omega (arith, length-drop 2 e) in entry_is ∙ rw (is, ends) refl

  module _ {L : Type 0} {slim : Bool} {o p : Pen L} (skipped : Skips slim 3 o p) where
    -- the room that its decoder has
    pub entry_room : HasRoom slim o (size (entry_in k e base)) → Asks slim x p
    entry_room asked = record { fits = omega (arith, asked.fits, entry_size, skipped.next, skipped.same); small = omega (arith, asked.small, skipped.same) }

    module _ {q : Pen L} {taken : Option ℕ} (read : Reads slim x p q taken) where
      -- the room that what follows has
      pub rest_room : HasRoom slim o (size (entry_in k e base)) → HasRoom slim q (size (rest_of taken k v (base + 2)))
      rest_room asked =
          rw read.taken (record {
            fits = omega (arith, asked.fits, entry_size, skipped.next, skipped.same, read.writes.laid.place, read.writes.laid.same);
            small = omega (arith, asked.small, skipped.same, read.writes.laid.same);
          })

      -- .. behind the places that were left free
      pub head_places : o.next.0 + 3 ≤ q.next.0
      head_places = omega (arith, skipped.next, read.writes.laid.place)

      -- what the decoder shows, the rest, and the object, the type and the length in front of them
      pub entry_made : {r s : Pen L} → Writes slim (rest_of taken k v (base + 2)) q r
          → Puts slim o.next.0
          (container_record (content 47 8 k base (base + length e) 0) (o.next.0 + 1) r.next.0 ∷ leaf_record (content 0 0 k base (base + 1) (get_or e 0 0)) ∷ leaf_record (content 1 0 k (base + 1) (base + 2) (get_or e 1 0)) ∷ [])
          r
          s
          → Writes slim (entry_in k e base) o s
      entry_made rest put =
          let all = writes_then read.writes (rw read.taken at rest) in
          let whole = writes_as (value_is k v (base + 2) (usual k (get_or e 0 0) v)) all in
          writes_as entry_is (writes_around (content 47 8 k base (base + length e) 0) (content 0 0 k base (base + 1) (get_or e 0 0)) (content 1 0 k (base + 1) (base + 2) (get_or e 1 0)) skipped whole put)
