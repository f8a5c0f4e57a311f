-- Rows of the table, as the cases of the code meet them.
use Rattle.std.specs.Prelude.{◌≡◌, refl, true, ◌⊎◌, ℕ, ◌+◌, ◌≤◌, ◌<◌, length}
use Rattle.std.proofs.Math.Path.{ap}
use Rattle.std.proofs.Common.{◌∙◌, inl, inr, add-zero, arith, le-leb}
use mathlib.Core.List.{List, [], ◌∷◌}
use Rattle.std.proofs.Math.Nat.{zero-add}
use Rattle.std.proofs.Math.Decide.{dec_le}
use Rattle.tape.specs.Forest.{Forest, node, none, size, ◌⧺◌}
use Rattle.meaning.specs.Label.{Label, number}
use Rattle.meaning.specs.Shape.{Shape, shape_number, has_number}
use Rattle.meaning.specs.Field.{Span, Element, numbers, array}
use Rattle.meaning.specs.Tree.{content}
use Rattle.meaning.specs.Cut.{pieces, total}
use Rattle.meaning.specs.CutLaws.{each_same}
use Rattle.meaning.specs.Frame.{whole}
use Rattle.meaning.specs.Table.{table, fields_of, usual}
use Rattle.meaning.specs.Array.{octets_in, start_of, elements, element_trees, array_of}
use Rattle.meaning.specs.Value.{taken, field_end, field_trees, fields_trees}
use Rattle.fields.specs.Shows.{number_trees, array_by}
use Rattle.fields.specs.ShowsLaws.{sid_shown}
use Rattle.readings.specs.Reading.{took, reading_of}
use Rattle.readings.specs.Rows.{octet_and_sid}

-- arrays that are read from a value's first octet on
module _ (label : Label) (span : Span) (first : start_of span ≡ 0) (r : ℕ) (v : List ℕ) (base : ℕ) where
  pub array_row : (element : Element) → reading_of r v base (array label span element ∷ []) ≡ took (total (elements span element v)) (array_by (number label) r (element_trees element r) base (elements span element v))
  unfolding reading_of taken field_end fields_trees field_trees array_of ◌⧺◌
  array_row element = rw (first, zero-add, add-zero)

  -- an array of numbers
  pub numbers_row : (l : Label) (s : Shape) (w : ℕ) → has_number s ≡ true
      → reading_of r v base (array label span (numbers l s w) ∷ [])
      ≡ took (total (pieces (whole w) (octets_in span v))) (array_by (number label) r (number_trees (number l) (shape_number s) w r) base (pieces (whole w) (octets_in span v)))
  unfolding element_trees
  numbers_row l s w has =
      let ps : List (List ℕ) = pieces (whole w) (octets_in span v) in
      array_row (numbers l s w)
      ∙ ap (λ (f : Forest). took (total ps) (node (content (number label) 7 r base (base + total ps) 0) f none))
      (each_same (element_trees (numbers l s w) r) (number_trees (number l) (shape_number s) w r) (λ p at. rw has) ps base)

-- flags, an octet and a SID are three records
pub octet_and_sid_size : (label registry : ℕ) (v : List ℕ) (base : ℕ) → 5 ≤ length v → size (octet_and_sid label registry v base).found ≡ 3
unfolding ◌⧺◌
octet_and_sid_size label registry v base long =
    rw (le-leb 5 (length v) long) (rw (sid_shown v 2 Label.sid registry base (omega arith)) refl)

-- the types 37 through 39 share one reading
pub bandwidth_types : (kind : ℕ) (v : List ℕ) → 37 ≤ kind → kind < 40 → usual 0 kind v ≡ usual 0 37 v
unfolding usual fields_of table
bandwidth_types kind v from below = go (dec_le kind 37) (dec_le kind 38)
  where
    is : (k : ℕ) → kind ≡ k → usual 0 k v ≡ usual 0 37 v → usual 0 kind v ≡ usual 0 37 v
    is k e same = ap (λ (n : ℕ). usual 0 n v) e ∙ same

    go : Dec (kind ≤ 37) → Dec (kind ≤ 38) → usual 0 kind v ≡ usual 0 37 v
    go (yes a) b = is 37 (omega arith) refl
    go (no a) (yes b) = is 38 (omega arith) refl
    go (no a) (no b) = is 39 (omega arith) refl

-- what is left of a neighbor's types after the types 31 to 36
pub past_36 : (n : ℕ) → 31 ≤ n → (n ≡ 31 → ⊥) → (n ≡ 32 → ⊥) → (n ≡ 33 → ⊥) → (n ≡ 34 → ⊥) → (n ≡ 35 → ⊥) → (n ≡ 36 → ⊥) → 37 ≤ n
past_36 n from not31 not32 not33 not34 not35 not36 = omega arith

-- the types 2 and 22 share one reading
pub ranges_types : (kind : ℕ) (v : List ℕ) → (kind ≡ 2) ⊎ (kind ≡ 22) → usual 2 kind v ≡ usual 2 2 v
unfolding usual fields_of table
ranges_types kind v (inl e) = ap (λ (n : ℕ). usual 2 n v) e
ranges_types kind v (inr e) = ap (λ (n : ℕ). usual 2 n v) e
