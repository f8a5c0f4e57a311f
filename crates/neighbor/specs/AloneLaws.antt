-- The types whose values may be one leaf, and all that are not read.
use Rattle.std.specs.Prelude.{◌≡◌, refl, List, [], ◌∷◌, ℕ, ◌+◌, ◌≤◌, length, Option, Some}
use Rattle.std.proofs.Common.{◌∙◌, add-zero, arith, le-leb}
use Rattle.std.proofs.lemmas.Option.{IfSome_then}
use Rattle.tape.specs.Forest.{none, leaf, ◌⧺◌}
use Rattle.tape.specs.declared.label.Label.TheVariants.{Value}
use Rattle.tape.specs.declared.shape.Shape.TheVariants.{Bytes}
use Rattle.meaning.specs.Label.{Label, number}
use Rattle.meaning.specs.Shape.{Shape, shape_number}
use Rattle.meaning.specs.Tree.{content, number_in}
use Rattle.meaning.specs.AreaLaws.{raw_none}
use Rattle.meaning.specs.Field.{part}
use Rattle.meaning.specs.Table.{usual, table}
use Rattle.meaning.specs.TableLaws.{NoneOf, types_of, usual_unknown, least_in, fields_in, OneRow}
use Rattle.meaning.specs.Value.{Walk, value_trees, fields_trees, field_trees, taken, field_end}
use Rattle.meaning.specs.Area.{walked}
use Rattle.neighbor.specs.Alone.{IsAlone, Told}
use Rattle.neighbor.specs.declared.alone.OneLeaf.{OneLeaf}

-- a value that is one part, and has no octet more
one_leaf : (walk : Walk) (registry : ℕ) (v : List ℕ) (base : ℕ) (label : Label) (shape : Shape) (width : ℕ) → length v ≡ width
    → value_trees walk registry v base (part label shape 0 width ∷ []) ≡ leaf (content (number label) (shape_number shape) registry base (base + width) (number_in shape v 0 width)) none
unfolding value_trees fields_trees field_trees taken field_end ◌⧺◌
one_leaf walk registry v base label shape width is = rw (raw_none registry (base + (0 + width)) v (0 + width) (omega arith), add-zero base) refl

-- a type that is read as type k, whose row is one part from octet 0 on
pub part_alone : (k kind : ℕ) (v : List ℕ) (label : Label) (shape : Shape) (width : ℕ) (r : Option OneLeaf) → usual 0 kind v ≡ usual 0 k v → OneRow 0 k v
    → fields_in table 0 k ≡ part label shape 0 width ∷ [] → least_in table 0 k ≤ width → Told width (number label) (shape_number shape) (number_in shape v 0 width) v r → IsAlone kind v r
part_alone k kind v label shape width r same row fields least told =
    IfSome_then r told
    (λ one x base.
    let read : usual 0 k v ≡ part label shape 0 width ∷ [] = row ∙ rw (le-leb (least_in table 0 k) (length v) (omega (arith, x.0))) fields in
    rw (same, read, x.1, x.2, x.3) (one_leaf (walked usual) 0 v base label shape width x.0 ∙ rw x.0 refl))

-- a type that is not read
pub unknown_alone : (kind : ℕ) (v : List ℕ) → NoneOf kind (types_of 0 table) → IsAlone kind v (Some (record { label = Value; shape = Bytes; number = 0 }))
unfolding value_trees
unknown_alone kind v unlisted base = rw (usual_unknown 0 kind v unlisted) refl
