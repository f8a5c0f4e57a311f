-- A value of registry 0 that is one leaf over all its octets.
use Rattle.std.specs.Prelude.{◌≡◌, List, ℕ, ◌+◌, length, Option, IfSome}
use Rattle.tape.specs.Code.{label_code, shape_code}
use Rattle.tape.specs.Forest.{leaf, none}
use Rattle.meaning.specs.Tree.{content}
use Rattle.meaning.specs.Table.{usual}
use Rattle.meaning.specs.Value.{value_trees}
use Rattle.meaning.specs.Area.{walked}
use Rattle.neighbor.specs.declared.alone.OneLeaf.{OneLeaf}

-- what is told of a value of a type: where a leaf is given, the value is that leaf, with its label, its shape and its number, wherever the value stands
abbrev pub IsAlone : ℕ → List ℕ → Option OneLeaf → Type 0
IsAlone kind v r =
    IfSome r (λ one. (base : ℕ) → value_trees (walked usual) 0 v base (usual 0 kind v) ≡ leaf (content (label_code one.label) (shape_code one.shape) 0 base (base + length v) one.number) none)

-- the same of a leaf that is looked for: octets, label, shape and number
abbrev pub Told : ℕ → ℕ → ℕ → ℕ → List ℕ → Option OneLeaf → Type 0
Told width label shape number v r = IfSome r (λ one. (length v ≡ width) × (label_code one.label ≡ label) × (shape_code one.shape ≡ shape) × (one.number ≡ number))
