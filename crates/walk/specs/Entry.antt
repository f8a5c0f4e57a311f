-- What entries become, and what the functions around them promise.
use Rattle.std.specs.Prelude.{◌≡◌, Bool, List, ℕ, ◌+◌, length, get_or, drop, Option, IfSome}
use Rattle.tape.specs.Code.{label_code, shape_code}
use Rattle.tape.specs.Forest.{Forest, leaf, node, none}
use Rattle.store.specs.Pen.{Skips, Writes}
use Rattle.store.specs.declared.pen.Pen.{Pen}
use Rattle.meaning.specs.Tree.{content}
use Rattle.meaning.specs.Field.{tail}
use Rattle.meaning.specs.Table.{usual}
use Rattle.meaning.specs.Value.{field_trees, value_trees}
use Rattle.meaning.specs.Area.{walked, entry_trees}
use Rattle.registry.specs.Registry.{number_of}
use Rattle.registry.specs.declared.Registry.{Registry}
use Rattle.fields.specs.Stretches.{of}
use Rattle.fields.specs.declared.stretch.Stretch.{Stretch}
use Rattle.readings.specs.Reading.{Reading, reading, Reads}
use Rattle.neighbor.specs.declared.alone.OneLeaf.{OneLeaf}

-- an entry in registry k, whose first octet stands at base
abbrev pub entry_in : ℕ → List ℕ → ℕ → Forest
entry_in k = entry_trees usual (walked usual) k

-- the same, wherever the registry is taken from
abbrev pub entry_of : Registry → ℕ → List ℕ → ℕ → Forest
entry_of registry k = entry_in (number_of registry)

-- a value of a type, as its registry reads it
abbrev pub reading_as : ℕ → ℕ → List ℕ → ℕ → Reading
reading_as kind registry v base = reading registry kind v base

-- the value of an entry, as its registry reads it by its type
abbrev pub value_in : ℕ → List ℕ → ℕ → Reading
value_in registry e base = reading registry (get_or e 0 0) (drop 2 e) (base + 2)

-- an SRv6 tail, from a place on
abbrev pub tail_at : ℕ → ℕ → List ℕ → ℕ → Forest
tail_at at registry v base = field_trees (walked usual) registry v base (tail at)

-- a value of a type is one leaf, where it is said to be one
abbrev pub IsOneLeaf : ℕ → ℕ → List ℕ → Option OneLeaf → Type 0
IsOneLeaf registry kind v r =
    IfSome r (λ one. (base : ℕ) → value_trees (walked usual) registry v base (usual registry kind v) ≡ leaf (content (label_code one.label) (shape_code one.shape) registry base (base + length v) one.number) none)

-- an entry whose value is one leaf
abbrev pub leaf_entry : OneLeaf → ℕ → List ℕ → ℕ → Forest
leaf_entry one registry e base =
    node (content 47 8 registry base (base + length e) 0)
    (leaf (content 0 0 registry base (base + 1) (get_or e 0 0))
    (leaf (content 1 0 registry (base + 1) (base + 2) (get_or e 1 0))
    (leaf (content (label_code one.label) (shape_code one.shape) registry (base + 2) (base + length e) one.number) none)))
    none

-- a function lays what the entry e has around the records of its decoder: where three places were left free from position at on, and the value's records stand behind them, the entry is then laid
abbrev pub Completes : {L : Type 0} → Bool → Option ℕ → ℕ → Stretch → Pen L → Pen L → Type 0
Completes {L} slim taken at e q r =
    (o p : Pen L) → o.next.0 ≡ at → Skips slim 3 o p
    → Reads slim (of value_in e) p q taken → Writes slim (of entry_in e) o r
