-- Trees of records (document 01, 'The tape' and 'The walk').
use Rattle.std.specs.Prelude.{cond, List, [], ◌∷◌, ℕ, ◌+◌, length}
use Rattle.octets.specs.BigEndian.{big_endian}
use Rattle.tape.specs.Forest.{Forest, none, leaf, node}
use Rattle.tape.specs.declared.Content.{Content}
use Rattle.meaning.specs.Label.{Label, number}
use Rattle.meaning.specs.Shape.{Shape, bytes, Container, shape_number, container_number, has_number}

-- a record without positions: label, shape, registry, first octet, one past the last, number
abbrev pub content : ℕ → ℕ → ℕ → ℕ → ℕ → ℕ → Content
content label shape registry start end n =
    record { label = label; shape = shape; registry = registry; start = record { 0 = start }; end = record { 0 = end }; number = n }

-- a leaf: label, shape, registry, first octet, one past the last, number
abbrev pub one : Label → Shape → ℕ → ℕ → ℕ → ℕ → Forest
one label shape registry start end n = leaf (content (number label) (shape_number shape) registry start end n) none

-- a container over trees: label, shape, registry, first octet, one past the last; its number is 0
abbrev pub over : Label → Container → ℕ → ℕ → ℕ → Forest → Forest
over label shape registry start end trees = node (content (number label) (container_number shape) registry start end 0) trees none

-- octets that are left, the first at a place: one `raw` record, absent when empty
unfoldable pub raw : ℕ → ℕ → List ℕ → Forest
raw registry at [] = none
raw registry at (x ∷ xs) = one Label.raw bytes registry at (at + length (x ∷ xs)) 0

-- a value that is not decoded, the first octet at a place: one `value` record, present even when empty
abbrev pub value : ℕ → ℕ → List ℕ → Forest
value registry at v = one Label.value bytes registry at (at + length v) 0

-- the number in the width octets of v from a place on, where the shape carries one
abbrev pub number_in : Shape → List ℕ → ℕ → ℕ → ℕ
number_in shape v at width = cond (has_number shape) (big_endian v at width) 0
