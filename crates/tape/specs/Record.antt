-- A record (document 01, 'The tape'): word 0 = label + 256 x shape + 65,536 x registry, words 1, 2 first octet and one past the last, word 3 the number, words 4, 5 first child and one past the last descendant.
use Rattle.std.specs.Prelude.{Bool, ◌||◌, List, [], ◌∷◌, ℕ, zero, suc, ◌+◌, ◌*◌, ◌/◌, ◌%◌, eqb}
use Rattle.tape.specs.declared.Content.{Content}
use Rattle.tape.specs.declared.Record.{Record}

-- word 0
abbrev pub tag_of : Content → ℕ
tag_of m = m.label + 256 * m.shape + 65536 * m.registry

-- the label in word 0
abbrev pub label_of : Record → ℕ
label_of r = r.tag % 256

-- the shape in word 0
abbrev pub shape_of : Record → ℕ
shape_of r = r.tag / 256 % 256

-- the registry in word 0
abbrev pub registry_in : Record → ℕ
registry_in r = r.tag / 65536

-- the shapes of containers: 7 Array, 8 Object
abbrev pub holds : ℕ → Bool
holds shape = eqb shape 7 || eqb shape 8

-- the record of a container whose first child is at position first, and whose descendants end before position past
abbrev pub container_record : Content → ℕ → ℕ → Record
container_record m first past =
    record { tag = tag_of m; start = m.start; end = m.end; number = m.number; first = record { 0 = first }; past = record { 0 = past } }

-- the record of a leaf: an unused word of a record is 0
abbrev pub leaf_record : Content → Record
leaf_record m = container_record m 0 0

-- a record without its positions, as its words say
abbrev pub content_of : Record → Content
content_of r = record { label = label_of r; shape = shape_of r; registry = registry_in r; start = r.start; end = r.end; number = r.number }

-- a child's position, d further on; 0 says that there is none
abbrev pub later : ℕ → ℕ → ℕ
later d zero = zero
later d (suc n) = suc n + d

-- a record whose children, if it has any, stand d positions further on
abbrev pub moved : ℕ → Record → Record
moved d r =
    record {
      tag = r.tag;
      start = r.start;
      end = r.end;
      number = r.number;
      first = record { 0 = later d r.first.0 };
      past = record { 0 = later d r.past.0 };
    }

-- a record of six zeros
abbrev pub zeros : Record
zeros =
    record { tag = 0; start = record { 0 = 0 }; end = record { 0 = 0 }; number = 0; first = record { 0 = 0 }; past = record { 0 = 0 } }

-- the words of a record, in order
abbrev pub words : Record → List ℕ
words r = r.tag ∷ r.start.0 ∷ r.end.0 ∷ r.number ∷ r.first.0 ∷ r.past.0 ∷ []
