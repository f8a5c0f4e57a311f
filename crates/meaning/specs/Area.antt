-- What entries, a walk and a push of an area become, by a reading of its values.
use Rattle.std.specs.Prelude.{List, [], ◌∷◌, ℕ, ◌+◌, length, get_or, drop}
use Rattle.tape.specs.Forest.{Forest, none, ◌⧺◌}
use Rattle.meaning.specs.Label
use Rattle.meaning.specs.Shape.{u8, object}
use Rattle.meaning.specs.Frame.{entries}
use Rattle.meaning.specs.Field.{Plan}
use Rattle.meaning.specs.Tree.{one, over}
use Rattle.meaning.specs.Array.{array_of}
use Rattle.meaning.specs.Value.{Walk, push_by, value_trees}

-- plan: how a value is read. walk: how an area inside a value is walked
module _ (plan : Plan) (walk : Walk) (registry : ℕ) where
  -- a complete entry e (type, length, value), whose first octet is at a place
  unfoldable pub entry_trees : List ℕ → ℕ → Forest
  entry_trees e at =
      over Label.sub_tlv object registry at (at + length e)
      (one Label.type u8 registry at (at + 1) (get_or e 0 0)
      ⧺ one Label.length u8 registry (at + 1) (at + 2) (get_or e 1 0)
      ⧺ value_trees walk registry (drop 2 e) (at + 2) (plan registry (get_or e 0 0) (drop 2 e)))

  -- an area whose first octet is at base: no record where it is empty
  unfoldable pub walk_trees : List ℕ → ℕ → Forest
  walk_trees [] base = none
  walk_trees (x ∷ xs) base = array_of Label.sub_tlvs registry entry_trees base (entries (x ∷ xs))

-- inside an area of the nested level (registries 4 and 5) nothing is walked again: its values have no area inside, by the table's reading
abbrev pub no_walk : Walk
no_walk registry area base = none

-- how an area inside a value is walked
unfoldable pub inner_walk : Plan → Walk
inner_walk plan = walk_trees plan no_walk

-- the walk (`walk_sub_tlvs`)
unfoldable pub walked : Plan → Walk
walked plan = walk_trees plan (inner_walk plan)

-- the push (`push_sub_tlvs`)
unfoldable pub pushed : Plan → Walk
pushed plan = push_by (walked plan)
