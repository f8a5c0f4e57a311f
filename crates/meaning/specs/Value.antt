-- What fields and values become. How an area inside a value is walked is a parameter.
use Rattle.std.specs.Prelude.{cond, List, [], ◌∷◌, ℕ, ◌+◌, ◌/◌, ◌%◌, length, get_or, drop}
use Rattle.registry.specs.Registry.{number_of}
use Rattle.registry.specs.declared.Registry.TheVariants.{Srv6Sid, Unregistered}
use Rattle.tape.specs.Forest.{Forest, none, ◌⧺◌}
use Rattle.meaning.specs.Label
use Rattle.meaning.specs.Shape.{u8, ipv6}
use Rattle.meaning.specs.Cut.{total}
use Rattle.meaning.specs.Frame.{covered, remainder}
use Rattle.meaning.specs.Field.{Field, part, flag, sid, array, tail, push}
use Rattle.meaning.specs.Tree.{one, raw, value, number_in}
use Rattle.meaning.specs.Sid.{sid_trees, sid_end}
use Rattle.meaning.specs.Array.{start_of, elements, element_trees, array_of}
use Rattle.meaning.specs.Tail.{length_at, inner_fits, inner}

-- one past the last octet that a field of the value v takes
unfoldable pub field_end : List ℕ → Field → ℕ
field_end v (part label shape at width) = at + width
field_end v (flag label mask) = 1
field_end v (sid at) = sid_end v at
field_end v (array label span element) = start_of span + total (elements span element v)
field_end v (tail at) = cond (inner_fits v at) (length_at at + 1 + covered (inner v at)) (length_at at)
field_end v (push at) = length v

-- the octets that fields take: up to the end of the last one
unfoldable pub taken : List ℕ → List Field → ℕ
taken v [] = 0
taken v (f ∷ []) = field_end v f
taken v (f ∷ g ∷ fs) = taken v (g ∷ fs)

-- how an area is shown, walked or pushed: registry, area, the place of its first octet
abbrev pub Walk : Type 0
Walk = ℕ → List ℕ → ℕ → Forest

-- a push: the walk, and one `raw` record for the remainder beside it, absent when empty
unfoldable pub push_by : Walk → Walk
push_by walk registry area base = walk registry area base ⧺ raw registry (base + covered area) (remainder area)

-- walk: how an area inside a value is walked
module _ (walk : Walk) (registry : ℕ) (v : List ℕ) (base : ℕ) where
  -- a field; v is the value, and base the place of v's first octet
  unfoldable pub field_trees : Field → Forest
  field_trees (part label shape at width) = one label shape registry (base + at) (base + at + width) (number_in shape v at width)
  field_trees (flag label mask) = one label u8 registry base (base + 1) (get_or v 0 0 / mask % 2)
  field_trees (sid at) = sid_trees Label.sid registry v base at
  field_trees (array label span element) =
      array_of label registry (element_trees element registry) (base + start_of span) (elements span element v)
  field_trees (tail at) =
      one Label.srv6_sid ipv6 registry (base + at) (base + length_at at) 0
      ⧺ cond (inner_fits v at) (walk (number_of Srv6Sid) (inner v at) (base + (length_at at + 1))) none
  field_trees (push at) = push_by walk (number_of Unregistered) (drop at v) (base + at)

  -- fields, one after the other
  unfoldable pub fields_trees : List Field → Forest
  fields_trees [] = none
  fields_trees (f ∷ fs) = field_trees f ⧺ fields_trees fs

  -- a value by its fields, and what they do not take as `raw`; without fields, one `value`
  unfoldable pub value_trees : List Field → Forest
  value_trees [] = value registry base v
  value_trees (f ∷ fs) = fields_trees (f ∷ fs) ⧺ raw registry (base + taken v (f ∷ fs)) (drop (taken v (f ∷ fs)) v)
