-- How many records a value becomes, by the numbers of its row.
use Rattle.std.specs.Prelude.{◌≡◌, cond, List, [], ◌∷◌, ℕ, ◌+◌, ◌*◌, ◌≤◌, leb, length}
use Rattle.meaning.specs.Field.{Field, part, flag, sid, array, tail, push}
use Rattle.tape.specs.Forest.{Forest, size}
use Rattle.meaning.specs.Cut.{Measure, pieces, total, each}
use Rattle.meaning.specs.Frame.{covered}
use Rattle.meaning.specs.Table.{usual}
use Rattle.meaning.specs.Value.{Walk, field_end, field_trees, value_trees}
use Rattle.meaning.specs.Area.{inner_walk}
use Rattle.count.specs.declared.Counted.{Counted}

-- 1 where n octets are more than are taken, and otherwise 0
abbrev pub rest : ℕ → ℕ → ℕ
rest takes n = cond (leb n takes) 0 1

-- least length, records, octets taken: the records of a value of n octets
abbrev pub row_records : ℕ → ℕ → ℕ → ℕ → ℕ
row_records least shows takes n = cond (leb least n) (shows + rest takes n) 1

-- the most octets that a plain field takes
abbrev pub most : Field → ℕ
most (part label shape at width) = at + width
most (flag label mask) = 1
most (sid at) = at + 4
most (array label span element) = 0
most (tail at) = 0
most (push at) = 0

-- the most that plain fields take: the last one's
abbrev pub takes : List Field → ℕ
takes [] = 0
takes (f ∷ []) = most f
takes (f ∷ g ∷ fs) = takes (g ∷ fs)

-- a value of n octets with plain fields: a record for each, and one for what is left; without fields, one
abbrev pub plain_records : ℕ → List Field → ℕ
plain_records n [] = 1
plain_records n (f ∷ fs) = length (f ∷ fs) + rest (takes (f ∷ fs)) n

-- the last field of a value, and what is left behind it
abbrev pub last_records : ℕ → List ℕ → ℕ → Field → ℕ
last_records registry v base f = size (field_trees (inner_walk usual) registry v base f) + rest (field_end v f) (length v)

-- a value of at least so many octets: head records, and then a last field; one record where it is shorter
abbrev pub head_records : ℕ → ℕ → ℕ → List ℕ → ℕ → Field → ℕ
head_records least head registry v base f = cond (leb least (length v)) (head + last_records registry v base f) 1

-- a value with such a last field becomes r records, which are so few that no sum wraps
pub record Heads (least head : ℕ) (v : List ℕ) (f : Field) (r : ℕ) : Type 0 where
  pub few : r ≤ 5 + 4 * length v
  pub records : (registry base : ℕ) → r ≡ head_records least head registry v base f

-- a value becomes r records, where areas inside it are walked by `walk`
pub record CountsBy (walk : Walk) (registry kind : ℕ) (v : List ℕ) (r : ℕ) : Type 0 where
  pub few : r ≤ 5 + 4 * length v
  pub records : (base : ℕ) → r ≡ size (value_trees walk registry v base (usual registry kind v))

-- by the walk of the nested level
abbrev pub Counts : ℕ → ℕ → List ℕ → ℕ → Type 0
Counts = CountsBy (inner_walk usual)

-- octets are counted by the pieces that m cuts out of them: the octets of the pieces, and the records that these become
pub record Cuts (m : Measure) (f : List ℕ → ℕ → Forest) (s : List ℕ) (r : Counted) : Type 0 where
  pub few : r.records ≤ 4 * length s
  pub covers : r.covered ≡ total (pieces m s)
  pub records : (base : ℕ) → r.records ≡ size (each f base (pieces m s))

-- an area is counted: the octets of its complete entries, and the records of its walk
pub record Walks (walk : Walk) (registry : ℕ) (area : List ℕ) (r : Counted) : Type 0 where
  pub few : r.records ≤ 1 + 4 * length area
  pub covers : r.covered ≡ covered area
  pub records : (base : ℕ) → r.records ≡ size (walk registry area base)
