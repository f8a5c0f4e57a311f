-- The records of an area, entry by entry, as they stand on a tape.
use Rattle.std.specs.Prelude.{Bool, ◌≡◌, List, ℕ, suc, ◌+◌, length}
use Rattle.tape.specs.Record.{container_record}
use Rattle.tape.specs.Tape.{record_at, load}
use Rattle.tape.specs.Forest.{Forest, none, size, flat}
use Rattle.meaning.specs.Label
use Rattle.meaning.specs.Label.{number}
use Rattle.meaning.specs.Shape.{array, container_number}
use Rattle.meaning.specs.Cut.{total, each}
use Rattle.meaning.specs.Frame.{covered, remainder}
use Rattle.meaning.specs.Field.{Plan}
use Rattle.meaning.specs.Tree.{content, raw}
use Rattle.meaning.specs.Value.{Walk}
use Rattle.meaning.specs.Area.{entry_trees, inner_walk, walked, pushed}

-- what becomes of the remainder: a walk leaves it, a push shows it
pub data Ending : Type 0 where
  leave show : Ending

-- what the call shows of an area, by a reading of its values: the walk, or the push
abbrev pub called : Ending → Plan → Walk
called leave plan = walked plan
called show plan = pushed plan

-- what the call shows beside the array
abbrev pub beside : Ending → ℕ → List ℕ → ℕ → Forest
beside leave registry area base = none
beside show registry area base = raw registry (base + covered area) (remainder area)

-- the records of trees stand on a tape, the first at a position
abbrev pub Holds : Bool → List ℕ → ℕ → Forest → Type 0
Holds slim tape at trees = load slim tape at (size trees) ≡ flat at trees

-- an area of a registry at base, whose complete entries are ps, then q, then us
module _ (plan : Plan) (registry base : ℕ) (ps : List (List ℕ)) (q : List ℕ) (us : List (List ℕ)) where
  -- what an entry becomes, by the definition of demand 2
  abbrev entry_of : List ℕ → ℕ → Forest
  entry_of = entry_trees plan (inner_walk plan) registry

  -- the trees of the entries before q
  abbrev pub before : Forest
  before = each entry_of base ps

  -- of q itself
  abbrev pub own : Forest
  own = entry_of q (base + total ps)

  -- and of the entries after q
  abbrev pub after : Forest
  after = each entry_of (base + total ps + length q) us

  -- shown from a position on
  module _ (at : ℕ) where
    -- q's own records begin behind the array's and those of the entries before
    abbrev pub own_at : ℕ
    own_at = suc at + size before

    -- those of the entries after it behind them
    abbrev pub after_at : ℕ
    after_at = own_at + size own

    -- and then ends the array
    abbrev pub end_at : ℕ
    end_at = after_at + size after

    -- on a tape stand, from position `at` on, the array's record, the records of each entry, and those beside the array, and no others are new
    pub record EntryByEntry (slim : Bool) (e : Ending) (area tape : List ℕ) (written : ℕ) : Type 0 where
      pub top : record_at slim tape at ≡ container_record (content (number Label.sub_tlvs) (container_number array) registry base (base + covered area) 0) (suc at) end_at
      pub earlier : Holds slim tape (suc at) before
      pub itself : Holds slim tape own_at own
      pub later : Holds slim tape after_at after
      pub aside : Holds slim tape end_at (beside e registry area base)
      pub all : at + written ≡ end_at + size (beside e registry area base)
