-- The nest test (document 01, 'The tape').
use Rattle.std.specs.Prelude.{Bool, true, false, ◌&&◌, cond, List, ℕ, zero, suc, ◌+◌, ◌-◌, leb, eqb}
use Rattle.calls.specs.Limits.{deepest}
use Rattle.tape.specs.Record.{shape_of, holds}
use Rattle.tape.specs.Tape.{used, headed, record_at}
use Rattle.tape.specs.declared.Record.{Record}

-- a leaf has words 4 and 5 zero
abbrev pub is_leaf : Record → Bool
is_leaf r = eqb r.first.0 0 && eqb r.past.0 0

-- the first child of a container at a position is the next one, and its end is not before that and lies in its parent, which ends at end
abbrev pub is_container : Record → ℕ → ℕ → Bool
is_container r at end = eqb r.first.0 (at + 1) && (leb (at + 1) r.past.0 && leb r.past.0 end)

-- the records from at up to end split into trees, at most d containers deep; n is as many records as there may be, or more
unfoldable pub trees_in : Bool → ℕ → List ℕ → ℕ → ℕ → ℕ → Bool
trees_in slim zero t d at end = leb end at
trees_in slim (suc n) t d at end =
    let r : Record = record_at slim t at in
    cond (leb end at) true
    (cond (holds (shape_of r))
    (leb 1 d && (is_container r at end && (trees_in slim n t (d - 1) (at + 1) r.past.0 && trees_in slim n t d r.past.0 end)))
    (is_leaf r && trees_in slim n t d (at + 1) end))

-- the records from at up to end split into trees, at most d containers deep
unfoldable pub trees : Bool → List ℕ → ℕ → ℕ → ℕ → Bool
trees slim t d at end = trees_in slim (end - at) t d at end

-- the used records split into trees, at most 4 containers deep; no under 4
unfoldable pub nest_test : Bool → List ℕ → Bool
nest_test slim t = headed slim t && trees slim t deepest 0 (used t)

-- yes and no as numbers, as they cross the C boundary
abbrev pub yes_no : Bool → ℕ
yes_no true = 1
yes_no false = 0
