-- Demand 3, of what the calls walk and push give back and leave: one entry cannot speak for another.
use Rattle.std.specs.Prelude.{Bool, ◌≡◌, List, ◌∷◌, ◌++◌, map, ℕ, suc, ◌+◌, ◌-◌, length, drop}
use Rattle.outcome.specs.Call.{Gives, Outcome}
use Rattle.tape.specs.Record.{moved}
use Rattle.tape.specs.Tape.{used, load}
use Rattle.tape.specs.Forest.{size}
use Rattle.meaning.specs.Cut.{total}
use Rattle.meaning.specs.Frame.{entries}
use Rattle.meaning.specs.Field.{Plan}
use Rattle.meaning.specs.AreaCall.{area_call}
use Rattle.theorems.specs.Form.{Differ, SameFrame}
use Rattle.theorems.specs.Entries.{Ending, called, beside, before, own, after, after_at, end_at, EntryByEntry}

-- two runs of the same call, each in a layout of its own, with the same registry and base: given the areas a and a' and the tapes t and t', they gave o and o' and left x and x'
module _ (slim slim' : Bool) (e : Ending) (plan : Plan) (registry base : ℕ) (a a' t t' : List ℕ) (o o' : Outcome) (x x' : List ℕ) (ps : List (List ℕ)) (q : List ℕ) (us : List (List ℕ)) where
  -- what demand 3 asks of them
  pub record Two : Type 0 where
    -- the results and tapes meet the call's contract
    pub ran : Gives (area_call slim (called e plan) registry a base t) o x
    pub ran' : Gives (area_call slim' (called e plan) registry a' base t') o' x'
    -- the areas have the same length and differ only inside the value octets of q, a complete entry of a behind the entries ps
    pub found : entries a ≡ ps ++ q ∷ us
    pub differ : Differ a a' (total ps + 2) (length q - 2)
    -- both were accepted, onto tapes that held the same number of records; nothing else is asked of the tapes
    pub accepted : o.answer ≡ 0
    pub accepted' : o'.answer ≡ 0
    pub same_used : used t ≡ used t'

  -- what demand 3 says of them; q' is the entry of a' in q's place
  pub record OneEntry (q' : List ℕ) : Type 0 where
    pub frame : SameFrame a a' ps q q' us
    -- entry count, covered octets and remainder agree
    pub same_count : length (entries a) ≡ length (entries a')
    pub same_covered : o.covered ≡ o'.covered
    pub same_remainder : drop o.covered a ≡ drop o'.covered a'
    -- on both tapes every entry's records are demand 2's
    pub one : EntryByEntry plan registry base ps q us (used t) slim e a x o.written
    pub other : EntryByEntry plan registry base ps q' us (used t') slim' e a' x' o'.written
    -- the records of the entries before are the same in both
    pub same_before : load slim x (suc (used t)) (size (before plan registry base ps q us)) ≡ load slim' x' (suc (used t')) (size (before plan registry base ps q us))
    -- those of the entries after moved, their containers' child positions too, by the difference d in the entry's record count
    pub moved_on : (d : ℕ) → size (own plan registry base ps q' us) ≡ size (own plan registry base ps q us) + d
        → load slim' x' (after_at plan registry base ps q us (used t) + d) (size (after plan registry base ps q us))
        ≡ map (moved d) (load slim x (after_at plan registry base ps q us (used t)) (size (after plan registry base ps q us)))
    pub moved_back : (d : ℕ) → size (own plan registry base ps q us) ≡ size (own plan registry base ps q' us) + d
        → load slim x (after_at plan registry base ps q' us (used t') + d) (size (after plan registry base ps q' us))
        ≡ map (moved d) (load slim' x' (after_at plan registry base ps q' us (used t')) (size (after plan registry base ps q' us)))
    -- the remainder's record, where the call shows it, is the same in both
    pub same_beside : load slim x (end_at plan registry base ps q us (used t)) (size (beside e registry a base)) ≡ load slim' x' (end_at plan registry base ps q' us (used t')) (size (beside e registry a' base))
