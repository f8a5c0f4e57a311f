-- Where the nest test says yes before a walk or push, it says yes after.
use Rattle.std.specs.Prelude.{◌≡◌, Bool, true, List, ℕ, ◌+◌, ◌-◌, ◌≤◌}
use Rattle.outcome.specs.Call.{After}
use Rattle.registry.specs.Registry.{number_of}
use Rattle.calls.specs.Limits.{last_registry, deepest}
use Rattle.tape.specs.Tape.{used, room, headed, with_used, store}
use Rattle.tape.specs.HeaderLaws.{headed_in_order}
use Rattle.tape.specs.Near.{Near}
use Rattle.tape.specs.Forest.{Forest, size, flat}
use Rattle.calls.specs.Nest.{nest_test}
use Rattle.calls.specs.WellNestedLaws.{yes_nested, nested_yes, nested_laid}
use Rattle.meaning.specs.Table.{usual}
use Rattle.meaning.specs.Value.{Walk}
use Rattle.meaning.specs.Area.{walked, pushed}
use Rattle.meaning.specs.AreaCall.{appended, area_call, walk_call, push_call}
use Rattle.meaning.proofs.AreaCallLaws.{laid, inside, number_low, call_cases}
use Rattle.theorems.specs.Nearby.{Nearby}
use Rattle.theorems.specs.NearbyLaws.{usual_nearby}
use Rattle.theorems.specs.Entries.{leave, show}
use Rattle.theorems.specs.PlanLaws.{usual_flat}
use Rattle.theorems.specs.Sound.{Sound}
use Rattle.theorems.specs.SoundLaws.{sound_depth, sound_formed}
use Rattle.theorems.specs.SoundWalk.{sound_walked, sound_pushed}

-- trees for which there is room, and that are sound, leave trees where there were trees
appended_nests : (slim : Bool) (t : List ℕ) (trees : Forest) → headed slim t ≡ true → size trees ≤ room slim t - used t → Sound deepest trees → Near trees → nest_test slim t ≡ true → nest_test slim (appended slim trees t) ≡ true
unfolding appended
appended_nests slim t trees good fits sound near yes' =
    let header = headed_in_order t good in
    let u : List ℕ = store slim t (used t) (flat (used t) trees) in
    nested_yes slim (with_used (used t + size trees) u)
    (nested_laid t u trees (used t + size trees) (yes_nested slim t yes') (sound_depth deepest trees sound) (sound_formed deepest trees sound) near (laid slim t trees header fits) (inside slim t trees header fits))

-- where the nest test says yes before a call that shows sound trees, it says yes of what the call leaves
call_keeps : (slim : Bool) (shows : Walk) → ((registry : ℕ) (area : List ℕ) (base : ℕ) → registry ≤ last_registry → Sound deepest (shows registry area base)) → Nearby shows
    → (t : List ℕ) → nest_test slim t ≡ true → (registry : ℕ) (area : List ℕ) (base : ℕ) → nest_test slim (area_call slim shows registry area base t).lent ≡ true
call_keeps slim shows sound nearby t yes' registry area base =
    call_cases (λ (after : After). nest_test slim after.lent ≡ true) slim shows area base t (λ answer. yes') (λ known. yes')
    (λ known near good fits. appended_nests slim t (shows (number_of known) area base) good fits (sound (number_of known) area base (number_low known)) (nearby (number_of known) area base (number_low known) near) yes')
    registry

-- the tape that any result leaves which meets the call's contract

pub walk_keeps : (slim : Bool) (registry : ℕ) (area : List ℕ) (base : ℕ) (t exit : List ℕ) → exit ≡ (walk_call slim registry area base t).lent → nest_test slim t ≡ true → nest_test slim exit ≡ true
walk_keeps slim registry area base t exit left yes' = rw left (call_keeps slim (walked usual) (sound_walked usual usual_flat) (usual_nearby leave) t yes' registry area base)

pub push_keeps : (slim : Bool) (registry : ℕ) (area : List ℕ) (base : ℕ) (t exit : List ℕ) → exit ≡ (push_call slim registry area base t).lent → nest_test slim t ≡ true → nest_test slim exit ≡ true
push_keeps slim registry area base t exit left yes' = rw left (call_keeps slim (pushed usual) (sound_pushed usual usual_flat) (usual_nearby show) t yes' registry area base)
