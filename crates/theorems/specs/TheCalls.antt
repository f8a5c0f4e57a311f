-- What holds of the calls walk and push, by the table's reading, on every input.
use Rattle.std.specs.Prelude.{Bool, ◌≡◌, List, ℕ, ◌+◌, ◌*◌, ◌/◌, ◌≤◌, ◌<◌, length}
use Rattle.std.proofs.Common.{ap, arith}
use Rattle.outcome.specs.Call.{After, done}
use Rattle.tape.specs.Tape.{used, record_at, load}
use Rattle.tape.specs.HeaderLaws.{headed_in_order}
use Rattle.tape.specs.Forest.{size}
use Rattle.calls.specs.Calls.{read_call}
use Rattle.registry.specs.Registry.{number_of}
use Rattle.calls.specs.Limits.{last_registry}
use Rattle.meaning.specs.Table.{usual}
use Rattle.meaning.specs.Value.{Walk}
use Rattle.meaning.specs.Area.{walk_trees, walked, pushed}
use Rattle.meaning.specs.AreaCall.{appended, area_call, walk_call, push_call}
use Rattle.meaning.proofs.AreaCallLaws.{appended_load, call_cases, call_done}
use Rattle.theorems.specs.Nearby.{Nearby}
use Rattle.theorems.specs.NearbyLaws.{usual_nearby}
use Rattle.theorems.specs.Entries.{leave, show}
use Rattle.theorems.specs.PlanLaws.{usual_flat, usual_fitting, usual_sparing}
use Rattle.theorems.specs.Sound.{Sound}
use Rattle.theorems.specs.SoundWalk.{sound_walked, sound_pushed}
use Rattle.theorems.specs.EachRecord.{EachRecord, each_record_at}
use Rattle.theorems.specs.Inside.{Within, inside_walked, inside_pushed, Inside, within_each}
use Rattle.theorems.specs.Bound.{needed_walked, needed_pushed}
use Rattle.theorems.specs.Unroll.{walked_again}
use Rattle.theorems.specs.ReadBack.{read_back}

-- needed

call_needed : (slim : Bool) (shows : Walk) (n : ℕ) (area : List ℕ) (base : ℕ) → ((registry : ℕ) → size (shows registry area base) ≤ n)
    → (registry : ℕ) (t : List ℕ) → (area_call slim shows registry area base t).outcome.needed ≤ n
call_needed slim shows n area base small registry t =
    call_cases (λ (after : After). after.outcome.needed ≤ n) slim shows area base t (λ answer. omega arith) (λ known. small (number_of known)) (λ known near good fits. small (number_of known)) registry

-- at most 1 + floor(7n / 3)
pub walk_needed : (slim : Bool) (registry : ℕ) (area : List ℕ) (base : ℕ) (t : List ℕ) → (walk_call slim registry area base t).outcome.needed ≤ 1 + 7 * length area / 3
walk_needed slim registry area base t = call_needed slim (walked usual) (1 + 7 * length area / 3) area base (λ r. needed_walked usual usual_sparing r area base) registry t

pub push_needed : (slim : Bool) (registry : ℕ) (area : List ℕ) (base : ℕ) (t : List ℕ) → (push_call slim registry area base t).outcome.needed ≤ 1 + 7 * length area / 3
push_needed slim registry area base t = call_needed slim (pushed usual) (1 + 7 * length area / 3) area base (λ r. needed_pushed usual usual_sparing r area base) registry t

-- the recursion

-- a walk decodes an entry, and an entry walks again
pub walk_again : (registry : ℕ) (area : List ℕ) (base : ℕ) → walked usual registry area base ≡ walk_trees usual (walked usual) registry area base
walk_again = walked_again usual usual_flat

-- read

-- after a call that is done, read gives back each new record
call_read : (slim : Bool) (shows : Walk) → ((registry : ℕ) (area : List ℕ) (base : ℕ) → registry ≤ last_registry → Sound 4 (shows registry area base)) → Nearby shows
    → (registry : ℕ) (area : List ℕ) (base : ℕ) (t : List ℕ) → (area_call slim shows registry area base t).outcome.answer ≡ 0
    → (i : ℕ) → used t ≤ i → i < used t + (area_call slim shows registry area base t).outcome.written
    → read_call slim (area_call slim shows registry area base t).lent i ≡ record { outcome = done; «record» = record_at slim (area_call slim shows registry area base t).lent i }
call_read slim shows sound nearby registry area base t zero i from below =
    let x = call_done slim shows area base t registry zero in
    let left = ap (λ (after : After). after.lent) x.is in
    let written = ap (λ (after : After). after.outcome.written) x.is in
    rw left (read_back slim t (shows registry area base) x.good (nearby registry area base x.known x.near) x.fits 4 (sound registry area base x.known) i from (omega (arith, written)))

pub walk_read : (slim : Bool) (registry : ℕ) (area : List ℕ) (base : ℕ) (t : List ℕ) → (walk_call slim registry area base t).outcome.answer ≡ 0
    → (i : ℕ) → used t ≤ i → i < used t + (walk_call slim registry area base t).outcome.written
    → read_call slim (walk_call slim registry area base t).lent i ≡ record { outcome = done; «record» = record_at slim (walk_call slim registry area base t).lent i }
walk_read slim = call_read slim (walked usual) (sound_walked usual usual_flat) (usual_nearby leave)

pub push_read : (slim : Bool) (registry : ℕ) (area : List ℕ) (base : ℕ) (t : List ℕ) → (push_call slim registry area base t).outcome.answer ≡ 0
    → (i : ℕ) → used t ≤ i → i < used t + (push_call slim registry area base t).outcome.written
    → read_call slim (push_call slim registry area base t).lent i ≡ record { outcome = done; «record» = record_at slim (push_call slim registry area base t).lent i }
push_read slim = call_read slim (pushed usual) (sound_pushed usual usual_flat) (usual_nearby show)

-- ranges

-- after a call that is done, each new record lies inside the area
call_inside : (slim : Bool) (shows : Walk) → ((registry : ℕ) (area : List ℕ) (base : ℕ) → Within base (base + length area) (shows registry area base)) → Nearby shows
    → (registry : ℕ) (area : List ℕ) (base : ℕ) (t : List ℕ) → (area_call slim shows registry area base t).outcome.answer ≡ 0
    → (i : ℕ) → used t ≤ i → i < used t + (area_call slim shows registry area base t).outcome.written
    → Inside base (base + length area) (record_at slim (area_call slim shows registry area base t).lent i)
call_inside slim shows within nearby registry area base t zero i from below =
    let trees = shows registry area base in
    let x = call_done slim shows area base t registry zero in
    let left = ap (λ (after : After). after.lent) x.is in
    let written = ap (λ (after : After). after.outcome.written) x.is in
    let each : EachRecord (Inside base (base + length area)) (load slim (appended slim trees t) (used t) (size trees)) =
    rw (appended_load slim t trees (headed_in_order t x.good) x.fits (nearby registry area base x.known x.near)) (within_each base (base + length area) trees (within registry area base) (used t)) in
    rw left (each_record_at slim (Inside base (base + length area)) (size trees) (appended slim trees t) (used t) each i from (omega (arith, written)))

pub walk_inside : (slim : Bool) (registry : ℕ) (area : List ℕ) (base : ℕ) (t : List ℕ) → (walk_call slim registry area base t).outcome.answer ≡ 0
    → (i : ℕ) → used t ≤ i → i < used t + (walk_call slim registry area base t).outcome.written
    → Inside base (base + length area) (record_at slim (walk_call slim registry area base t).lent i)
walk_inside slim = call_inside slim (walked usual) (inside_walked usual usual_fitting) (usual_nearby leave)

pub push_inside : (slim : Bool) (registry : ℕ) (area : List ℕ) (base : ℕ) (t : List ℕ) → (push_call slim registry area base t).outcome.answer ≡ 0
    → (i : ℕ) → used t ≤ i → i < used t + (push_call slim registry area base t).outcome.written
    → Inside base (base + length area) (record_at slim (push_call slim registry area base t).lent i)
push_inside slim = call_inside slim (pushed usual) (inside_pushed usual usual_fitting) (usual_nearby show)
