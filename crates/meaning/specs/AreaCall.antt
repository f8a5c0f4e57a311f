-- The calls walk and push (document 01, 'Numbers a call gives back'), from registry, area, base and tape.
use Rattle.std.specs.Prelude.{Bool, cond, List, ℕ, ◌+◌, ◌-◌, leb, length, Option, Some, None}
use Rattle.outcome.specs.Call.{After, refusal, no_room}
use Rattle.registry.specs.Registry.{number_of, registry_of}
use Rattle.tape.specs.Tape.{used, room, headed, with_used, store}
use Rattle.tape.specs.Forest.{Forest, size, flat}
use Rattle.meaning.specs.Frame.{covered}
use Rattle.meaning.specs.Table.{usual}
use Rattle.meaning.specs.Value.{Walk}
use Rattle.meaning.specs.Area.{walked, pushed}
use Rattle.registry.specs.declared.Registry.{Registry}

-- the longest area, in octets
abbrev pub longest : ℕ
longest = 65535

-- where an area may end at most
abbrev pub furthest : ℕ
furthest = 4294967295

-- the tape with the records of trees behind those that it has
unfoldable pub appended : Bool → Forest → List ℕ → List ℕ
appended slim trees t = with_used (used t + size trees) (store slim t (used t) (flat (used t) trees))

-- done: octets covered, and as many records written as needed
abbrev pub shown : Bool → ℕ → Forest → List ℕ → After
shown slim octets trees t =
    record { outcome = record { answer = 0; covered = octets; written = size trees; needed = size trees }; lent = appended slim trees t }

-- 5: needed records exceed free room
unfoldable pub fitted : Bool → ℕ → Forest → List ℕ → After
fitted slim octets trees t = cond (leb (size trees) (room slim t - used t)) (shown slim octets trees t) (record { outcome = no_room (size trees); lent = t })

-- 1: registry not 0 to 5; 2: area over 65,535 octets; 3: base + area length over 4,294,967,295; 4: the header is not in order; then 5
unfoldable pub call_in : Bool → Walk → Option Registry → List ℕ → ℕ → List ℕ → After
call_in slim shows None area base t = refusal 1 t
call_in slim shows (Some registry) area base t =
    cond (leb (length area) longest)
    (cond (leb (base + length area) furthest)
    (cond (headed slim t) (fitted slim (covered area) (shows (number_of registry) area base) t)
    (refusal 4 t))
    (refusal 3 t))
    (refusal 2 t)

-- a call that shows an area so
abbrev pub area_call : Bool → Walk → ℕ → List ℕ → ℕ → List ℕ → After
area_call slim shows registry area base t = call_in slim shows (registry_of registry) area base t

-- the call walk
abbrev pub walk_call : Bool → ℕ → List ℕ → ℕ → List ℕ → After
walk_call slim = area_call slim (walked usual)

-- the call push
abbrev pub push_call : Bool → ℕ → List ℕ → ℕ → List ℕ → After
push_call slim = area_call slim (pushed usual)
