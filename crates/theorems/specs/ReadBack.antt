-- What a walk or a push wrote, read gives back.
use Rattle.std.specs.Prelude.{◌≡◌, Bool, true}
use mathlib.Core.List.{List}
use Prim.Native.Nat.{ℕ, zero, suc, ◌+◌, ◌-◌, ◌≤◌, ◌<◌}
use Rattle.outcome.specs.Call.{done}
use Rattle.tape.specs.Tape.{InOrder, used, room, headed, record_at, load, store}
use Rattle.tape.specs.HeaderLaws.{headed_in_order, in_order_headed}
use Rattle.tape.specs.Near.{Near}
use Rattle.tape.specs.Forest.{Forest, none, leaf, node, size, flat}
use Rattle.calls.specs.Calls.{readable, read_call}
use Rattle.calls.specs.CallsLaws.{read_0}
use Rattle.calls.specs.WellNestedLaws.{in_order_laid}
use Rattle.tape.specs.declared.Record.{Record}
use Rattle.meaning.specs.AreaCall.{appended}
use Rattle.meaning.proofs.AreaCallLaws.{laid, inside, appended_used, appended_load}
use Rattle.theorems.specs.EachRecord.{EachRecord, each_record-++, each_record_at}
use Rattle.theorems.specs.Sound.{Sound}
use Rattle.theorems.specs.SoundLaws.{fine_readable}

-- a record that can be read
abbrev Readable : Record → Type 0
Readable r = readable r ≡ true

-- those of sound trees
sound_readable : (d : ℕ) (f : Forest) → Sound d f → (at : ℕ) → EachRecord Readable (flat at f)
unfolding Sound flat
sound_readable d none x at = tt
sound_readable d (leaf m f) x at = (fine_readable _ m 0 0 x.0, sound_readable d f x.1 (suc at))
sound_readable zero (node m k f) x at = absurd x
sound_readable (suc d) (node m k f) x at = (
  fine_readable _ m (suc at) (suc at + size k) x.0,
  each_record-++ Readable (flat (suc at) k) (flat (suc at + size k) f) (sound_readable d k x.1.0 (suc at)) (sound_readable (suc d) f x.1.1 (suc at + size k)),
)

module _ (slim : Bool) (t : List ℕ) (trees : Forest) (good : headed slim t ≡ true) (near : Near trees) (fits : size trees ≤ room slim t - used t) where
  header : InOrder slim t
  header = headed_in_order t good

  -- the header stays in order
  appended_headed : headed slim (appended slim trees t) ≡ true
  unfolding appended
  appended_headed =
      let u : List ℕ = store slim t (used t) (flat (used t) trees) in
      in_order_headed (appended slim trees t) (in_order_laid t u trees (used t) (used t + size trees) (laid slim t trees header fits) header (inside slim t trees header fits))

  -- a new record is read
  pub read_back : (d : ℕ) → Sound d trees → (i : ℕ) → used t ≤ i → i < used t + size trees
      → read_call slim (appended slim trees t) i ≡ record { outcome = done; «record» = record_at slim (appended slim trees t) i }
  read_back d sound i from below =
      let all : EachRecord Readable (load slim (appended slim trees t) (used t) (size trees)) = rw (appended_load slim t trees header fits near) (sound_readable d trees sound (used t)) in
      read_0 slim (appended slim trees t) i appended_headed (rw (appended_used slim t trees header fits) below) (each_record_at slim Readable (size trees) (appended slim trees t) (used t) all i from below)
