-- What functions that are handed a pen ask for, and what they leave. The layout is told beside it, since it is a type.
use Rattle.std.specs.Prelude.{◌≡◌, Bool, List, ℕ, ◌+◌}
use Rattle.tape.specs.Tape.{room, put_at, store}
use Rattle.tape.specs.Forest.{Forest}
use Rattle.tape.specs.Laid.{Laid, RoomFor}
use Rattle.tape.specs.declared.Record.{Record}
use Rattle.store.specs.declared.pen.Pen.{Pen}

-- the pen's tape has room for records up to position end
abbrev pub HasRoomTo : {L : Type 0} → Bool → Pen L → ℕ → Type 0
HasRoomTo slim p end = RoomFor slim p.tape.now end

-- it has room for n records more
abbrev pub HasRoom : {L : Type 0} → Bool → Pen L → ℕ → Type 0
HasRoom slim p n = RoomFor slim p.tape.now (p.next.0 + n)

-- the forest f was laid, behind what was there; the tape is the one that the pen had
pub record Writes {L : Type 0} (slim : Bool) (f : Forest) (p q : Pen L) : Type 0 where
  pub tape : q.tape.ghost_name ≡ p.tape.ghost_name
  pub laid : Laid slim f p.tape.now q.tape.now p.next.0 q.next.0

-- n places were left free; nothing was written, and the tape keeps its room
pub record Skips {L : Type 0} (slim : Bool) (n : ℕ) (p q : Pen L) : Type 0 where
  pub tape : q.tape.ghost_name ≡ p.tape.ghost_name
  pub next : q.next.0 ≡ p.next.0 + n
  pub words : q.tape.now ≡ p.tape.now
  pub same : room slim q.tape.now ≡ room slim p.tape.now

-- a record was put at a position; the next record's place is the same, and the tape keeps its room
pub record PutsOne {L : Type 0} (slim : Bool) (at : ℕ) (r : Record) (p q : Pen L) : Type 0 where
  pub tape : q.tape.ghost_name ≡ p.tape.ghost_name
  pub next : q.next.0 ≡ p.next.0
  pub words : q.tape.now ≡ put_at slim p.tape.now at r
  pub same : room slim q.tape.now ≡ room slim p.tape.now

-- records were put from position at on, in places that were left free; the next record's place is the same
pub record Puts {L : Type 0} (slim : Bool) (at : ℕ) (rs : List Record) (p q : Pen L) : Type 0 where
  pub tape : q.tape.ghost_name ≡ p.tape.ghost_name
  pub next : q.next.0 ≡ p.next.0
  pub words : q.tape.now ≡ store slim p.tape.now at rs
  pub same : room slim q.tape.now ≡ room slim p.tape.now
