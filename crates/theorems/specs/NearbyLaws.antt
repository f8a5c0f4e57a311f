-- A reading that is flat and fitting is nearby; so is the table's.
use Rattle.std.specs.Prelude.{ℕ, zero, suc, ◌+◌, ◌<◌, length}
use Rattle.std.proofs.Common.{arith}
use Rattle.tape.specs.Near.{Near}
use Rattle.tape.specs.Forest.{Forest, none, leaf, node}
use Rattle.meaning.specs.Field.{Plan}
use Rattle.meaning.specs.Table.{usual}
use Rattle.meaning.specs.Area.{walked, pushed}
use Rattle.theorems.specs.Nearby.{Nearby}
use Rattle.theorems.specs.Plan.{Flat, Fitting}
use Rattle.theorems.specs.PlanLaws.{usual_flat, usual_fitting}
use Rattle.theorems.specs.Entries.{Ending, leave, show, called}
use Rattle.theorems.specs.Sound.{Sound}
use Rattle.theorems.specs.SoundWalk.{sound_walked, sound_pushed}
use Rattle.theorems.specs.Inside.{Within, inside_walked, inside_pushed}

-- sound trees inside octets below 4,294,967,296
near_sound : (d lo hi : ℕ) (f : Forest) → Sound d f → Within lo hi f → hi < 4294967296 → Near f
unfolding Sound Within Near
near_sound d lo hi none s w low = tt
near_sound d lo hi (leaf m f) s w low =
    (record { start = omega (arith, s.0.order, w.1.0); end = omega (arith, w.1.0) }, near_sound d lo hi f s.1 w.1.1 low)
near_sound zero lo hi (node m k f) s w low = absurd s
near_sound (suc d) lo hi (node m k f) s w low = (
  record { start = omega (arith, s.0.order, w.1.0); end = omega (arith, w.1.0) },
  (near_sound d m.start.0 m.end.0 k s.1.0 w.1.1.0 (omega (arith, w.1.0)), near_sound (suc d) lo hi f s.1.1 w.1.1.1 low),
)

module _ (plan : Plan) (flat : Flat plan) (fitting : Fitting plan) where
  walked_nearby : Nearby (walked plan)
  walked_nearby registry area base low near =
      near_sound 4 base (base + length area) (walked plan registry area base) (sound_walked plan flat registry area base low) (inside_walked plan fitting registry area base) (omega arith)

  pushed_nearby : Nearby (pushed plan)
  pushed_nearby registry area base low near =
      near_sound 4 base (base + length area) (pushed plan registry area base) (sound_pushed plan flat registry area base low) (inside_pushed plan fitting registry area base) (omega arith)

  -- by such a reading both calls are
  pub called_nearby : (e : Ending) → Nearby (called e plan)
  called_nearby leave = walked_nearby
  called_nearby show = pushed_nearby

-- by the table's reading
pub usual_nearby : (e : Ending) → Nearby (called e usual)
usual_nearby = called_nearby usual usual_flat usual_fitting
