-- What a call leaves: the refusal that came first, or the records behind those that the tape has.
use Rattle.std.specs.Prelude.{Bool, ◌≡◌, refl, List, ℕ, ◌+◌, ◌*◌, ◌-◌, ◌/◌, ◌^◌, ◌≤◌, ◌<◌, length, Result, Ok, Err}
use Rattle.std.specs.Result.{IsErrAnd}
use Rattle.std.proofs.Common.{◌∙◌, arith}
use Rattle.outcome.specs.Call.{Gives}
use Rattle.outcome.specs.CallLaws.{gives_as}
use Rattle.outcome.specs.Told.{told}
use Rattle.outcome.specs.ToldLaws.{handed_on}
use Rattle.outcome.specs.declared.Done.{Done}
use Rattle.outcome.specs.declared.Refusal.{Refusal}
use Rattle.registry.specs.Registry.{number_of, known}
use Rattle.registry.specs.RegistryLaws.{known_none, known_some}
use Rattle.registry.specs.declared.Registry.{Registry}
use Rattle.tape.specs.Tape.{InOrder, used, room, with_used}
use Rattle.tape.specs.HeaderLaws.{headed_in_order}
use Rattle.tape.specs.TapeLaws.{length_store}
use Rattle.tape.specs.Forest.{Forest, size, flat}
use Rattle.tape.specs.Laid.{Laid, RoomFor}
use Rattle.theorems.specs.Bound.{needed_walked, needed_pushed}
use Rattle.theorems.specs.PlanLaws.{usual_sparing}
use Rattle.meaning.specs.Table.{usual}
use Rattle.meaning.specs.Area.{walked, pushed}
use Rattle.meaning.specs.Frame.{covered}
use Rattle.meaning.specs.Value.{Walk}
use Rattle.meaning.specs.AreaCall.{appended, shown, fitted, area_call}
use Rattle.meaning.proofs.AreaCallLaws.{call_unknown, call_known, accepted, fitted_5, fitted_0}
use Rattle.subtlv.specs.Checks.{Passes, Checked, Fits, done}

-- a tape that was laid on keeps its length
pub laid_long : {slim : Bool} {n at next : ℕ} {trees : Forest} {t u : List ℕ} → n ≤ length t → Laid slim trees t u at next → n ≤ length u
laid_long {slim} {at = at} {trees = trees} {t = t} long laid = rw laid.words (omega (arith, length_store slim (flat at trees) t at))

-- what was laid behind the used records, and is counted now
pub appended_made : {slim : Bool} {octets covers next at : ℕ} {trees : Forest} {t u w : List ℕ} {d : Done} → at ≡ used t → covers ≡ octets → Laid slim trees t u at next → d ≡ done covers (next - at) → w ≡ with_used next u
    → Gives (shown slim octets trees t) (told (Ok d)) w
unfolding appended
appended_made {next = next} {at = at} {trees = trees} behind covers laid is left =
    let x = rw behind at laid in
    let records : next - at ≡ size trees = omega (arith, laid.place) in
    record { gave = rw (is, records, covers) refl; left = left ∙ rw (x.place, x.words) refl }

-- needed is at most 1 + floor(7n / 3)
pub most_walked : (k : ℕ) (area : List ℕ) (base : ℕ) → size (walked usual k area base) ≤ 1 + 7 * length area / 3
most_walked = needed_walked usual usual_sparing

pub most_pushed : (k : ℕ) (area : List ℕ) (base : ℕ) → size (pushed usual k area base) ≤ 1 + 7 * length area / 3
most_pushed = needed_pushed usual usual_sparing

module _ (slim : Bool) (shows : Walk) (n : ℕ) (area : List ℕ) (base : ℕ) (t : List ℕ) where
  -- the number is no registry's
  pub call_of_none : (r : Result Done Refusal) (e : Refusal) → known n ≡ Err e → IsErrAnd r (λ x. x ≡ e) → Gives (area_call slim shows n area base t) (told r) t
  call_of_none r e is passed = let x = known_none n is in handed_on r e (rw x.1 (call_unknown slim shows n area base t x.0)) passed

  -- the number is that of a registry
  module _ {k : Registry} (is : known n ≡ Ok k) where
    abbrev trees : Forest
    trees = shows (number_of k) area base

    of_known : area_call slim shows n area base t ≡ area_call slim shows (number_of k) area base t
    of_known = call_known slim shows n area base t (known_some n is)

    -- a check fails
    pub call_refused : (r : Result Done Refusal) (e : Refusal) → Checked slim area base t (Err e) → IsErrAnd r (λ x. x ≡ e) → Gives (area_call slim shows n area base t) (told r) t
    call_refused r e checked passed = handed_on r e (of_known ∙ checked shows k) passed

    module _ {left : ℕ} (passes : Passes slim area base t left) where
      -- the header
      pub in_order : InOrder slim t
      in_order = headed_in_order t passes.good

      -- the room that the call has
      pub call_room : room slim t < 2 ^ 60 → size trees ≤ left → (4 ≤ length t) × RoomFor slim t (used t + size trees)
      call_room small fits = (in_order.long, record { fits = omega (arith, in_order.fits, passes.free); small = small })

      is_fitted : area_call slim shows n area base t ≡ fitted slim (covered area) trees t
      is_fitted = of_known ∙ accepted slim shows k area base t passes.short passes.near passes.good

      -- there is no room
      pub call_short : (r : Result Done Refusal) (e : Refusal) → Fits shows (number_of k) area left (Err e) → IsErrAnd r (λ x. x ≡ e) → Gives (area_call slim shows n area base t) (told r) t
      call_short r e lacks passed =
          handed_on r e (is_fitted ∙ fitted_5 slim (covered area) trees t (omega (arith, passes.free, (lacks base).1)) ∙ rw (lacks base).0) passed

      -- the records are laid behind the used ones, and counted
      pub call_made : {w : List ℕ} {d : Done} → size trees ≤ left → Gives (shown slim (covered area) trees t) (told (Ok d)) w → Gives (area_call slim shows n area base t) (told (Ok d)) w
      call_made fits made = gives_as (is_fitted ∙ fitted_0 slim (covered area) trees t (omega (arith, passes.free))) made
