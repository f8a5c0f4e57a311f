-- Demand 3 holds of the calls walk and push in either layout, by one proof over all, and by any reading that is nearby.
use Rattle.std.specs.Prelude.{Bool, ◌≡◌, refl, length}
use Rattle.std.proofs.Math.Path.{sym, ap}
use Rattle.std.proofs.Common.{◌∙◌, subst, arith}
use mathlib.Core.List.{List, [], ◌∷◌, map}
use Prim.Native.Nat.{ℕ, suc, ◌+◌}
use Rattle.std.proofs.Math.ListN.{drop}
use Rattle.outcome.specs.Call.{After, Gives, Outcome}
use Rattle.tape.specs.Record.{moved}
use Rattle.tape.specs.Tape.{used, load}
use Rattle.tape.specs.HeaderLaws.{headed_in_order}
use Rattle.tape.specs.Forest.{Forest, size, flat}
use Rattle.tape.specs.ForestLaws.{flat_moved}
use Rattle.meaning.specs.Cut.{total, each}
use Rattle.meaning.specs.Frame.{covered, remainder}
use Rattle.meaning.specs.Field.{Plan}
use Rattle.meaning.specs.Table.{usual}
use Rattle.meaning.specs.Tree.{raw}
use Rattle.meaning.specs.Value.{Walk}
use Rattle.meaning.specs.Area.{entry_trees, inner_walk}
use Rattle.meaning.specs.AreaCall.{appended, area_call, walk_call, push_call}
use Rattle.meaning.proofs.AreaCallLaws.{appended_load, call_done}
use Rattle.theorems.specs.Nearby.{Nearby}
use Rattle.theorems.specs.FormLaws.{same_frame}
use Rattle.theorems.specs.Entries.{Ending, leave, show, called, beside, Holds, before, own, after, after_at, end_at, EntryByEntry}
use Rattle.theorems.proofs.EntriesLaws.{entry_by_entry}
use Rattle.theorems.specs.OneEntry.{Two, OneEntry}

-- a run that was accepted

-- what it showed stands behind the used records, counted, and it covered what the entries cover
record Accepted (slim : Bool) (shows : Walk) (registry : ℕ) (area : List ℕ) (base : ℕ) (t : List ℕ) (o : Outcome) (x : List ℕ) : Type 0 where
  pub there : Holds slim x (used t) (shows registry area base)
  pub written : o.written ≡ size (shows registry area base)
  pub covers : o.covered ≡ covered area

accepted : (slim : Bool) (shows : Walk) → Nearby shows → (registry : ℕ) (area : List ℕ) (base : ℕ) (t : List ℕ) (o : Outcome) (x : List ℕ)
    → Gives (area_call slim shows registry area base t) o x → o.answer ≡ 0 → Accepted slim shows registry area base t o x
accepted slim shows nearby registry area base t o x ran zero =
    let d = call_done slim shows area base t registry (sym (ap (λ (o : Outcome). o.answer) ran.gave) ∙ zero) in
    let trees : Forest = shows registry area base in
    let gave = ran.gave ∙ ap (λ (after : After). after.outcome) d.is in
    let left : x ≡ appended slim trees t = ran.left ∙ ap (λ (after : After). after.lent) d.is in
    record {
      there = ap (λ (zs : List ℕ). load slim zs (used t) (size trees)) left ∙ appended_load slim t trees (headed_in_order t d.good) d.fits (nearby registry area base d.known d.near);
      written = ap (λ (o : Outcome). o.written) gave;
      covers = ap (λ (o : Outcome). o.covered) gave;
    }

-- a `raw` record has no positions
raw_anywhere : (registry place : ℕ) (xs : List ℕ) (at : ℕ) → flat at (raw registry place xs) ≡ flat 0 (raw registry place xs)
unfolding flat raw
raw_anywhere registry place [] at = refl
raw_anywhere registry place (x ∷ xs) at = refl

-- what stands beside the array has none either
beside_anywhere : (e : Ending) (registry : ℕ) (area : List ℕ) (base at : ℕ) → flat at (beside e registry area base) ≡ flat 0 (beside e registry area base)
unfolding flat
beside_anywhere leave registry area base at = refl
beside_anywhere show registry area base at = raw_anywhere registry (base + covered area) (remainder area) at

-- and is the same for areas with the same frame
beside_same : (e : Ending) (registry : ℕ) (a a' : List ℕ) (base : ℕ) → covered a ≡ covered a' → remainder a ≡ remainder a' → beside e registry a base ≡ beside e registry a' base
beside_same leave registry a a' base covers leaves = refl
beside_same show registry a a' base covers leaves = λ j. raw registry (base + covers j) (leaves j)

-- trees that stand on two tapes, on the second d positions further on
holds_moved : (slim slim' : Bool) (trees : Forest) (x x' : List ℕ) (at at' d : ℕ) → at' ≡ at + d
    → Holds slim x at trees → Holds slim' x' at' trees → load slim' x' (at + d) (size trees) ≡ map (moved d) (load slim x at (size trees))
holds_moved slim slim' trees x x' at at' d further one other =
    ap (λ (n : ℕ). load slim' x' n (size trees)) (sym further) ∙ other ∙ ap (λ (n : ℕ). flat n trees) further ∙ flat_moved trees at d ∙ ap (map (moved d)) (sym one)

-- so do the entries after one entry, and after another of its size that has d records more
module _ {slim slim' : Bool} {e : Ending} (plan : Plan) (registry base : ℕ) {a a' x x' : List ℕ} (ps : List (List ℕ)) (q q' : List ℕ) (us : List (List ℕ)) {at at' n n' : ℕ} where
  later_moved : at ≡ at' → length q ≡ length q' → EntryByEntry plan registry base ps q us at slim e a x n → EntryByEntry plan registry base ps q' us at' slim' e a' x' n' → (d : ℕ)
      → size (own plan registry base ps q' us) ≡ size (own plan registry base ps q us) + d
      → load slim' x' (after_at plan registry base ps q us at + d) (size (after plan registry base ps q us))
      ≡ map (moved d) (load slim x (after_at plan registry base ps q us at) (size (after plan registry base ps q us)))
  later_moved same_at same_size one other d more =
      let after_same : after plan registry base ps q' us ≡ after plan registry base ps q us = ap (λ (k : ℕ). each (entry_trees plan (inner_walk plan) registry) (base + total ps + k) us) (sym same_size) in
      let further : after_at plan registry base ps q' us at' ≡ after_at plan registry base ps q us at + d = omega (arith, same_at, more) in
      holds_moved slim slim' (after plan registry base ps q us) x x' (after_at plan registry base ps q us at) (after_at plan registry base ps q' us at') d further
      one.later (subst (λ (f : Forest). Holds slim' x' (after_at plan registry base ps q' us at') f) after_same other.later)

-- demand 3

module _ (slim slim' : Bool) (e : Ending) (plan : Plan) (nearby : Nearby (called e plan)) (registry base : ℕ) (a a' t t' : List ℕ)
    (o o' : Outcome) (x x' : List ℕ) (ps : List (List ℕ)) (q : List ℕ) (us : List (List ℕ)) where
  pub one_entry : Two slim slim' e plan registry base a a' t t' o o' x x' ps q us → (q' : List ℕ) × OneEntry slim slim' e plan registry base a a' t t' o o' x x' ps q us q'
  unfolding remainder
  one_entry two =
      let f = same_frame a a' ps q us two.found two.differ in
      let q' : List ℕ = f.0 in
      let same = f.1 in
      let r = accepted slim (called e plan) nearby registry a base t o x two.ran two.accepted in
      let r' = accepted slim' (called e plan) nearby registry a' base t' o' x' two.ran' two.accepted' in
      let one' : EntryByEntry plan registry base ps q us (used t) slim e a x o.written =
      rw r.written (entry_by_entry slim e plan registry base a ps q us x (used t) two.found r.there) in
      let other' : EntryByEntry plan registry base ps q' us (used t') slim' e a' x' o'.written =
      rw r'.written (entry_by_entry slim' e plan registry base a' ps q' us x' (used t') same.others r'.there) in (
        q',
        record {
          frame = same;
          same_count = same.same_count;
          same_covered = r.covers ∙ same.same_covered ∙ sym r'.covers;
          same_remainder = ap (λ (n : ℕ). drop n a) r.covers ∙ same.same_remainder ∙ ap (λ (n : ℕ). drop n a') (sym r'.covers);
          one = one';
          other = other';
          same_before = one'.earlier ∙ ap (λ (n : ℕ). flat (suc n) (before plan registry base ps q us)) two.same_used ∙ sym other'.earlier;
          moved_on = later_moved plan registry base ps q q' us two.same_used same.same_size one' other';
          moved_back = later_moved plan registry base ps q' q us (sym two.same_used) (sym same.same_size) other' one';
          same_beside =
              one'.aside
              ∙ beside_anywhere e registry a base (end_at plan registry base ps q us (used t))
              ∙ ap (flat 0) (beside_same e registry a a' base same.same_covered same.same_remainder)
              ∙ sym (other'.aside ∙ beside_anywhere e registry a' base (end_at plan registry base ps q' us (used t')));
        },
      )

-- the calls by the table's reading

-- walk and push are such calls
module _ (slim : Bool) (registry : ℕ) (area : List ℕ) (base : ℕ) (t : List ℕ) where
  pub walk_is_called : walk_call slim registry area base t ≡ area_call slim (called leave usual) registry area base t
  walk_is_called = refl

  pub push_is_called : push_call slim registry area base t ≡ area_call slim (called show usual) registry area base t
  push_is_called = refl
