-- Laws of the call `name`.
use Rattle.std.specs.Prelude.{◌≡◌, refl, ℕ, ◌≤◌, ◌<◌, List, [], length, Option, Some, None, Result, Ok, Err}
use Rattle.std.proofs.Math.Decide.{dec_le}
use Rattle.std.proofs.Common.{arith, le-leb}
use Rattle.std.proofs.lemmas.Bool.{lt-leb}
use Rattle.outcome.specs.Call.{Outcome, Gives, refused, refusal}
use Rattle.std.specs.Result.{IsErrAnd}
use Rattle.outcome.specs.Told.{told}
use Rattle.outcome.specs.ToldLaws.{handed_on}
use Rattle.outcome.specs.declared.Done.{Done}
use Rattle.outcome.specs.declared.Refusal.{Refusal}
use Rattle.octets.specs.Copy.{in_front}
use Rattle.registry.specs.Registry.{known}
use Rattle.registry.specs.RegistryLaws.{known_none, known_some}
use Rattle.registry.specs.Names.{name_of}
use Rattle.registry.specs.NameCall.{name_written, named, name_in, name_call}
use Rattle.registry.specs.declared.Registry.{Registry}

-- named

-- a name that is longer than what was lent
named_longer : (name lent : List ℕ) → length lent < length name → named name lent ≡ refusal 9 lent
unfolding named
named_longer name lent longer = rw (lt-leb (length name) (length lent) longer)

-- a name that fits
named_fits : (name lent : List ℕ) → length name ≤ length lent → named name lent ≡ name_written name lent
unfolding named
named_fits name lent fits = rw (le-leb (length name) (length lent) fits)

-- a type without a name gives length 0 and changes nothing
pub named_none : (lent : List ℕ) → named [] lent ≡ record { outcome = record { answer = 0; covered = 0; written = 0; needed = 0 }; lent = lent }
unfolding in_front
named_none lent = named_fits [] lent (omega arith)

-- what is written lies in what was lent
named_inside : (name lent : List ℕ) → Dec (length name ≤ length lent) → (named name lent).outcome.written ≤ length lent
named_inside name lent (yes fits) = rw (named_fits name lent fits) fits
named_inside name lent (no longer) = rw (named_longer name lent (omega arith)) (omega arith)

-- the returns of a registry's `name`, which found the name

pub found_longer : {name found : List ℕ} (lent : List ℕ) → found ≡ name → length lent < length found → Gives (named name lent) (refused 9) lent
found_longer {name} lent is longer = rw (named_longer name lent (rw is at longer)) (record { gave = refl; left = refl })

pub found_fits : {name found : List ℕ} (lent : List ℕ) {exit : List ℕ} → found ≡ name → length found ≤ length lent → exit ≡ in_front found lent
    → Gives (named name lent) (name_written found lent).outcome exit
found_fits {name} lent is fits front = rw (named_fits name lent (rw is at fits)) (record { gave = rw is; left = rw is at front })

-- name_in

-- a number that no registry has
pub unknown_refused : (n t : ℕ) (lent : List ℕ) (r : Result Done Refusal) (e : Refusal) → known n ≡ Err e → IsErrAnd r (λ x. x ≡ e) → Gives (name_call n t lent) (told r) lent
unfolding name_in
unknown_refused n t lent r e is passed = let x = known_none n is in handed_on r e (rw (x.0, x.1) refl) passed

-- a registry's number
pub known_named : (n t : ℕ) (lent : List ℕ) {registry : Registry} {exit : List ℕ} {o : Outcome} → known n ≡ Ok registry → Gives (named (name_of registry t) lent) o exit → Gives (name_call n t lent) o exit
unfolding name_in
known_named n t lent is gives = rw (known_some n is) gives

-- what is written lies in what was lent
pub written_inside : (found : Option Registry) (t : ℕ) (lent : List ℕ) → (name_in found t lent).outcome.written ≤ length lent
unfolding name_in
written_inside None t lent = omega arith
written_inside (Some registry) t lent = named_inside (name_of registry t) lent (dec_le (length (name_of registry t)) (length lent))
