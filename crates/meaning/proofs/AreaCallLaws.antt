-- The calls walk and push, case by case, and the tape that they leave.
use Rattle.std.specs.Prelude.{◌≡◌, ◌⊎◌, Bool, cond, List, ℕ, ◌+◌, ◌-◌, ◌≤◌, ◌<◌, get_or, Option, Some, None}
use Rattle.std.proofs.Math.Path.{refl}
use Rattle.std.proofs.Common.{sym, ap, ◌∙◌, subst, arith, length-set}
use Rattle.std.proofs.Math.Bool.{true, false}
use Rattle.std.proofs.Math.Decide.{dec_le}
use borrow.Author.Tests.{le-leb, lt-leb, leb-true}
use Rattle.std.proofs.Math.Dec.{leb}
use Rattle.std.proofs.Math.ListN.{length}
use Rattle.std.proofs.Math.Seq.{get_or-set_other}
use Rattle.outcome.specs.Call.{After, refusal, no_room}
use Rattle.registry.specs.Registry.{number_of, registry_of}
use Rattle.registry.specs.RegistryLaws.{registry_of_number, registry_of_past, numbered}
use Rattle.registry.specs.declared.Registry.{Registry}
use Rattle.registry.specs.declared.Registry.TheVariants.{Neighbor, Prefix, RouterCapability, Binding, Srv6Sid, Unregistered}
use Rattle.tape.specs.Layout.{word_of}
use Rattle.tape.specs.Tape.{InOrder, used, room, headed, load, store}
use Rattle.tape.specs.TapeLaws.{length_store}
use Rattle.tape.specs.Forest.{Forest, size, flat}
use Rattle.tape.specs.Near.{Near}
use Rattle.tape.specs.Laid.{Laid}
use Rattle.tape.proofs.LaidLaws.{store_room, laid_length, laid_load, laid_other}
use Rattle.tape.specs.LoadLaws.{load_with_used, used_with_used}
use Rattle.meaning.specs.Frame.{covered}
use Rattle.meaning.specs.Value.{Walk}
use Rattle.meaning.specs.AreaCall.{longest, furthest, appended, shown, fitted, call_in, area_call}

-- appended

-- trees for which there is room
module _ (slim : Bool) (t : List ℕ) (trees : Forest) (header : InOrder slim t) (fits : size trees ≤ room slim t - used t) where
  -- they are laid behind the used records
  pub laid : Laid slim trees t (store slim t (used t) (flat (used t) trees)) (used t) (used t + size trees)
  laid = record { place = refl; words = refl; same = store_room slim t (used t) (flat (used t) trees) refl }

  -- where there is room
  pub inside : used t + size trees ≤ room slim t
  inside = omega (arith, header.fits)

  -- their records are there
  pub appended_load : Near trees → load slim (appended slim trees t) (used t) (size trees) ≡ flat (used t) trees
  unfolding appended
  appended_load near = load_with_used slim (store slim t (used t) (flat (used t) trees)) (used t + size trees) (used t) (size trees) ∙ laid_load laid near header.long inside

  -- and counted
  pub appended_used : used (appended slim trees t) ≡ used t + size trees
  unfolding appended
  appended_used = used_with_used (store slim t (used t) (flat (used t) trees)) (used t + size trees) (rw (laid_length laid) header.long)

  -- every word but word 0 and those of the new records is as before
  pub appended_other : (k : ℕ) → 1 ≤ k → (k < word_of slim (used t)) ⊎ (word_of slim (used t + size trees) ≤ k) → get_or (appended slim trees t) k 0 ≡ get_or t k 0
  unfolding appended
  appended_other k past outside =
      get_or-set_other (store slim t (used t) (flat (used t) trees)) 0 k (used t + size trees) 0 (omega arith) ∙ laid_other k laid outside

-- as many words as before
pub length_appended : (slim : Bool) (t : List ℕ) (trees : Forest) → length (appended slim trees t) ≡ length t
unfolding appended
length_appended slim t trees = length-set (store slim t (used t) (flat (used t) trees)) 0 (used t + size trees) ∙ length_store slim (flat (used t) trees) t (used t)

-- fitted, case by case

module _ (slim : Bool) (octets : ℕ) (trees : Forest) (t : List ℕ) where
  -- 5: needed records exceed free room
  pub fitted_5 : room slim t - used t < size trees → fitted slim octets trees t ≡ record { outcome = no_room (size trees); lent = t }
  unfolding fitted
  fitted_5 less = rw (lt-leb (size trees) (room slim t - used t) less)

  -- 0: done
  pub fitted_0 : size trees ≤ room slim t - used t → fitted slim octets trees t ≡ shown slim octets trees t
  unfolding fitted
  fitted_0 fits = rw (le-leb (size trees) (room slim t - used t) fits)

-- call_in, case by case

-- a registry's number is small
pub number_low : (registry : Registry) → number_of registry ≤ 5
number_low Neighbor = omega arith
number_low Prefix = omega arith
number_low RouterCapability = omega arith
number_low Binding = omega arith
number_low Srv6Sid = omega arith
number_low Unregistered = omega arith

module _ (slim : Bool) (shows : Walk) (n : ℕ) (area : List ℕ) (base : ℕ) (t : List ℕ) where
  -- 1: a number that no registry has
  pub call_unknown : registry_of n ≡ None → area_call slim shows n area base t ≡ refusal 1 t
  unfolding call_in
  call_unknown unknown = rw unknown

  -- the number of a registry
  pub call_known : {registry : Registry} → registry_of n ≡ Some registry → area_call slim shows n area base t ≡ area_call slim shows (number_of registry) area base t
  call_known {registry} known = rw (known, registry_of_number registry)

module _ (slim : Bool) (shows : Walk) (registry : Registry) (area : List ℕ) (base : ℕ) (t : List ℕ) where
  -- a registry's number
  known : area_call slim shows (number_of registry) area base t ≡ call_in slim shows (Some registry) area base t
  known = rw (registry_of_number registry)

  -- 2: area over 65,535 octets
  pub call_2 : 65535 < length area → area_call slim shows (number_of registry) area base t ≡ refusal 2 t
  unfolding call_in
  call_2 long = known ∙ rw (lt-leb (length area) longest long)

  module _ (short : length area ≤ 65535) where
    -- 3: base + area length over 4,294,967,295
    pub call_3 : 4294967295 < base + length area → area_call slim shows (number_of registry) area base t ≡ refusal 3 t
    unfolding call_in
    call_3 far = known ∙ rw (le-leb (length area) longest short, lt-leb (base + length area) furthest far)

    module _ (near : base + length area ≤ 4294967295) where
      -- 4: the header is not in order
      pub call_4 : headed slim t ≡ false → area_call slim shows (number_of registry) area base t ≡ refusal 4 t
      unfolding call_in
      call_4 bad = known ∙ rw (le-leb (length area) longest short, le-leb (base + length area) furthest near, bad)

      module _ (good : headed slim t ≡ true) where
        -- the free room decides
        pub accepted : area_call slim shows (number_of registry) area base t ≡ fitted slim (covered area) (shows (number_of registry) area base) t
        unfolding call_in
        accepted = known ∙ rw (le-leb (length area) longest short, le-leb (base + length area) furthest near, good)

-- what holds of every refusal, of the refusal under 5, and of what is shown where no refusal holds, holds of the call
module _ (P : After → Type 0) (slim : Bool) (shows : Walk) (area : List ℕ) (base : ℕ) (t : List ℕ)
    (refuses : (answer : ℕ) → P (refusal answer t))
    (lacks : (registry : Registry) → P (record { outcome = no_room (size (shows (number_of registry) area base)); lent = t }))
    (finishes : (registry : Registry) → base + length area ≤ 4294967295 → headed slim t ≡ true → size (shows (number_of registry) area base) ≤ room slim t - used t
    → P (shown slim (covered area) (shows (number_of registry) area base) t)) where
  cases_fitted : (registry : Registry) → base + length area ≤ 4294967295 → headed slim t ≡ true → P (fitted slim (covered area) (shows (number_of registry) area base) t)
  unfolding fitted
  cases_fitted registry near good = go (leb (size (shows (number_of registry) area base)) (room slim t - used t)) refl
    where
      go : (b : Bool) → leb (size (shows (number_of registry) area base)) (room slim t - used t) ≡ b
          → P (cond b (shown slim (covered area) (shows (number_of registry) area base) t) (record { outcome = no_room (size (shows (number_of registry) area base)); lent = t }))
      go true fits = finishes registry near good (leb-true _ _ fits)
      go false less = lacks registry

  cases_in : (found : Option Registry) → P (call_in slim shows found area base t)
  unfolding call_in
  cases_in None = refuses 1
  cases_in (Some registry) = go (leb (length area) longest) (leb (base + length area) furthest) refl (headed slim t) refl
    where
      go : (a b : Bool) → leb (base + length area) furthest ≡ b → (c : Bool) → headed slim t ≡ c
          → P (cond a (cond b (cond c (fitted slim (covered area) (shows (number_of registry) area base) t) (refusal 4 t)) (refusal 3 t)) (refusal 2 t))
      go false b near c is = refuses 2
      go true false near c is = refuses 3
      go true true near false is = refuses 4
      go true true near true is = cases_fitted registry (leb-true _ _ near) is

  pub call_cases : (registry : ℕ) → P (area_call slim shows registry area base t)
  call_cases registry = cases_in (registry_of registry)

-- a call that is done: which registry it was, that no refusal holds, and what it gave and left
pub record Done (slim : Bool) (shows : Walk) (registry : ℕ) (area : List ℕ) (base : ℕ) (t : List ℕ) : Type 0 where
  pub known : registry ≤ 5
  pub short : length area ≤ 65535
  pub near : base + length area ≤ 4294967295
  pub good : headed slim t ≡ true
  pub fits : size (shows registry area base) ≤ room slim t - used t
  pub is : area_call slim shows registry area base t ≡ shown slim (covered area) (shows registry area base) t

-- 0 only then
module _ (slim : Bool) (shows : Walk) (area : List ℕ) (base : ℕ) (t : List ℕ) where
  done_known : (registry : Registry) → (area_call slim shows (number_of registry) area base t).outcome.answer ≡ 0 → Done slim shows (number_of registry) area base t
  done_known registry zero' = go (dec_le (length area) 65535) (dec_le (base + length area) 4294967295) (headed slim t) refl (dec_le (size (shows (number_of registry) area base)) (room slim t - used t))
    where
      answer : {after : After} → area_call slim shows (number_of registry) area base t ≡ after → 0 ≡ after.outcome.answer
      answer e = sym zero' ∙ ap (λ (a : After). a.outcome.answer) e

      go : Dec (length area ≤ 65535) → Dec (base + length area ≤ 4294967295) → (b : Bool) → headed slim t ≡ b
          → Dec (size (shows (number_of registry) area base) ≤ room slim t - used t) → Done slim shows (number_of registry) area base t
      go (no long) near b is fits = absurd (omega (arith, answer (call_2 slim shows registry area base t (omega arith))))
      go (yes short) (no far) b is fits = absurd (omega (arith, answer (call_3 slim shows registry area base t short (omega arith))))
      go (yes short) (yes near) false is fits = absurd (omega (arith, answer (call_4 slim shows registry area base t short near is)))
      go (yes short) (yes near) true is (no less) =
          absurd (omega (arith, answer (accepted slim shows registry area base t short near is ∙ fitted_5 slim (covered area) (shows (number_of registry) area base) t (omega arith))))
      go (yes short) (yes near) true is (yes fits) =
          record {
            known = number_low registry;
            short = short;
            near = near;
            good = is;
            fits = fits;
            is = accepted slim shows registry area base t short near is ∙ fitted_0 slim (covered area) (shows (number_of registry) area base) t fits;
          }

  pub call_done : (registry : ℕ) → (area_call slim shows registry area base t).outcome.answer ≡ 0 → Done slim shows registry area base t
  call_done registry zero' = go (dec_le 6 registry)
    where
      go : Dec (6 ≤ registry) → Done slim shows registry area base t
      go (yes past) = absurd (omega (arith, sym zero' ∙ ap (λ (a : After). a.outcome.answer) (call_unknown slim shows registry area base t (registry_of_past registry past))))
      go (no below) =
          let n = numbered registry (omega arith) in
          subst (λ (r : ℕ). Done slim shows r area base t) n.1 (done_known n.0 (ap (λ (r : ℕ). (area_call slim shows r area base t).outcome.answer) n.1 ∙ zero'))
