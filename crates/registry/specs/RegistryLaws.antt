-- The registries and their numbers: each number 0 to 5 is one registry's, and no other number is.
use Rattle.std.specs.Prelude.{◌≡◌, refl, ℕ, zero, suc, ◌≤◌, ◌<◌, Option, Some, None, Ok, Err}
use Rattle.std.proofs.Common.{arith, ne_eqb}
use Rattle.std.specs.Option.{ok_or}
use Rattle.outcome.specs.declared.Refusal.{Refusal}
use Rattle.outcome.specs.declared.Refusal.TheVariants.{NoSuchRegistry}
use Rattle.registry.specs.Registry.{number_of, registry_of, known}
use Rattle.registry.specs.declared.Registry.{Registry}
use Rattle.registry.specs.declared.Registry.TheVariants.{Neighbor, Prefix, RouterCapability, Binding, Srv6Sid, Unregistered}

-- a registry is the one of its number
pub registry_of_number : (registry : Registry) → registry_of (number_of registry) ≡ Some registry
unfolding registry_of
registry_of_number Neighbor = refl
registry_of_number Prefix = refl
registry_of_number RouterCapability = refl
registry_of_number Binding = refl
registry_of_number Srv6Sid = refl
registry_of_number Unregistered = refl

-- from 6 on there is none
pub registry_of_past : (n : ℕ) → 6 ≤ n → registry_of n ≡ None
unfolding registry_of
registry_of_past n past =
    rw (
      ne_eqb n 0 (λ e. omega arith),
      ne_eqb n 1 (λ e. omega arith),
      ne_eqb n 2 (λ e. omega arith),
      ne_eqb n 3 (λ e. omega arith),
      ne_eqb n 4 (λ e. omega arith),
      ne_eqb n 5 (λ e. omega arith),
    )

-- below 6 there is one
pub numbered : (n : ℕ) → n < 6 → (registry : Registry) × (number_of registry ≡ n)
numbered zero below = (Neighbor, refl)
numbered (suc zero) below = (Prefix, refl)
numbered (suc (suc zero)) below = (RouterCapability, refl)
numbered (suc (suc (suc zero))) below = (Binding, refl)
numbered (suc (suc (suc (suc zero)))) below = (Srv6Sid, refl)
numbered (suc (suc (suc (suc (suc zero))))) below = (Unregistered, refl)
numbered (suc (suc (suc (suc (suc (suc n)))))) below = absurd (omega arith)

-- known: a registry's number ..
some_ok : (o : Option Registry) {registry : Registry} → ok_or o NoSuchRegistry ≡ Ok registry → o ≡ Some registry
some_ok None is = cc
some_ok (Some k) is = cc

pub known_some : (n : ℕ) {registry : Registry} → known n ≡ Ok registry → registry_of n ≡ Some registry
known_some n is = some_ok (registry_of n) is

-- .. or none's
none_ok : (o : Option Registry) {e : Refusal} → ok_or o NoSuchRegistry ≡ Err e → (o ≡ None) × (e ≡ NoSuchRegistry)
none_ok None is = (refl, cc)
none_ok (Some k) is = cc

pub known_none : (n : ℕ) {e : Refusal} → known n ≡ Err e → (registry_of n ≡ None) × (e ≡ NoSuchRegistry)
known_none n is = none_ok (registry_of n) is
