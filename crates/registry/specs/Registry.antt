-- Document 01, 'The registries': 0 Neighbor, 1 Prefix, 2 RouterCapability, 3 Binding, 4 Srv6Sid, 5 Unregistered; 4 and 5 are the nested level.
use Rattle.std.specs.Prelude.{ℕ, Bool, true, false, cond, eqb, Option, Some, None, Result}
use Rattle.registry.specs.declared.Registry.{Registry}
use Rattle.registry.specs.declared.Registry.TheVariants.{Neighbor, Prefix, RouterCapability, Binding, Srv6Sid, Unregistered}
use Rattle.std.specs.Option.{ok_or}
use Rattle.outcome.specs.declared.Refusal.{Refusal}
use Rattle.outcome.specs.declared.Refusal.TheVariants.{NoSuchRegistry}

-- the number of a registry
abbrev pub number_of : Registry → ℕ
number_of Neighbor = 0
number_of Prefix = 1
number_of RouterCapability = 2
number_of Binding = 3
number_of Srv6Sid = 4
number_of Unregistered = 5

-- the level of a registry: nested or not
abbrev pub is_nested : Registry → Bool
is_nested Neighbor = false
is_nested Prefix = false
is_nested RouterCapability = false
is_nested Binding = false
is_nested Srv6Sid = true
is_nested Unregistered = true

-- the registry that has a number
unfoldable pub registry_of : ℕ → Option Registry
registry_of n =
    cond (eqb n 0) (Some Neighbor)
    (cond (eqb n 1) (Some Prefix)
    (cond (eqb n 2) (Some RouterCapability)
    (cond (eqb n 3) (Some Binding)
    (cond (eqb n 4) (Some Srv6Sid)
    (cond (eqb n 5) (Some Unregistered)
    None)))))

-- the registry that has a number, or the refusal that says that none has
abbrev pub known : ℕ → Result Registry Refusal
known n = ok_or (registry_of n) NoSuchRegistry
