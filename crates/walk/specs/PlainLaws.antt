-- The registries whose values hold no area.
use Rattle.std.specs.Prelude.{◌≡◌, refl, ◌≤◌}
use Rattle.std.proofs.Common.{arith}
use Rattle.registry.specs.Registry.{number_of}
use Rattle.registry.specs.declared.Registry.{Registry}
use Rattle.registry.specs.declared.Registry.TheVariants.{Neighbor, Prefix, RouterCapability, Binding, Srv6Sid, Unregistered}

-- the other three may hold one
pub other_plain : (k : Registry) → (k ≡ Neighbor → ⊥) → (k ≡ Prefix → ⊥) → (k ≡ RouterCapability → ⊥) → 3 ≤ number_of k
other_plain Neighbor a b c = absurd (a refl)
other_plain Prefix a b c = absurd (b refl)
other_plain RouterCapability a b c = absurd (c refl)
other_plain Binding a b c = omega arith
other_plain Srv6Sid a b c = omega arith
other_plain Unregistered a b c = omega arith

-- of the registries 3 to 5 the last is what is neither of the two that are read
pub neither_read : (k : Registry) → 3 ≤ number_of k → (k ≡ Binding → ⊥) → (k ≡ Srv6Sid → ⊥) → k ≡ Unregistered
neither_read Neighbor plain not_binding not_srv6 = absurd (omega (arith, plain))
neither_read Prefix plain not_binding not_srv6 = absurd (omega (arith, plain))
neither_read RouterCapability plain not_binding not_srv6 = absurd (omega (arith, plain))
neither_read Binding plain not_binding not_srv6 = absurd (not_binding refl)
neither_read Srv6Sid plain not_binding not_srv6 = absurd (not_srv6 refl)
neither_read Unregistered plain not_binding not_srv6 = refl
