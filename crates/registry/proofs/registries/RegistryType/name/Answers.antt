-- The name that was found fits, or is refused.
use Rattle.std.proofs.Common.{◌∙◌, arith}
use Rattle.registry.specs.Names.{name_of, names_of}
use Rattle.registry.specs.NamesLaws.{found_name}
use Rattle.registry.proofs.NameCallLaws.{found_longer, found_fits}
use Rattle.registry.proofs.registries.RegistryType.name.Goals as goal

pub returns-then-out-name : goal.returns-then-out-name
unfolding name_of
returns-then-out-name g c = found_longer _ (c.as_bytes-name.ensures.value ∙ c.find.ensures ∙ found_name _ _ _ (names_of g.Self.RegistryType.REGISTRY) c.args.t (cc)) (omega (arith, c.if-out-name.true))

pub returns : goal.returns
unfolding name_of
returns g c = found_fits _ (c.as_bytes-name.ensures.value ∙ c.find.ensures ∙ found_name _ _ _ (names_of g.Self.RegistryType.REGISTRY) c.args.t (cc)) (omega (arith, c.if-out-name.false)) c.copy_to_front.ensures
