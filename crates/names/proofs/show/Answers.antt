-- What a name call writes lies in what was lent.
use Rattle.std.proofs.Common.{◌≡◌, ℕ, ◌≤◌, List, length, arith, sym, ap}
use Rattle.std.proofs.lemmas.List.{length-take-le}
use Rattle.outcome.specs.Call.{Outcome}
use Rattle.registry.specs.Registry.{registry_of}
use Rattle.registry.specs.NameCall.{name_call}
use Rattle.registry.proofs.NameCallLaws.{written_inside}
use Rattle.names.proofs.show.Goals as goal

inside : {o : Outcome} (registry t : ℕ) (lent left : List ℕ) → o ≡ (name_call registry t lent).outcome → length left ≡ length lent → o.written ≤ length left
inside registry t lent left gave same =
    omega (arith, ap (λ (o : Outcome). o.written) gave, written_inside (registry_of registry) t lent, same)

pub slice_bounds-text-end : goal.slice_bounds-text-end
slice_bounds-text-end g c = inside c.args.registry c.args.t _ _ c.in-Ok.ensures.gave c.name.auto.out

pub slice_bounds-print_line-end : goal.slice_bounds-print_line-end
slice_bounds-print_line-end g c = sym (length-take-le _ _ (inside c.args.registry c.args.t _ _ c.in-Ok.ensures.gave c.name.auto.out))
