-- The elements that are behind the loop are laid.
use Rattle.std.proofs.Common.{◌≡◌, length}
use Rattle.registry.specs.Registry.{number_of}
use Rattle.fields.specs.Cutting.{Cutting}
use Rattle.fields.proofs.array.array.Given as goal

abbrev pub invariant-loop-n : goal.invariant-loop-n
invariant-loop-n g l =
    (l.left.registry ≡ l.octets.registry)
    × Cutting g.L.Layout.SLIM (g.E.Element.measure l.element) (g.E.Element.trees l.element (number_of l.octets.registry)) l.octets.base.0 l.octets.octets.now l.initial.pen l.pen l.left.octets.now l.left.base.0

abbrev pub decreases-loop-n : goal.decreases-loop-n
decreases-loop-n g l = length l.left.octets.now
