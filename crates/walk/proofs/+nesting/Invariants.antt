-- The measure of each member: the octets left fall; where they do not, the member is nearer to a walk.
use Rattle.std.proofs.Common.{◌≡◌, ◌+◌, ◌*◌, length}
use Rattle.registry.specs.Registry.{number_of}
use Rattle.meaning.specs.Frame.{entry_length}
use Rattle.fields.specs.Cutting.{Cutting}
use Rattle.walk.specs.Entry.{entry_in}
use Rattle.walk.proofs.+nesting.Given as goal

abbrev pub decreases-push : goal.decreases-push
decreases-push g l = 8 * length l.area.octets.now + 7

abbrev pub decreases-walk : goal.decreases-walk
decreases-walk g l = 8 * length l.area.octets.now + 6

abbrev pub decreases-entries : goal.decreases-entries
decreases-entries g l = 8 * length l.area.octets.now + 5

abbrev pub decreases-lay_entry : goal.decreases-lay_entry
decreases-lay_entry g l = 8 * length l.octets.octets.now + 4

abbrev pub decreases-decode : goal.decreases-decode
decreases-decode g l = 8 * length l.value.octets.now + 3

abbrev pub decreases-neighbor_value : goal.decreases-neighbor_value
decreases-neighbor_value g l = 8 * length l.value.octets.now + 2

abbrev pub decreases-prefix_value : goal.decreases-prefix_value
decreases-prefix_value g l = 8 * length l.value.octets.now + 2

abbrev pub decreases-router_value : goal.decreases-router_value
decreases-router_value g l = 8 * length l.value.octets.now + 2

abbrev pub decreases-tail : goal.decreases-tail
decreases-tail g l = 8 * length l.value.octets.now + 1

-- The entries that are behind the loop are laid.
abbrev pub invariant-entries-loop-n : goal.invariant-entries-loop-n
invariant-entries-loop-n g l =
    (l.left.registry ≡ l.area.registry)
    × Cutting g.L.Layout.SLIM entry_length (entry_in (number_of l.area.registry)) l.area.base.0 l.area.octets.now l.initial.pen l.pen l.left.octets.now l.left.base.0

abbrev pub decreases-entries-loop-n : goal.decreases-entries-loop-n
decreases-entries-loop-n g l = length l.left.octets.now
