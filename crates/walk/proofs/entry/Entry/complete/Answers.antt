-- What follows the decoder's records, and the object, the type and the length.
use Rattle.std.proofs.Common.{sym, add-zero, add_assoc}
use Rattle.registry.specs.Registry.{number_of}
use Rattle.store.specs.PenLaws.{writes_as}
use Rattle.fields.specs.StretchLaws.{of_is}
use Rattle.walk.specs.Rest.{rest_of}
use Rattle.walk.specs.EntryLaws.{entry_made}
use Rattle.walk.proofs.entry.Entry.complete.Goals as goal

pub returns : goal.returns
returns g c o p there skipped read =
    let e = c.args.self.octets in
    let b = e.base.0 in
    let from = c.from.ensures in
    let rest = writes_as (sym (of_is (rest_of c.args.taken) c.from.result from.registry from.octets from.base)) c.rest.ensures in
    let put = rw (c.object.ensures.object, c.type_leaf.ensures.leaf, c.length_leaf.ensures.leaf, add-zero b, add_assoc b 1 1, sym there) at c.container_of_two.ensures in
    entry_made (number_of e.registry) e.octets.now b skipped read rest put
