-- What is left, or the whole value.
use Rattle.std.specs.Prelude.{Option, ℕ}
use Rattle.std.proofs.Common.{rules, sym, ap, ◌∙◌}
use Rattle.registry.specs.Registry.{number_of}
use Rattle.store.specs.PenLaws.{room_as, writes_as}
use Rattle.fields.specs.Stretches.{of}
use Rattle.walk.specs.Rest.{rest_of}
use Rattle.walk.specs.RestLaws.{rest_none}
use Rattle.walk.proofs.entry.rest.Goals as goal

pub raw-requires : goal.raw-requires
unfolding rest_of
raw-requires g c = room_as c.args.pen.now (sym (ap (λ (t : Option ℕ). of (rest_of t) c.args.value) c.in-Some.is)) c.requires

pub octets-requires : goal.octets-requires
octets-requires g c =
    let v = c.args.value in
    let none = ap (λ (t : Option ℕ). of (rest_of t) v) c.in-None.is ∙ rest_none (number_of v.registry) v.octets.now v.base.0 in
    let room = room_as c.args.pen.now (sym none) c.requires in
    search rules

pub returns-in-Some : goal.returns-in-Some
unfolding rest_of
returns-in-Some g c = writes_as (ap (λ (t : Option ℕ). of (rest_of t) c.args.value) c.in-Some.is) c.raw.ensures

pub returns-in-None : goal.returns-in-None
returns-in-None g c =
    let v = c.args.value in
    writes_as (ap (λ (t : Option ℕ). of (rest_of t) v) c.in-None.is ∙ rest_none (number_of v.registry) v.octets.now v.base.0) c.octets.ensures
