-- Each turn lays the element in front.
use Rattle.std.proofs.Common.{refl, sym, subst, ◌∙◌, ◌≡◌, arith, ℕ, length, take}
use Rattle.std.proofs.Math.Seq.{length-take-le}
use Rattle.registry.specs.Registry.{number_of}
use Rattle.tape.specs.Code.{label_code}
use Rattle.meaning.specs.CompleteLaws.{complete_is, complete_none}
use Rattle.store.specs.PenLaws.{room_as, writes_as}
use Rattle.fields.specs.StretchLaws.{of_is}
use Rattle.fields.specs.Cutting.{cutting_start, cutting_step, cutting_room, cutting_past, cutting_end}
use Rattle.fields.proofs.array.array.Goals as goal

pub loop-n-init : goal.loop-n-init
loop-n-init g c = (refl, cutting_start _ _ _ _ _)

pub lay-requires : goal.lay-requires
lay-requires g c =
    let laws = g.met.E.Element in
    let element = c.args.element in
    let left = c.loop-n.left.octets.now in
    let m = g.E.Element.measure element left in
    let here = complete_is m c.in-Some.ensures in
    let long : length (take c.in-Some.n left) ≡ c.in-Some.n = length-take-le c.in-Some.n left (omega (arith, here.0, laws.fits element left)) in
    let first = c.first.ensures in
    let allowed = subst (λ (k : ℕ). g.E.Element.may_have element k) (here.0 ∙ sym long) (laws.allowed element left here.1) in
    let room = cutting_room (laws.fits element) (label_code c.args.label) (number_of c.args.octets.registry) c.in-Some.n c.requires c.skip.ensures c.loop-n.invariant.1 here.0 (omega (arith, here)) in
    let trees = g.E.Element.trees element in
    (rw first.octets allowed, room_as c.loop-n.pen (of_is trees c.first.result (first.registry ∙ c.loop-n.invariant.0) first.octets first.base) room)

pub loop-n-preserved : goal.loop-n-preserved
loop-n-preserved g c =
    let laws = g.met.E.Element in
    let element = c.args.element in
    let left = c.loop-n.left.octets.now in
    let m = g.E.Element.measure element left in
    let here = complete_is m c.in-Some.ensures in
    let first = c.first.ensures in
    let from = c.from-left.ensures in
    let trees = g.E.Element.trees element in
    let wrote = writes_as (sym (of_is trees c.first.result (first.registry ∙ c.loop-n.invariant.0) first.octets first.base)) c.lay.ensures in
    (from.registry ∙ c.loop-n.invariant.0, rw (from.octets, from.base) (cutting_step (laws.fits element) c.in-Some.n c.loop-n.invariant.1 here.0 (omega (arith, here)) wrote))

pub container-requires : goal.container-requires
container-requires g c =
    let past = cutting_past (g.met.E.Element.fits c.args.element) (label_code c.args.label) (number_of c.args.octets.registry) c.requires c.skip.ensures c.loop-n.invariant.1 in
    (past.0, past.1, c.content.ensures.near)

pub returns : goal.returns
returns g c =
    let laws = g.met.E.Element in
    let element = c.args.element in
    let left = c.loop-n.left.octets.now in
    let stops = complete_none (g.E.Element.measure element left) c.in_default.ensures in
    let put = rw c.content.ensures.content at c.container.ensures in
    cutting_end (laws.fits element) (label_code c.args.label) (number_of c.args.octets.registry) c.skip.ensures c.loop-n.invariant.1 stops put (omega arith)
