-- The registry, the checks, the room, and the records.
use mathlib.Core.Path.{sym, ◌∙◌}
use native.Mathlib.Omega.{arith}
use lib.ListN.{length}
use Rattle.tape.specs.LayoutLaws.{room_few}
use Rattle.subtlv.specs.CallLaws.{call_of_none, call_refused, call_room, call_short, call_made}
use Rattle.subtlv.proofs.call.Goals as goal

pub returns-in_err-known : goal.returns-in_err-known
returns-in_err-known g c = call_of_none _ _ _ _ _ _ _ _ (sym c.try_from.ensures ∙ c.in_err-known.was) c.from_residual.ensures.1

pub returns-in_err-room : goal.returns-in_err-room
returns-in_err-room g c = call_refused _ _ _ _ _ _ (sym c.try_from.ensures ∙ c.in_ok-known.was) _ _ c.in_err-room.ensures c.from_residual-in_err-room.ensures.1

pub fits-requires : goal.fits-requires
fits-requires g c = (c.in_ok-room.ensures.short, omega (arith, room_few c.args.slim (length c.args.tape.now), c.in_ok-room.ensures.free))

pub returns-in_err-fits : goal.returns-in_err-fits
returns-in_err-fits g c =
    call_short _ _ _ _ _ _ (sym c.try_from.ensures ∙ c.in_ok-known.was) c.in_ok-room.ensures _ _ c.in_err-fits.ensures c.from_residual-in_err-fits.ensures.1

pub append-requires : goal.append-requires
append-requires g c =
    rw c.if-slim.true at (call_room c.args.slim g.S.Showing.shows _ _ _ _ (sym c.try_from.ensures ∙ c.in_ok-known.was) c.in_ok-room.ensures (omega (arith, room_few c.args.slim (length c.args.tape.now))) (c.in_ok-fits.ensures c.args.base.0))

pub append-requires-else-slim : goal.append-requires-else-slim
append-requires-else-slim g c =
    rw c.if-slim.false at (call_room c.args.slim g.S.Showing.shows _ _ _ _ (sym c.try_from.ensures ∙ c.in_ok-known.was) c.in_ok-room.ensures (omega (arith, room_few c.args.slim (length c.args.tape.now))) (c.in_ok-fits.ensures c.args.base.0))

pub returns-then-slim : goal.returns-then-slim
returns-then-slim g c =
    call_made _ g.S.Showing.shows _ _ _ _ (sym c.try_from.ensures ∙ c.in_ok-known.was) c.in_ok-room.ensures (c.in_ok-fits.ensures c.args.base.0) (rw c.if-slim.true c.append.ensures)

pub returns-else-slim : goal.returns-else-slim
returns-else-slim g c =
    call_made _ g.S.Showing.shows _ _ _ _ (sym c.try_from.ensures ∙ c.in_ok-known.was) c.in_ok-room.ensures (c.in_ok-fits.ensures c.args.base.0) (rw c.if-slim.false c.append-else-slim.ensures)
