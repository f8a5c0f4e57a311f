-- One return for each check.
use mathlib.Core.Path.{sym, ◌∙◌}
use native.Mathlib.Omega.{arith}
use borrow.Author.Tests.{not-true, not-false}
use Rattle.meaning.proofs.AreaCallLaws.{call_2, call_3, call_4}
use Rattle.tape.specs.HeaderLaws.{headed_in_order}
use Rattle.subtlv.proofs.check.Goals as goal

pub returns-then-n-gt65535 : goal.returns-then-n-gt65535
returns-then-n-gt65535 c shows k = let g = c.args in call_2 g.slim shows k g.area.now g.base.0 g.tape.now c.if-n-gt65535.true

pub returns-then-n-base : goal.returns-then-n-base
returns-then-n-base c shows k = let g = c.args in call_3 g.slim shows k g.area.now g.base.0 g.tape.now (omega arith) (omega arith)

pub returns-then-not-in_order : goal.returns-then-not-in_order
returns-then-not-in_order c shows k = let g = c.args in call_4 g.slim shows k g.area.now g.base.0 g.tape.now (omega arith) (omega arith) (sym c.in_order.ensures ∙ not-true _ c.if-not-in_order.true-raw)

pub used-at-requires : goal.used-at-requires
used-at-requires c = (headed_in_order c.args.tape.now (sym c.in_order.ensures ∙ not-false _ c.if-not-in_order.false-raw)).long

pub room_of-requires : goal.room_of-requires
room_of-requires c = (headed_in_order c.args.tape.now (sym c.in_order.ensures ∙ not-false _ c.if-not-in_order.false-raw)).long

pub overflow_sub-result : goal.overflow_sub-result
overflow_sub-result c =
    omega (arith, (headed_in_order c.args.tape.now (sym c.in_order.ensures ∙ not-false _ c.if-not-in_order.false-raw)).fits, c.used-at.ensures, c.room_of.ensures)
