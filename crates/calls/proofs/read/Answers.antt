-- One return for each answer.
use mathlib.Core.Path.{sym, ◌∙◌}
use native.Mathlib.Omega.{arith}
use borrow.Author.Tests.{not-true, not-false}
use Rattle.std.proofs.lemmas.Result.{err_from_is_err_and}
use Rattle.tape.specs.HeaderLaws.{headed_in_order, used_inside}
use Rattle.calls.specs.CallsLaws.{read_4, read_6, read_8, read_0}
use Rattle.calls.proofs.read.Goals as goal

pub returns-in_err-count : goal.returns-in_err-count
returns-in_err-count c =
    let no' = c.in_err-count.ensures in
    let on = err_from_is_err_and c.from_residual.result c.from_residual.ensures.1 in
    rw (on.1, on.2, no'.1) (sym (read_4 _ _ _ no'.0))

pub returns-then-count-at : goal.returns-then-count-at
returns-then-count-at c = let yes' = c.in_ok-count.ensures in sym (read_6 _ _ _ yes'.0 (rw yes'.1 at c.if-count-at.true))

pub get-record-requires : goal.get-record-requires
get-record-requires c = let yes' = c.in_ok-count.ensures in omega (arith, used_inside _ (headed_in_order _ yes'.0))

pub returns-then-not-is_readable : goal.returns-then-not-is_readable
returns-then-not-is_readable c =
    let yes' = c.in_ok-count.ensures in
    let unreadable = rw c.get-record.ensures at (sym c.is_readable.ensures ∙ not-true _ c.if-not-is_readable.true-raw) in
    sym (read_8 _ _ _ yes'.0 (rw yes'.1 at c.if-count-at.false) unreadable)

pub returns : goal.returns
returns c =
    let yes' = c.in_ok-count.ensures in
    let got = c.get-record.ensures in
    let readable = rw got at (sym c.is_readable.ensures ∙ not-false _ c.if-not-is_readable.false-raw) in
    rw got (sym (read_0 _ _ _ yes'.0 (rw yes'.1 at c.if-count-at.false) readable))
