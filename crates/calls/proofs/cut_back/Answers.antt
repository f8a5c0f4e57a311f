-- One return for each answer.
use mathlib.Core.Path.{refl, sym, ◌∙◌}
use native.Mathlib.Omega.{arith}
use borrow.Author.Tests.{not-true, not-false}
use Rattle.outcome.specs.CallLaws.{gives_as}
use Rattle.outcome.specs.ToldLaws.{handed_on}
use Rattle.tape.specs.HeaderLaws.{headed_in_order, used_inside}
use Rattle.calls.specs.CallsLaws.{end_by_each, cut_4, cut_6, cut_7, cut_0}
use Rattle.calls.proofs.cut_back.Goals as goal

pub returns-in_err-count : goal.returns-in_err-count
returns-in_err-count c = let no' = c.in_err-count.ensures in handed_on _ _ (cut_4 _ _ _ no'.0 ∙ rw no'.1) c.from_residual.ensures.1

pub returns-then-count-mark : goal.returns-then-count-mark
returns-then-count-mark c = let yes' = c.in_ok-count.ensures in gives_as (cut_6 _ _ _ yes'.0 (rw yes'.1 at c.if-count-mark.true)) (record { gave = refl; left = refl })

pub end_by-requires : goal.end_by-requires
end_by-requires c = let yes' = c.in_ok-count.ensures in omega (arith, used_inside _ (headed_in_order _ yes'.0))

pub returns-then-not-end_by : goal.returns-then-not-end_by
returns-then-not-end_by c =
    let yes' = c.in_ok-count.ensures in
    let through = sym (c.end_by.ensures ∙ end_by_each _ _ _ 0 _) ∙ not-true _ c.if-not-end_by.true-raw in
    gives_as (cut_7 _ _ _ yes'.0 (rw yes'.1 at c.if-count-mark.false) through) (record { gave = refl; left = refl })

pub set_used-requires : goal.set_used-requires
set_used-requires c = (headed_in_order _ (c.in_ok-count.ensures).0).long

pub returns : goal.returns
returns c =
    let yes' = c.in_ok-count.ensures in
    let beside = sym (c.end_by.ensures ∙ end_by_each _ _ _ 0 _) ∙ not-false _ c.if-not-end_by.false-raw in
    gives_as (cut_0 _ _ _ yes'.0 (rw yes'.1 at c.if-count-mark.false) beside) (record { gave = refl; left = c.set_used.ensures })
