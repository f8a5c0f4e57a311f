use mathlib.Core.Path.{refl, sym, ◌∙◌}
use native.Mathlib.Omega.{arith}
use borrow.Author.Tests.{not-true, not-false}
use lib.ListN.{length}
use Rattle.tape.specs.LayoutLaws.{room_low}
use Rattle.calls.specs.NestLaws.{Ends, container_ends, trees_none, too_deep, bad_container, bad_children, past_container, bad_leaf, past_leaf}
use Rattle.calls.proofs.nest.+split.Goals as goal

pub loop-at-init : goal.loop-at-init
loop-at-init t c = refl

pub returns-then-depth-eq0 : goal.returns-then-depth-eq0
returns-then-depth-eq0 t c =
    let got = c.get-r.ensures in
    let holding = rw got at (sym c.holds_others.ensures ∙ c.if-holds_others.true) in
    too_deep _ _ _ _ _ c.loop-at-test.true holding c.if-depth-eq0.true ∙ c.loop-at.invariant

pub is_container-requires : goal.is_container-requires
is_container-requires t c =
    omega (arith, room_low c.args.slim (length c.args.tape.now), c.requires)

pub returns-then-not-is_container : goal.returns-then-not-is_container
returns-then-not-is_container t c =
    let got = c.get-r.ensures in
    let holding = rw got at (sym c.holds_others.ensures ∙ c.if-holds_others.true) in
    let bad = rw got at (sym c.is_container.ensures ∙ not-true _ c.if-not-is_container.true-raw) in
    bad_container _ _ _ _ _ c.loop-at-test.true holding c.if-depth-eq0.false bad ∙ c.loop-at.invariant

pub split-requires : goal.split-requires
split-requires t c = let e : Ends c.get-r.result c.loop-at.at c.args.end.0 = container_ends _ _ _ (sym c.is_container.ensures ∙ not-false _ c.if-not-is_container.false-raw) in (omega arith, omega arith)

pub returns-then-not-split : goal.returns-then-not-split
returns-then-not-split t c =
    let got = c.get-r.ensures in
    let holding = rw got at (sym c.holds_others.ensures ∙ c.if-holds_others.true) in
    let good = rw got at (sym c.is_container.ensures ∙ not-false _ c.if-not-is_container.false-raw) in
    let children = rw got at (sym c.split.ensures ∙ not-true _ c.if-not-split.true-raw) in
    bad_children _ _ _ _ _ c.loop-at-test.true holding c.if-depth-eq0.false good children ∙ c.loop-at.invariant

pub loop-at-smaller-then-holds_others : goal.loop-at-smaller-then-holds_others
loop-at-smaller-then-holds_others t c = let e : Ends c.get-r.result c.loop-at.at c.args.end.0 = container_ends _ _ _ (sym c.is_container.ensures ∙ not-false _ c.if-not-is_container.false-raw) in omega arith

pub loop-at-preserved-then-holds_others : goal.loop-at-preserved-then-holds_others
loop-at-preserved-then-holds_others t c =
    let got = c.get-r.ensures in
    let holding = rw got at (sym c.holds_others.ensures ∙ c.if-holds_others.true) in
    let good = rw got at (sym c.is_container.ensures ∙ not-false _ c.if-not-is_container.false-raw) in
    let children = rw got at (sym c.split.ensures ∙ not-false _ c.if-not-split.false-raw) in
    rw got (past_container _ _ _ _ _ c.loop-at-test.true holding c.if-depth-eq0.false good children ∙ c.loop-at.invariant)

pub returns-then-not-is_leaf : goal.returns-then-not-is_leaf
returns-then-not-is_leaf t c =
    let got = c.get-r.ensures in
    let leaf = rw got at (sym c.holds_others.ensures ∙ c.if-holds_others.false) in
    let judged = rw got at (sym c.is_leaf.ensures ∙ not-true _ c.if-not-is_leaf.true-raw) in
    bad_leaf _ _ _ _ _ c.loop-at-test.true leaf judged ∙ c.loop-at.invariant

pub loop-at-preserved : goal.loop-at-preserved
loop-at-preserved t c =
    let got = c.get-r.ensures in
    let leaf = rw got at (sym c.holds_others.ensures ∙ c.if-holds_others.false) in
    let judged = rw got at (sym c.is_leaf.ensures ∙ not-false _ c.if-not-is_leaf.false-raw) in
    past_leaf _ _ _ _ _ c.loop-at-test.true leaf judged ∙ c.loop-at.invariant

pub returns : goal.returns
returns t c = sym (trees_none _ _ _ _ _ c.loop-at-test.false) ∙ c.loop-at.invariant
