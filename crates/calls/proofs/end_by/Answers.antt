-- The last record is tested first.
use native.Mathlib.Omega.{arith}
use borrow.Author.Tests.{tests}
use Rattle.std.proofs.Common.{rules, refl, ◌≡◌, Bool, ℕ, leb, ◌-◌, ◌∙◌}
use Rattle.std.specs.List.{list_all, range_with_len}
use Rattle.std.proofs.lemmas.Iterator.{YieldsList-from_range}
use Rattle.std.proofs.lemmas.Iterator.Search.{all_from_yields_List}
use Rattle.tape.specs.Tape.{record_at}
use Rattle.calls.specs.CallsLaws.{from_the_last}
use Rattle.calls.proofs.end_by.Goals as goal

pub returns : goal.returns
returns c =
    let n = c.args.mark.0 in
    let ends : ℕ → Bool = λ i. leb (record_at c.args.slim c.args.tape.now i).past.0 n in
    let each = all_from_yields_List (λ k. ends (n - 1 - k)) _ _ c.all.result c.all.ensures.ran (YieldsList-from_range 0 _ n refl (omega arith)) (λ x b q k. search (rules, tests)) in
    each ∙ from_the_last ends n
