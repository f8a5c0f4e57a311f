-- A count needs a header, which is there.
use mathlib.Core.Path.{sym, ◌∙◌}
use borrow.Author.Tests.{not-false}
use Rattle.tape.specs.HeaderLaws.{headed_in_order}
use Rattle.calls.proofs.count_of.Goals as goal

pub used-requires : goal.used-requires
used-requires c = (headed_in_order _ (sym c.in_order.ensures ∙ not-false _ c.if-not-in_order.false-raw)).long
