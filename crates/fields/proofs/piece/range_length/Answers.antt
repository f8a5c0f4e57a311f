-- The tests of a range, one after the other.
use Rattle.std.proofs.Common.{sym, ap, ◌∙◌}
use Rattle.meaning.specs.Complete.{complete}
use Rattle.meaning.specs.FrameLaws.{range_few, range_other, range_neither, range_of_three, range_of_four}
use Rattle.fields.proofs.piece.range_length.Goals.{then-octets-lt5-via-then-octets-lt5, then-octets-lt5-via-else-octets-lt5+then-octets-ne1}
use Rattle.fields.proofs.piece.range_length.Goals as goal

pub returns-then-octets-lt5 : goal.returns-then-octets-lt5
returns-then-octets-lt5 c =
    let s = c.args.octets.now in
    elim c.then-octets-lt5.branch [
      | then-octets-lt5-via-then-octets-lt5 w ↦ sym (ap complete (range_few s w.if-octets-lt5.true))
      | then-octets-lt5-via-else-octets-lt5+then-octets-ne1 w ↦ sym (ap complete (range_other s w.if-octets-ne1.true))
    ]

pub returns-in-3 : goal.returns-in-3
returns-in-3 c = c.whole.ensures ∙ sym (ap complete (range_of_three c.args.octets.now c.if-octets-ne1.false c.in-3.is))

pub returns-in-4 : goal.returns-in-4
returns-in-4 c = c.whole-in-4.ensures ∙ sym (ap complete (range_of_four c.args.octets.now c.if-octets-ne1.false c.in-4.is))

pub returns-in_default : goal.returns-in_default
returns-in_default c = sym (ap complete (range_neither c.args.octets.now c.in_default.in_default-own.rest.0.1 c.in_default.in_default-own.rest.1))
