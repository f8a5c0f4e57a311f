-- Too few octets for a head, or as many as the length says.
use Rattle.std.proofs.Common.{sym, ap, ◌∙◌}
use Rattle.meaning.specs.Complete.{complete}
use Rattle.meaning.specs.FrameLaws.{entry_few, entry_is}
use Rattle.fields.proofs.piece.entry_length.Goals as goal

pub returns-then-octets-lt2 : goal.returns-then-octets-lt2
returns-then-octets-lt2 c = sym (ap complete (entry_few c.args.octets.now c.if-octets-lt2.true))

pub returns : goal.returns
returns c = c.whole.ensures ∙ sym (ap complete (entry_is c.args.octets.now))
