-- No type is read.
use Rattle.meaning.specs.Table.{table}
use Rattle.count.specs.RowCount.{unread_counts}
use Rattle.count.proofs.nested.UnregisteredLevel.records.Goals as goal

pub returns : goal.returns
unfolding table
returns c = unread_counts tt
