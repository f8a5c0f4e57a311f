-- The one type of registry 4 that is read, and all others.
use mathlib.Core.Path.{refl}
use Rattle.std.proofs.Common.{rules}
use Rattle.meaning.specs.Table.{table, fields_of, usual}
use Rattle.meaning.specs.TableLaws.{least_in, fields_in}
use Rattle.count.specs.RowCount.{unread_counts, row_counts}
use Rattle.count.proofs.nested.srv6_sid.Goals as goal

pub returns-in-1 : goal.returns-in-1
unfolding usual fields_of table least_in fields_in
returns-in-1 c = λ walk. row_counts c.in-1.is refl refl c.row.ensures

pub returns-in_default : goal.returns-in_default
unfolding table
returns-in_default c = λ walk. unread_counts (search rules)
