-- Type by type.
use mathlib.Core.Path.{refl}
use Rattle.std.proofs.Common.{rules}
use Rattle.meaning.specs.Table.{table, fields_of, usual}
use Rattle.meaning.specs.TableLaws.{least_in, fields_in}
use Rattle.count.specs.RowCount.{unread_counts, row_counts}
use Rattle.count.proofs.registries.binding.Goals as goal

pub returns-in-1 : goal.returns-in-1
unfolding usual fields_of table least_in fields_in
returns-in-1 c = row_counts c.in-1.is refl refl c.row.ensures

pub returns-in-3 : goal.returns-in-3
unfolding usual fields_of table least_in fields_in
returns-in-3 c = row_counts c.in-3.is refl refl c.row-in-3.ensures

pub returns-in_default : goal.returns-in_default
unfolding table
returns-in_default c = unread_counts (search rules)
