-- Type by type.
use mathlib.Core.Path.{refl}
use Rattle.std.proofs.Common.{rules}
use Rattle.meaning.specs.Table.{table, fields_of, usual}
use Rattle.meaning.specs.TableLaws.{least_in, fields_in}
use Rattle.count.specs.RowCount.{unread_counts, row_counts, heads_counts}
use Rattle.count.specs.ArrayCount.{tags_counts, long_tags_counts}
use Rattle.count.proofs.registries.prefix.Goals as goal

pub returns-in-1 : goal.returns-in-1
returns-in-1 c = tags_counts c.in-1.is c.row.ensures

pub returns-in-2 : goal.returns-in-2
returns-in-2 c = long_tags_counts c.in-2.is c.row-in-2.ensures

pub returns-in-3 : goal.returns-in-3
unfolding usual fields_of table least_in fields_in
returns-in-3 c = row_counts c.in-3.is refl refl c.row-in-3.ensures

pub returns-in-4 : goal.returns-in-4
unfolding usual fields_of table least_in fields_in
returns-in-4 c = row_counts c.in-4.is refl refl c.row-in-4.ensures

pub returns-in-5 : goal.returns-in-5
unfolding usual fields_of table least_in fields_in
returns-in-5 c = heads_counts c.in-5.is refl refl tt c.head_and_tail.ensures

pub returns-in-11 : goal.returns-in-11
unfolding usual fields_of table least_in fields_in
returns-in-11 c = row_counts c.in-11.is refl refl c.row-in-11.ensures

pub returns-in-12 : goal.returns-in-12
unfolding usual fields_of table least_in fields_in
returns-in-12 c = row_counts c.in-12.is refl refl c.row-in-12.ensures

pub returns-in_default : goal.returns-in_default
unfolding table
returns-in_default c = unread_counts (search rules)
