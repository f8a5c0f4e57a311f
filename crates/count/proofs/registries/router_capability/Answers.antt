-- Type by type.
use mathlib.Core.Path.{refl}
use Rattle.std.proofs.Common.{rules}
use Rattle.meaning.specs.Table.{table, fields_of, usual}
use Rattle.meaning.specs.TableLaws.{least_in, fields_in}
use Rattle.count.specs.RowCount.{unread_counts, row_counts, heads_counts}
use Rattle.count.specs.ArrayCount.{algorithms_counts, msds_counts}
use Rattle.count.proofs.registries.router_capability.Goals as goal

pub returns-in-2 : goal.returns-in-2
unfolding usual fields_of table least_in fields_in
returns-in-2 c = heads_counts c.in-2.is refl refl tt c.flags_and_ranges.ensures

pub returns-in-11 : goal.returns-in-11
unfolding usual fields_of table least_in fields_in
returns-in-11 c = row_counts c.in-11.is refl refl c.row.ensures

pub returns-in-12 : goal.returns-in-12
unfolding usual fields_of table least_in fields_in
returns-in-12 c = row_counts c.in-12.is refl refl c.row-in-12.ensures

pub returns-in-19 : goal.returns-in-19
returns-in-19 c = algorithms_counts c.in-19.is refl

pub returns-in-22 : goal.returns-in-22
unfolding usual fields_of table least_in fields_in
returns-in-22 c = heads_counts c.in-22.is refl refl tt c.flags_and_ranges-in-22.ensures

pub returns-in-23 : goal.returns-in-23
returns-in-23 c = msds_counts c.in-23.is c.row-in-23.ensures

pub returns-in-24 : goal.returns-in-24
unfolding usual fields_of table least_in fields_in
returns-in-24 c = row_counts c.in-24.is refl refl c.row-in-24.ensures

pub returns-in-25 : goal.returns-in-25
unfolding usual fields_of table least_in fields_in
returns-in-25 c = heads_counts c.in-25.is refl refl tt c.flags_and_push.ensures

pub returns-in_default : goal.returns-in_default
unfolding table
returns-in_default c = unread_counts (search rules)
