-- Type by type.
use mathlib.Core.Path.{refl}
use Rattle.std.proofs.Common.{rules}
use Rattle.meaning.specs.Table.{table, fields_of, usual}
use Rattle.meaning.specs.TableLaws.{least_in, fields_in}
use Rattle.count.specs.RowCount.{unread_counts, row_counts, heads_counts}
use Rattle.count.specs.ArrayCount.{bandwidth_counts}
use Rattle.count.proofs.registries.neighbor.Goals as goal

pub returns-in-3 : goal.returns-in-3
unfolding usual fields_of table least_in fields_in
returns-in-3 c = row_counts c.in-3.is refl refl c.row.ensures

pub returns-in-4 : goal.returns-in-4
unfolding usual fields_of table least_in fields_in
returns-in-4 c = row_counts c.in-4.is refl refl c.row-in-4.ensures

pub returns-in-6 : goal.returns-in-6
unfolding usual fields_of table least_in fields_in
returns-in-6 c = row_counts c.in-6.is refl refl c.row-in-6.ensures

pub returns-in-8 : goal.returns-in-8
unfolding usual fields_of table least_in fields_in
returns-in-8 c = row_counts c.in-8.is refl refl c.row-in-8.ensures

pub returns-in-9 : goal.returns-in-9
unfolding usual fields_of table least_in fields_in
returns-in-9 c = row_counts c.in-9.is refl refl c.row-in-9.ensures

pub returns-in-10 : goal.returns-in-10
unfolding usual fields_of table least_in fields_in
returns-in-10 c = row_counts c.in-10.is refl refl c.row-in-10.ensures

pub returns-in-11 : goal.returns-in-11
returns-in-11 c = bandwidth_counts c.in-11.is c.row-in-11.ensures

pub returns-in-12 : goal.returns-in-12
unfolding usual fields_of table least_in fields_in
returns-in-12 c = row_counts c.in-12.is refl refl c.row-in-12.ensures

pub returns-in-13 : goal.returns-in-13
unfolding usual fields_of table least_in fields_in
returns-in-13 c = row_counts c.in-13.is refl refl c.row-in-13.ensures

pub returns-in-18 : goal.returns-in-18
unfolding usual fields_of table least_in fields_in
returns-in-18 c = row_counts c.in-18.is refl refl c.row-in-18.ensures

pub returns-in-31 : goal.returns-in-31
unfolding usual fields_of table least_in fields_in
returns-in-31 c = row_counts c.in-31.is refl refl c.row-in-31.ensures

pub returns-in-32 : goal.returns-in-32
unfolding usual fields_of table least_in fields_in
returns-in-32 c = row_counts c.in-32.is refl refl c.row-in-32.ensures

pub returns-in-33 : goal.returns-in-33
unfolding usual fields_of table least_in fields_in
returns-in-33 c = row_counts c.in-33.is refl refl c.row-in-33.ensures

pub returns-in-34 : goal.returns-in-34
unfolding usual fields_of table least_in fields_in
returns-in-34 c = row_counts c.in-34.is refl refl c.row-in-34.ensures

pub returns-in-35 : goal.returns-in-35
unfolding usual fields_of table least_in fields_in
returns-in-35 c = row_counts c.in-35.is refl refl c.row-in-35.ensures

pub returns-in-36 : goal.returns-in-36
unfolding usual fields_of table least_in fields_in
returns-in-36 c = row_counts c.in-36.is refl refl c.row-in-36.ensures

pub returns-in-37 : goal.returns-in-37
unfolding usual fields_of table least_in fields_in
returns-in-37 c = row_counts c.in-37.is refl refl c.row-in-37.ensures

pub returns-in-38 : goal.returns-in-38
unfolding usual fields_of table least_in fields_in
returns-in-38 c = row_counts c.in-38.is refl refl c.row-in-38.ensures

pub returns-in-39 : goal.returns-in-39
unfolding usual fields_of table least_in fields_in
returns-in-39 c = row_counts c.in-39.is refl refl c.row-in-39.ensures

pub returns-in-43 : goal.returns-in-43
unfolding usual fields_of table least_in fields_in
returns-in-43 c = heads_counts c.in-43.is refl refl tt c.head_and_tail.ensures

pub returns-in-44 : goal.returns-in-44
unfolding usual fields_of table least_in fields_in
returns-in-44 c = heads_counts c.in-44.is refl refl tt c.head_and_tail-in-44.ensures

pub returns-in_default : goal.returns-in_default
unfolding table
returns-in_default c = unread_counts (search rules)
