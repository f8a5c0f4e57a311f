-- The nested level.
use Rattle.meaning.specs.Table.{table, usual}
use Rattle.meaning.specs.Area.{inner_walk}
use Rattle.count.specs.RowCount.{unread_counts}
use Rattle.count.proofs.registries.RegistryLevel.records.Goals as goal

pub returns-in-Srv6Sid : goal.returns-in-Srv6Sid
returns-in-Srv6Sid c = rw c.in-Srv6Sid.is (c.srv6_sid.ensures (inner_walk usual))

pub returns-in-Unregistered : goal.returns-in-Unregistered
unfolding table
returns-in-Unregistered c = rw c.in-Unregistered.is (unread_counts tt)
