-- The tape has the words of a header.
use Rattle.std.proofs.Common.{arith}
use Rattle.calls.specs.CallsLaws.{clear_done}
use Rattle.dump.proofs.main.Goals as goal

pub unwrap-requires : goal.unwrap-requires
unwrap-requires c = clear_done _ _ _ (omega arith) c.clear.ensures
