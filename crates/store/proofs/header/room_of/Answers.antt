-- The room of either layout.
use native.Mathlib.Omega.{arith}
use Rattle.tape.specs.Layout.{room_of}
use Rattle.store.proofs.header.room_of.Goals as goal

pub returns-then-most-le4294967295 : goal.returns-then-most-le4294967295
unfolding room_of
returns-then-most-le4294967295 c = rw c.if-slim.true (omega arith)

pub returns-else-most-le4294967295 : goal.returns-else-most-le4294967295
unfolding room_of
returns-else-most-le4294967295 c = rw c.if-slim.true (omega arith)

pub returns-else-slim : goal.returns-else-slim
unfolding room_of
returns-else-slim c = rw c.if-slim.false (omega arith)
