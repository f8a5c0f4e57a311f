-- The place of either layout.
use mathlib.Core.Path.{refl}
use native.Mathlib.Omega.{arith}
use Rattle.tape.specs.Layout.{word_of}
use Rattle.store.proofs.words.first_word.Goals as goal

pub returns-then-slim : goal.returns-then-slim
unfolding word_of
returns-then-slim c = (rw c.if-slim.true refl, omega arith)

pub returns-else-slim : goal.returns-else-slim
unfolding word_of
returns-else-slim c = (rw c.if-slim.false refl, omega arith)
