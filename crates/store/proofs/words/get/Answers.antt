-- The words of the record are read.
use native.Mathlib.Omega.{arith}
use lib.ListN.{length}
use Rattle.tape.specs.LayoutLaws.{room_low, room_one}
use Rattle.store.proofs.words.get.Goals as goal

pub first_word-b-requires : goal.first_word-b-requires
first_word-b-requires c = let g = c.args in omega (arith, c.requires, room_low g.slim (length g.tape.now))

pub read-requires : goal.read-requires
read-requires c = let g = c.args in omega (arith, c.first_word-b.ensures.0, room_one g.slim (length g.tape.now) g.at.0 c.requires)
