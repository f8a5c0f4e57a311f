-- The words are written from the first on.
use mathlib.Core.Path.{◌∙◌}
use native.Mathlib.Omega.{arith}
use lib.ListN.{length}
use Rattle.tape.specs.LayoutLaws.{room_one}
use Rattle.tape.specs.TapeLaws.{put_inside}
use Rattle.tape.proofs.LaidLaws.{put_room}
use Rattle.store.proofs.words.put.Goals as goal

pub write-requires : goal.write-requires
write-requires c =
    let g = c.args in
    (omega (arith, c.first_word-b.ensures.0, room_one g.slim (length g.tape.now) g.at.0 (omega (arith, c.requires.0))), c.requires.1)

pub returns : goal.returns
returns c =
    let placed = c.first_word-b.ensures.0 in
    let g = c.args in
    let inside = room_one g.slim (length g.tape.now) g.at.0 (omega (arith, c.requires)) in
    let made = c.write.ensures ∙ put_inside g.slim _ _ _ _ placed (omega (arith, placed, inside)) in
    (made, put_room g.slim _ _ _ made)
