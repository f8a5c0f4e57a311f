-- The bit and the number, one after the other.
use Rattle.std.proofs.Common.{rules, refl}
use Rattle.tape.specs.Forest.{◌⧺◌}
use Rattle.store.specs.PenLaws.{writes_then, writes_none}
use Rattle.readings.specs.ReadingLaws.{reads_short, reads_long, asks_long}
use Rattle.readings.proofs.flag_and_number.Goals as goal

pub returns-then-value-lt4 : goal.returns-then-value-lt4
returns-then-value-lt4 g c = reads_short 4 c.args.value.octets.now _ c.args.pen.now c.if-value-lt4.true

pub flag-requires : goal.flag-requires
unfolding ◌⧺◌
flag-requires g c = let room = asks_long 4 c.args.value.octets.now _ c.args.pen.now c.if-value-lt4.false c.requires in search rules

pub number-requires : goal.number-requires
unfolding ◌⧺◌
number-requires g c = let room = asks_long 4 c.args.value.octets.now _ c.args.pen.now c.if-value-lt4.false c.requires in search rules

pub returns : goal.returns
returns g c = reads_long 4 c.args.value.octets.now c.if-value-lt4.false (record { taken = refl; writes = writes_then c.flag.ensures (writes_then c.number.ensures writes_none) })
