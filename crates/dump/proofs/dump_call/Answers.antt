-- 10 by the length of the input, or the push.
use Rattle.std.proofs.Common.{refl, arith, length-drop}
use Rattle.octets.specs.BigEndianLaws.{big_endian_one}
use Rattle.outcome.specs.CallLaws.{gives_as}
use Rattle.meaning.specs.PlaceLaws.{part_rest}
use Rattle.meaning.specs.DumpLaws.{dump_short, dump_long, dump_push}
use Rattle.dump.proofs.dump_call.Goals as goal

pub returns-then-n-lt5 : goal.returns-then-n-lt5
returns-then-n-lt5 c = gives_as (dump_short _ _ c.if-n-lt5.true) (record { gave = refl; left = refl })

pub returns-then-n-gt-LONGEST : goal.returns-then-n-gt-LONGEST
returns-then-n-gt-LONGEST c =
    let input = c.args.input.now in
    gives_as (dump_long input _ (omega (arith, length-drop 5 input))) (record { gave = refl; left = refl })

pub returns : goal.returns
returns c =
    let input = c.args.input.now in
    let pushes = dump_push input c.args.tape.now (omega arith) (omega (arith, length-drop 5 input)) in
    gives_as pushes (rw (c.read_be-base.ensures.number, ← big_endian_one input 0, part_rest 5 input) at c.push.ensures)
