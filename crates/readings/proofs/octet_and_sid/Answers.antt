-- Two octets and the SID, one after the other.
use Rattle.std.proofs.Common.{rules, ap, sym, arith, ◌∙◌}
use Rattle.std.specs.Prelude.{Some}
use Rattle.tape.specs.Code.{label_code}
use Rattle.registry.specs.Registry.{number_of}
use Rattle.store.specs.PenLaws.{writes_as, writes_then, writes_none}
use Rattle.meaning.specs.Label
use Rattle.fields.specs.ShowsLaws.{sid_shown, sid_ends}
use Rattle.readings.specs.RowsLaws.{octet_and_sid_size}
use Rattle.readings.specs.ReadingLaws.{reads_short, reads_long}
use Rattle.readings.proofs.octet_and_sid.Goals as goal

pub returns-then-value-lt5 : goal.returns-then-value-lt5
returns-then-value-lt5 g c = reads_short 5 c.args.value.octets.now _ c.args.pen.now c.if-value-lt5.true

pub number-requires : goal.number-requires
number-requires g c =
    let v = c.args.value in
    let three = octet_and_sid_size (label_code c.args.label) (number_of v.registry) v.octets.now v.base.0 c.if-value-lt5.false in
    search rules

pub number-requires-2 : goal.number-requires-2
number-requires-2 g c =
    let v = c.args.value in
    let three = octet_and_sid_size (label_code c.args.label) (number_of v.registry) v.octets.now v.base.0 c.if-value-lt5.false in
    search rules

pub sid-requires : goal.sid-requires
sid-requires g c =
    let v = c.args.value in
    let three = octet_and_sid_size (label_code c.args.label) (number_of v.registry) v.octets.now v.base.0 c.if-value-lt5.false in
    search rules

pub returns : goal.returns
returns g c =
    let v = c.args.value in
    let shown = sid_shown v.octets.now 2 Label.sid (number_of v.registry) v.base.0 (omega arith) in
    let ends = sid_ends v.octets.now 2 (omega arith) in
    reads_long 5 v.octets.now c.if-value-lt5.false
    (record { taken = ap Some (c.sid.ensures.covers ∙ sym ends); writes = writes_then c.number.ensures (writes_then c.number-2.ensures (writes_then (writes_as shown c.sid.ensures.writes) writes_none)) })
