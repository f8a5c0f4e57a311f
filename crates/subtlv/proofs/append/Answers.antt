-- The records are laid behind the used ones, and counted.
use native.Mathlib.Omega.{arith}
use Rattle.std.proofs.Common.{rules}
use Rattle.subtlv.specs.CallLaws.{laid_long, appended_made}
use Rattle.subtlv.proofs.append.Goals as goal

pub count_in-requires : goal.count_in-requires
count_in-requires g c =
    let laid = c.lay-covered.ensures.writes.laid in
    (laid_long c.requires.0 laid, omega (arith, laid.place))

pub returns : goal.returns
returns g c =
    let lay = c.lay-covered.ensures in
    appended_made c.used-at.ensures lay.covers lay.writes.laid c.count_in.ensures.0 (search rules)
