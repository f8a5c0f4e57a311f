-- An octet more in each turn.
use Rattle.std.proofs.Common.{refl, arith}
use Rattle.octets.specs.BigEndian.{big_endian}
use Rattle.octets.specs.BigEndianLaws.{width_most, octet_more, one_more, one_more_fits}
use Rattle.octets.proofs.read.read_be.Goals as goal

pub loop-i-init : goal.loop-i-init
unfolding big_endian
loop-i-init g c = (refl, omega arith)

pub overflow_mul-number : goal.overflow_mul-number
overflow_mul-number g c =
    let few = width_most g.row.WIDTH c.requires.0 in
    omega (arith, one_more_fits c.loop-i.number c.loop-i.i 0 (omega (arith, few, c.loop-i-test.true)) c.loop-i.invariant.1 (omega arith))

pub overflow_add-number-in-loop-i : goal.overflow_add-number-in-loop-i
overflow_add-number-in-loop-i g c =
    let few = width_most g.row.WIDTH c.requires.0 in
    record { fits = one_more_fits c.loop-i.number c.loop-i.i _ (omega (arith, few, c.loop-i-test.true)) c.loop-i.invariant.1 (c.type_inv.s _).fits }

pub loop-i-preserved : goal.loop-i-preserved
loop-i-preserved g c =
    let few = width_most g.row.WIDTH c.requires.0 in (
      octet_more c.args.s.now c.args.at c.loop-i.i _ (omega (arith, few, c.loop-i-test.true)) c.loop-i.invariant.0,
      one_more c.loop-i.number c.loop-i.i _ (omega (arith, few, c.loop-i-test.true)) c.loop-i.invariant.1 (c.type_inv.s _).fits,
    )
