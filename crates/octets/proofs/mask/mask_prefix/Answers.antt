-- Each part is that of the law `masked_parts`: whole octets kept, one octet cut, the rest zero.
use native.Mathlib.Omega.{arith}
use mathlib.Core.Path.{sym}
use Rattle.octets.specs.MaskLaws.{masked_past, mask_made}
use Rattle.octets.proofs.mask.mask_prefix.Goals as goal

pub returns-then-prefix-whole : goal.returns-then-prefix-whole
returns-then-prefix-whole c = let a = c.args in record { left = sym (masked_past a.bits a.prefix.now (omega arith)) }

pub returns : goal.returns
returns c =
    let a = c.args in
    mask_made a.bits a.prefix.now (omega arith) (λ i. (c.slice_known-2-1.given i).fits) c.cut.result c.zero.new.octets c.cut.ensures c.zero.ensures
