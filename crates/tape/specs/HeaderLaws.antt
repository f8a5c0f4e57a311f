-- Laws of the header: what it means that it is in order, and what leaves it so.
use Rattle.std.specs.Prelude.{◌≡◌, Bool, true, List, ℕ, ◌≤◌, leb, eqb, length, get_or}
use Rattle.std.proofs.Common.{◌∙◌, arith, leb-true, eqb-true, le-leb, eq-eqb, length-set, get_or-set_same, get_or-set_other}
use Rattle.tape.specs.Both.{both}
use Rattle.tape.specs.Layout.{width}
use Rattle.tape.specs.Tape.{InOrder, used, room, headed, with_used}

-- headed says yes only where the header is in order
pub headed_in_order : {slim : Bool} (t : List ℕ) → headed slim t ≡ true → InOrder slim t
unfolding headed
headed_in_order {slim} t h =
    let a = both (leb 4 (length t)) _ h in
    let b = both (eqb (get_or t 1 0) 4) _ a.1 in
    let c = both (eqb (get_or t 2 0) (width slim)) _ b.1 in
    let d = both (eqb (get_or t 3 0) 0) _ c.1 in
    record {
      long = leb-true _ _ a.0;
      offset = eqb-true _ _ b.0;
      «width» = eqb-true _ _ c.0;
      last = eqb-true _ _ d.0;
      fits = leb-true _ _ d.1;
    }

-- and it says yes there
pub in_order_headed : {slim : Bool} (t : List ℕ) → InOrder slim t → headed slim t ≡ true
unfolding headed
in_order_headed {slim} t x =
    rw (le-leb 4 (length t) x.long, eq-eqb (get_or t 1 0) 4 x.offset, eq-eqb (get_or t 2 0) (width slim) x.width, eq-eqb (get_or t 3 0) 0 x.last) (le-leb _ _ x.fits)

-- there is room for the used records
pub used_inside : {slim : Bool} (t : List ℕ) → InOrder slim t → used t ≤ room slim t
used_inside t x = x.fits

-- a header with another count
pub with_used_in_order : {slim : Bool} (t : List ℕ) (n : ℕ) → InOrder slim t → n ≤ room slim t → InOrder slim (with_used n t)
with_used_in_order t n x inside =
    record {
      long = rw length-set x.long;
      offset = get_or-set_other t 0 1 n 0 (omega arith) ∙ x.offset;
      «width» = get_or-set_other t 0 2 n 0 (omega arith) ∙ x.«width»;
      last = get_or-set_other t 0 3 n 0 (omega arith) ∙ x.last;
      fits = rw (get_or-set_same t 0 n 0 (omega (arith, x.long)), length-set) inside;
    }
