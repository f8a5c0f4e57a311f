-- One law for every loop that lays pieces one after the other, and then the array in front of them.
use Rattle.std.specs.Prelude.{◌≡◌, refl, Bool, List, [], ◌∷◌, ℕ, ◌+◌, ◌-◌, ◌≤◌, ◌<◌, length, take, drop}
use Rattle.std.proofs.Common.{sym, ap, ◌∙◌, add-zero, arith, length-drop, drop-drop}
use Rattle.tape.specs.Record.{container_record}
use Rattle.tape.specs.Tape.{room}
use Rattle.tape.specs.Forest.{Forest, size}
use Rattle.tape.specs.Laid.{Laid}
use Rattle.tape.proofs.Laying.{Laying, laying_start, laying_step, laying_end, laying_room, laying_inside}
use Rattle.store.specs.Pen.{HasRoom, HasRoomTo, Writes, Skips, Puts}
use Rattle.store.specs.PenLaws.{writes_node}
use Rattle.store.specs.declared.pen.Pen.{Pen}
use Rattle.meaning.specs.Tree.{content}
use Rattle.meaning.specs.Cut.{Measure, pieces, total, each}
use Rattle.meaning.specs.PlaceLaws.{left, more, left_step, more_step, left_end, more_end}
use Rattle.fields.specs.Shows.{WritesUpTo, array_by}

-- pieces cut by m out of s, whose first octet stands at base, are laid by the pen p, one by one, which made it q; these octets are left, the first at place
pub record Cutting {L : Type 0} (slim : Bool) (m : Measure) (f : List ℕ → ℕ → Forest) (base : ℕ) (s : List ℕ) (p q : Pen L) (octets : List ℕ) (place : ℕ) : Type 0 where
  pub cut : ℕ
  pub inside : cut ≤ length s
  pub rest : octets ≡ drop cut s
  pub there : place ≡ base + cut
  pub tape : q.tape.ghost_name ≡ p.tape.ghost_name
  pub laying : Laying slim (left m f base s) (more m f base s) p.tape.now q.tape.now p.next.0 cut q.next.0

-- before the first turn
pub cutting_start : {L : Type 0} {slim : Bool} (m : Measure) (f : List ℕ → ℕ → Forest) (base : ℕ) (s : List ℕ) (p : Pen L) → Cutting slim m f base s p p s base
cutting_start m f base s p =
    record { cut = 0; inside = omega arith; rest = refl; there = sym (add-zero base); tape = refl; laying = laying_start (left m f base s) (more m f base s) p.tape.now p.next.0 }

-- what is left lies inside s, and its octets where those of s do
pub cutting_inside : {L : Type 0} {slim : Bool} {m : Measure} {f : List ℕ → ℕ → Forest} {base : ℕ} {s octets : List ℕ} {place : ℕ} {p q : Pen L} (c : Cutting slim m f base s p q octets place)
    → (length octets ≤ length s) × (base ≤ place) × (place + length octets ≡ base + length s)
cutting_inside {s = s} {octets = octets} c =
    let left : length octets ≡ length (drop c.cut s) = ap length c.rest in
    (omega (arith, left, length-drop c.cut s), omega (arith, c.there), omega (arith, c.there, left, length-drop c.cut s, c.inside))

module _ {m : Measure} (fits : (xs : List ℕ) → m xs ≤ length xs) {f : List ℕ → ℕ → Forest} {base place : ℕ} {s octets : List ℕ} {L : Type 0} {slim : Bool} {p q : Pen L} where
  -- one turn, over a piece of w octets
  pub cutting_step : {r : Pen L} (w : ℕ) → Cutting slim m f base s p q octets place → m octets ≡ w → 0 < w → Writes slim (f (take w octets) place) q r
      → Cutting slim m f base s p r (drop w octets) (place + w)
  cutting_step {r} w c is some wrote =
      let here : m (drop c.cut s) ≡ w = rw c.rest at is in
      let piece : Laid slim (f (take w (drop c.cut s)) (base + c.cut)) q.tape.now r.tape.now q.next.0 r.next.0 = rw (c.rest, c.there) at wrote.laid in
      record {
        cut = c.cut + w;
        inside = omega (arith, c.inside, rw here at (fits (drop c.cut s)), length-drop c.cut s);
        rest = rw c.rest (drop-drop w c.cut s);
        there = omega (arith, c.there);
        tape = wrote.tape ∙ c.tape;
        laying = laying_step (c.cut + w) (f (take w (drop c.cut s)) (base + c.cut)) c.laying (left_step m fits f base s c.cut w here some) (more_step m fits f base s c.cut w here some) piece;
      }

  -- the room that a turn has, where the array has room
  pub cutting_room : {o : Pen L} (label registry w : ℕ) → HasRoom slim o (size (array_by label registry f base (pieces m s))) → Skips slim 1 o p → Cutting slim m f base s p q octets place → m octets ≡ w → 0 < w
      → HasRoom slim q (size (f (take w octets) place))
  cutting_room {o} label registry w asked skipped c is some =
      let here : m (drop c.cut s) ≡ w = rw c.rest at is in
      let piece : Forest = f (take w (drop c.cut s)) (base + c.cut) in
      let turn = laying_room (c.cut + w) piece c.laying (left_step m fits f base s c.cut w here some) in
      let whole = ap (λ (n : ℕ). size (each f n (pieces m s))) (add-zero base) in
      let kept : room slim q.tape.now ≡ room slim o.tape.now = c.laying.laid.same ∙ skipped.same in
      rw (c.rest, c.there) (record { fits = omega (arith, asked.fits, skipped.next, kept, turn, whole); small = omega (arith, asked.small, kept) })

  -- the room that the array's container has
  pub cutting_past : {o : Pen L} (label registry : ℕ) → HasRoom slim o (size (array_by label registry f base (pieces m s))) → Skips slim 1 o p → Cutting slim m f base s p q octets place
      → HasRoomTo slim q q.next.0 × (o.next.0 < q.next.0)
  cutting_past {o} label registry asked skipped c =
      let inside = laying_inside c.laying in
      let whole = ap (λ (n : ℕ). size (each f n (pieces m s))) (add-zero base) in
      let kept : room slim q.tape.now ≡ room slim o.tape.now = c.laying.laid.same ∙ skipped.same in
      (record { fits = omega (arith, asked.fits, skipped.next, kept, inside.1, whole); small = omega (arith, asked.small, kept) }, omega (arith, inside.0, skipped.next))

  -- after the last turn the array is put in front
  pub cutting_end : {o r : Pen L} {covered : ℕ} (label registry : ℕ) → Skips slim 1 o p → Cutting slim m f base s p q octets place → m octets ≡ 0
      → Puts slim o.next.0 (container_record (content label 7 registry (base + 0) (base + 0 + covered) 0) (o.next.0 + 1) q.next.0 ∷ []) q r → covered ≡ length s - length octets
      → WritesUpTo slim (total (pieces m s)) (array_by label registry f base (pieces m s)) o r covered
  cutting_end {o} {r} {covered} label registry skipped c stops put covers =
      let here : m (drop c.cut s) ≡ 0 = rw c.rest at stops in
      let e = laying_end c.laying (left_end m fits f base s c.cut here) (more_end m fits f base s c.cut here) in
      let laid : Writes slim (each f base (pieces m s)) p q = record { tape = c.tape; laid = rw add-zero at e.0 } in
      let all : covered ≡ total (pieces m s) = omega (arith, covers, ap length c.rest, length-drop c.cut s, c.inside, e.1) in
      record { covers = all; writes = rw (← all) (writes_node (content label 7 registry base (base + covered) 0) skipped laid (rw (add-zero base) at put)) }
