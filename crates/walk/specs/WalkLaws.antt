-- A walk and a push, out of their parts.
use Rattle.std.specs.Prelude.{◌≡◌, refl, Bool, List, [], ◌∷◌, ℕ, ◌+◌, ◌-◌, ◌^◌, ◌≤◌, ◌<◌, Some, None, length, take, drop}
use Rattle.std.proofs.Common.{ap, sym, ◌∙◌, arith, length-take-le}
use Rattle.tape.specs.Record.{container_record}
use Rattle.tape.specs.Forest.{Forest, size}
use Rattle.tape.specs.ForestLaws.{size-⧺}
use Rattle.store.specs.Pen.{HasRoom, HasRoomTo, Writes, Skips, Puts}
use Rattle.store.specs.PenLaws.{room_as, writes_as, writes_none, writes_then, room_behind}
use Rattle.store.specs.declared.pen.Pen.{Pen}
use Rattle.meaning.specs.Tree.{content, raw}
use Rattle.meaning.specs.Complete.{complete}
use Rattle.meaning.specs.CompleteLaws.{complete_is, complete_none}
use Rattle.meaning.specs.Cut.{pieces}
use Rattle.meaning.specs.Frame.{entry_length, entries, covered, remainder}
use Rattle.meaning.specs.FrameLaws.{entry_fits, entry_two, covered_none}
use Rattle.meaning.specs.Array.{array_of}
use Rattle.meaning.specs.Table.{usual}
use Rattle.meaning.specs.Value.{push_by}
use Rattle.meaning.specs.Area.{walk_trees, walked, pushed}
use Rattle.meaning.specs.AreaLaws.{walk_shows}
use Rattle.theorems.specs.TheCalls.{walk_again}
use Rattle.fields.specs.Shows.{WritesUpTo, array_by}
use Rattle.fields.specs.Cutting.{Cutting, cutting_step, cutting_inside, cutting_room, cutting_past, cutting_end}
use Rattle.walk.specs.Entry.{entry_in}

-- the same trees, up to the same octet
pub upto_as : {L : Type 0} {slim : Bool} {f g : Forest} {m n r : ℕ} {p q : Pen L} → m ≡ n → f ≡ g → WritesUpTo slim m f p q r → WritesUpTo slim n g p q r
upto_as a b h = record { covers = h.covers ∙ a; writes = writes_as (sym b) h.writes }

-- what another pen laid, which had the tape meanwhile
pub upto_of : {L : Type 0} {slim : Bool} {f : Forest} {m n : ℕ} {p q o r : Pen L} → o.tape ≡ p.tape → o.next.0 ≡ p.next.0 → r.tape ≡ q.tape → r.next.0 ≡ q.next.0
    → WritesUpTo slim m f o r n → WritesUpTo slim m f p q n
upto_of tape next left after h = record { covers = h.covers; writes = record { tape = rw (tape, left) at h.writes.tape; laid = rw (tape, next, left, after) at h.writes.laid } }

-- an area in registry k, whose first octet stands at base
module _ (k : ℕ) (area : List ℕ) (base : ℕ) where
  -- where it is empty, nothing is shown
  pub walk_none : {L : Type 0} {slim : Bool} (p : Pen L) → length area ≡ 0 → WritesUpTo slim (covered area) (walked usual k area base) p p 0
  unfolding walk_trees
  walk_none {L} {slim} p empty = go area empty
    where
      go : (a : List ℕ) → length a ≡ 0 → WritesUpTo slim (covered a) (walked usual k a base) p p 0
      go [] empty = record { covers = sym covered_none; writes = rw (walk_again k [] base) writes_none }
      go (x ∷ xs) empty = absurd (omega arith)

  -- otherwise it is the array of its entries
  pub walk_some : 0 < length area → walked usual k area base ≡ array_by 4 k (entry_in k) base (pieces entry_length area)
  unfolding array_of entries
  walk_some some = walk_again k area base ∙ walk_shows usual (walked usual) k area base (λ empty. omega (arith, ap length empty))

  -- entries are laid by the pen p, which made it q, behind a place that the pen o left free; octets are left, of which the first stands at place
  module _ {L : Type 0} {slim : Bool} {o p q : Pen L} {octets : List ℕ} {place : ℕ} (skipped : Skips slim 1 o p) (c : Cutting slim entry_length (entry_in k) base area p q octets place) where
    -- the entry that stands first has room, and its octets stand where those of the area do
    pub turn_room : {w : ℕ} → Some w ≡ complete (entry_length octets) → HasRoom slim o (size (walked usual k area base))
        → (2 ≤ length (take w octets)) × HasRoom slim q (size (entry_in k (take w octets) place)) × (base + length area < 2 ^ 32 → place + length (take w octets) < 2 ^ 32)
    turn_room {w} is room =
        let here = complete_is (entry_length octets) is in
        let inside = cutting_inside c in
        let fits : w ≤ length octets = omega (arith, here.0, entry_fits octets) in
        let long : length (take w octets) ≡ w = length-take-le w octets fits in
        let asked = room_as o (sym (walk_some (omega (arith, here, fits, inside.0)))) room in (
          omega (arith, long, here.0, entry_two octets here.1),
          cutting_room entry_fits 4 k w asked skipped c here.0 (omega (arith, here)),
          λ near. omega (arith, near, long, fits, inside),
        )

    -- a turn: the entry that stands first is laid, and there are the octets behind it
    pub turn_made : {r : Pen L} {w : ℕ} → Some w ≡ complete (entry_length octets) → Writes slim (entry_in k (take w octets) place) q r
        → Cutting slim entry_length (entry_in k) base area p r (drop w octets) (place + w)
    turn_made {w = w} is wrote = let here = complete_is (entry_length octets) is in cutting_step entry_fits w c here.0 (omega (arith, here)) wrote

    -- the room that the array has, up to the position after the entries
    pub area_past : 0 < length area → HasRoom slim o (size (walked usual k area base)) → HasRoomTo slim q q.next.0 × (o.next.0 < q.next.0)
    area_past some room = cutting_past entry_fits 4 k (room_as o (sym (walk_some some)) room) skipped c

    -- after the last entry the array is put in front
    pub walk_made : {r : Pen L} {n : ℕ} → 0 < length area → None ≡ complete (entry_length octets) → n ≡ length area - length octets
        → Puts slim o.next.0 (container_record (content 4 7 k (base + 0) (base + 0 + n) 0) (o.next.0 + 1) q.next.0 ∷ []) q r → WritesUpTo slim (covered area) (walked usual k area base) o r n
    unfolding covered entries
    walk_made some stops covers put = upto_as refl (sym (walk_some some)) (cutting_end entry_fits 4 k skipped c (complete_none (entry_length octets) stops) put covers)

  -- a push is the walk and the remainder
  push_is : pushed usual k area base ≡ push_by (walked usual) k area base
  unfolding pushed
  push_is = refl

  push_size : size (pushed usual k area base) ≡ size (walked usual k area base) + size (raw k (base + covered area) (drop (covered area) area))
  unfolding pushed push_by remainder
  push_size = size-⧺ (walked usual k area base) (raw k (base + covered area) (drop (covered area) area))

  -- the room that the walk has in a push
  pub push_room : {L : Type 0} {slim : Bool} (p : Pen L) → HasRoom slim p (size (pushed usual k area base)) → HasRoom slim p (size (walked usual k area base))
  push_room p asked = record { fits = omega (arith, asked.fits, push_size); small = asked.small }

  module _ {L : Type 0} {slim : Bool} {p q : Pen L} {n : ℕ} (walk : WritesUpTo slim (covered area) (walked usual k area base) p q n) where
    -- the room that the remainder has, behind the walk
    pub remainder_room : HasRoom slim p (size (pushed usual k area base)) → HasRoom slim q (size (raw k (base + n) (drop n area)))
    remainder_room asked = rw walk.covers (room_behind _ walk.writes asked (omega (arith, push_size)))

    -- the walk, and the remainder beside it
    pub push_made : {r : Pen L} → Writes slim (raw k (base + n) (drop n area)) q r → WritesUpTo slim (covered area) (pushed usual k area base) p r n
    unfolding pushed push_by remainder
    push_made rest = record { covers = walk.covers; writes = writes_then walk.writes (rw walk.covers at rest) }
