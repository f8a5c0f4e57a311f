-- How what functions that are handed a pen leave goes together.
use Rattle.std.specs.Prelude.{◌≡◌, refl, Bool, [], ◌∷◌, ℕ, ◌+◌, ◌≤◌}
use Rattle.std.proofs.Common.{◌∙◌, arith}
use Rattle.tape.specs.Record.{leaf_record, container_record}
use Rattle.tape.specs.Tape.{store}
use Rattle.tape.specs.Forest.{Forest, none, leaf, node, size, ◌⧺◌}
use Rattle.tape.specs.Laid.{Laid}
use Rattle.tape.proofs.LaidLaws.{laid_none, laid_then, laid_node, laid_container_of_two}
use Rattle.tape.specs.declared.Content.{Content}
use Rattle.store.specs.declared.pen.Pen.{Pen}
use Rattle.store.specs.Pen.{HasRoom, Writes, Skips, Puts}

module _ {L : Type 0} {slim : Bool} where
  -- nothing
  pub writes_none : {p : Pen L} → Writes slim none p p
  writes_none = record { tape = refl; laid = laid_none }

  -- one after the other
  pub writes_then : {f g : Forest} {p q r : Pen L} → Writes slim f p q → Writes slim g q r → Writes slim (f ⧺ g) p r
  writes_then a b = record { tape = b.tape ∙ a.tape; laid = laid_then a.laid b.laid }

  -- a forest that is the same
  pub writes_as : {f g : Forest} {p q : Pen L} → f ≡ g → Writes slim g p q → Writes slim f p q
  writes_as e a = rw e a

  -- the room of a forest that is the same
  pub room_as : {f g : Forest} (p : Pen L) → f ≡ g → HasRoom slim p (size g) → HasRoom slim p (size f)
  room_as p e asked = rw e asked

  -- the room that is left once a forest is laid
  pub room_behind : {f : Forest} {p q : Pen L} {n : ℕ} (m : ℕ) → Writes slim f p q → HasRoom slim p n → size f + m ≤ n → HasRoom slim q m
  room_behind m a asked more = record { fits = omega (arith, asked.fits, a.laid.place, a.laid.same); small = omega (arith, asked.small, a.laid.same) }

  -- a place left free, children, and their container
  pub writes_node : (m : Content) {f : Forest} {p q r s : Pen L} → Skips slim 1 p q → Writes slim f q r → Puts slim p.next.0 (container_record m (p.next.0 + 1) r.next.0 ∷ []) r s → Writes slim (node m f none) p s
  unfolding store
  writes_node m {f} {p} {q} {r} {s} a b c =
      let laid : Laid slim f p.tape.now r.tape.now (p.next.0 + 1) r.next.0 = rw (← a.words, ← a.next) b.laid in
      record { tape = c.tape ∙ b.tape ∙ a.tape; laid = rw c.next (laid_node m laid c.words) }

  -- three places left free, children, and their container with two leaves in front of them
  pub writes_around : (m one other : Content) {f : Forest} {p q r s : Pen L} → Skips slim 3 p q → Writes slim f q r
      → Puts slim p.next.0 (container_record m (p.next.0 + 1) r.next.0 ∷ leaf_record one ∷ leaf_record other ∷ []) r s → Writes slim (node m (leaf one (leaf other f)) none) p s
  writes_around m one other {f} {p} {q} {r} {s} a b c =
      let laid : Laid slim f p.tape.now r.tape.now (p.next.0 + 3) r.next.0 = rw (← a.words, ← a.next) b.laid in
      record { tape = c.tape ∙ b.tape ∙ a.tape; laid = rw c.next (laid_container_of_two m one other laid c.words) }
