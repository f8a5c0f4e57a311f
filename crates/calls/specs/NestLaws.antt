-- The nest test record by record: what the turns of its loop go by.
use Rattle.std.specs.Prelude.{◌≡◌, Bool, true, false, ◌&&◌, cond, List, ◌≢◌, ◌⊎◌, leb, eqb}
use Rattle.std.proofs.Math.Path.{refl}
use Rattle.std.proofs.Common.{sym, ◌∙◌, inl, inr, arith}
use Prim.Native.Nat.{ℕ, zero, suc, ◌+◌, ◌-◌, ◌≤◌, ◌<◌}
use borrow.Author.Tests.{le-leb, lt-leb, leb-true, leb-false, eqb-true, eq-eqb}
use Rattle.tape.specs.Both.{both}
use Rattle.tape.specs.Record.{shape_of, holds}
use Rattle.tape.specs.Tape.{record_at}
use Rattle.calls.specs.Nest.{is_leaf, is_container, trees_in, trees}
use Rattle.tape.specs.declared.Record.{Record}

-- where the children of a container end
pub record Ends (r : Record) (at end : ℕ) : Type 0 where
  pub first : r.first.0 ≡ at + 1
  pub after : at + 1 ≤ r.past.0
  pub inside : r.past.0 ≤ end

-- a container's do
pub container_ends : (r : Record) (at end : ℕ) → is_container r at end ≡ true → Ends r at end
container_ends r at end h =
    let a = both (eqb r.first.0 (at + 1)) _ h in
    let b = both (leb (at + 1) r.past.0) _ a.1 in
    record { first = eqb-true _ _ a.0; after = leb-true _ _ b.0; inside = leb-true _ _ b.1 }

-- and where they end so, it is one
pub ends_container : (r : Record) (at end : ℕ) → r.first.0 ≡ at + 1 → at + 1 ≤ r.past.0 → r.past.0 ≤ end → is_container r at end ≡ true
ends_container r at end first after inside = rw (eq-eqb r.first.0 (at + 1) first, le-leb (at + 1) r.past.0 after, le-leb r.past.0 end inside) refl

-- trees_in

cond_same : (b : Bool) {x x' y y' : Bool} → (b ≡ true → x ≡ x') → (b ≡ false → y ≡ y') → cond b x y ≡ cond b x' y'
cond_same true p q = p refl
cond_same false p q = q refl

and_same : (a : Bool) {x y : Bool} → (a ≡ true → x ≡ y) → (a && x) ≡ (a && y)
and_same true p = p refl
and_same false p = refl

module _ (slim : Bool) where
  -- one record of trees_in, with the tests of the records inside it and after it
  abbrev one : List ℕ → ℕ → ℕ → ℕ → (ℕ → Bool) → (ℕ → Bool) → Bool
  one t d at end inner after =
      cond (holds (shape_of (record_at slim t at)))
      (leb 1 d && (is_container (record_at slim t at) at end && (inner (record_at slim t at).past.0 && after (record_at slim t at).past.0)))
      (is_leaf (record_at slim t at) && after (at + 1))

  -- it depends on those tests only where they speak of what lies between this record and the end
  one_same : (t : List ℕ) (d at end : ℕ) {inner inner' after after' : ℕ → Bool}
      → at < end
      → ((past : ℕ) → at + 1 ≤ past → past ≤ end → inner past ≡ inner' past)
      → ((past : ℕ) → at + 1 ≤ past → past ≤ end → after past ≡ after' past)
      → one t d at end inner after ≡ one t d at end inner' after'
  one_same t d at end below same-inner same_after =
      let r : Record = record_at slim t at in
      cond_same (holds (shape_of r))
      (λ _. and_same (leb 1 d) (λ _. and_same (is_container r at end) (λ h.
      let e = container_ends r at end h in
      rw (same-inner r.past.0 e.after e.inside, same_after r.past.0 e.after e.inside) refl)))
      (λ _. and_same (is_leaf r) (λ _. same_after (at + 1) (omega arith) (omega arith)))

  -- more than enough is the same
  enough : (n m : ℕ) (t : List ℕ) (d at end : ℕ) → end ≤ at + n → end ≤ at + m → trees_in slim n t d at end ≡ trees_in slim m t d at end
  unfolding trees_in
  enough zero zero t d at end h k = refl
  enough zero (suc m) t d at end h k = simp (le-leb end at (omega arith))
  enough (suc n) zero t d at end h k = simp (le-leb end at (omega arith))
  enough (suc n) (suc m) t d at end h k =
      cond_same (leb end at) (λ _. refl) (λ more.
      let below : at < end = leb-false end at more in
      one_same t d at end below
      (λ past after inside. enough n m t (d - 1) (at + 1) past (omega arith) (omega arith))
      (λ past after inside. enough n m t d past end (omega arith) (omega arith)))

  -- trees

  -- no record is left
  pub trees_none : (t : List ℕ) (d at end : ℕ) → end ≤ at → trees slim t d at end ≡ true
  unfolding trees trees_in
  trees_none t d at end past = enough (end - at) 0 t d at end (omega arith) (omega arith) ∙ le-leb end at past

  -- one record more
  pub trees_one : (t : List ℕ) (d at end : ℕ) → at < end
      → trees slim t d at end ≡ cond (holds (shape_of (record_at slim t at)))
      (leb 1 d && (is_container (record_at slim t at) at end && (trees slim t (d - 1) (at + 1) (record_at slim t at).past.0 && trees slim t d (record_at slim t at).past.0 end)))
      (is_leaf (record_at slim t at) && trees slim t d (at + 1) end)
  unfolding trees trees_in
  trees_one t d at end below =
      enough (end - at) (suc (end - at)) t d at end (omega arith) (omega arith)
      ∙ rw (lt-leb end at below)
      (one_same t d at end below
      (λ past after inside. enough (end - at) (past - (at + 1)) t (d - 1) (at + 1) past (omega arith) (omega arith))
      (λ past after inside. enough (end - at) (end - past) t d past end (omega arith) (omega arith)))

  -- one record more, case by case
  module _ (t : List ℕ) (d at end : ℕ) (below : at < end) where
    module _ (holding : holds (shape_of (record_at slim t at)) ≡ true) where
      -- a container where none may be
      pub too_deep : d ≡ 0 → false ≡ trees slim t d at end
      too_deep none = sym (trees_one t d at end below ∙ rw (holding, none) refl)

      module _ (deep : d ≢ 0) where
        -- a container whose words 4 and 5 are not as they must be
        pub bad_container : is_container (record_at slim t at) at end ≡ false → false ≡ trees slim t d at end
        bad_container bad = sym (trees_one t d at end below ∙ rw (holding, le-leb 1 d (omega arith), bad) refl)

        module _ (good : is_container (record_at slim t at) at end ≡ true) where
          -- a container whose children do not split into trees
          pub bad_children : trees slim t (d - 1) (at + 1) (record_at slim t at).past.0 ≡ false → false ≡ trees slim t d at end
          bad_children bad = sym (trees_one t d at end below ∙ rw (holding, le-leb 1 d (omega arith), good, bad) refl)

          -- a container whose children do
          pub past_container : trees slim t (d - 1) (at + 1) (record_at slim t at).past.0 ≡ true → trees slim t d (record_at slim t at).past.0 end ≡ trees slim t d at end
          past_container split = sym (trees_one t d at end below ∙ rw (holding, le-leb 1 d (omega arith), good, split) refl)

    module _ (alone : holds (shape_of (record_at slim t at)) ≡ false) where
      -- a leaf whose words 4 and 5 are not zero
      pub bad_leaf : is_leaf (record_at slim t at) ≡ false → false ≡ trees slim t d at end
      bad_leaf bad = sym (trees_one t d at end below ∙ rw (alone, bad) refl)

      -- a leaf whose words 4 and 5 are
      pub past_leaf : is_leaf (record_at slim t at) ≡ true → trees slim t d (at + 1) end ≡ trees slim t d at end
      past_leaf good = sym (trees_one t d at end below ∙ rw (alone, good) refl)

  -- one record of a span of which the nest test says yes

  -- a leaf, and a yes of what is after it
  pub record AsLeaf (t : List ℕ) (d at end : ℕ) : Type 0 where
    pub alone : holds (shape_of (record_at slim t at)) ≡ false
    pub empty : is_leaf (record_at slim t at) ≡ true
    pub after : trees slim t d (at + 1) end ≡ true

  -- a container, and a yes of what is in it and of what is after it
  pub record AsContainer (t : List ℕ) (d at end : ℕ) : Type 0 where
    pub holding : holds (shape_of (record_at slim t at)) ≡ true
    pub deep : 1 ≤ d
    pub ends : Ends (record_at slim t at) at end
    pub inner : trees slim t (d - 1) (at + 1) (record_at slim t at).past.0 ≡ true
    pub after : trees slim t d (record_at slim t at).past.0 end ≡ true

  -- it is one or the other
  pub trees_cases : (t : List ℕ) (d at end : ℕ) → at < end → trees slim t d at end ≡ true → AsLeaf t d at end ⊎ AsContainer t d at end
  trees_cases t d at end below yes' = go (holds (shape_of r)) refl (sym (trees_one t d at end below) ∙ yes')
    where
      r : Record
      r = record_at slim t at

      children : Bool
      children = trees slim t (d - 1) (at + 1) r.past.0 && trees slim t d r.past.0 end

      go : (b : Bool) → holds (shape_of r) ≡ b → cond b (leb 1 d && (is_container r at end && children)) (is_leaf r && trees slim t d (at + 1) end) ≡ true → AsLeaf t d at end ⊎ AsContainer t d at end
      go false alone h =
          let x = both (is_leaf r) (trees slim t d (at + 1) end) h in
          inl (record { alone = alone; empty = x.0; after = x.1 })
      go true holding h =
          let x = both (leb 1 d) (is_container r at end && children) h in
          let y = both (is_container r at end) children x.1 in
          let z = both (trees slim t (d - 1) (at + 1) r.past.0) (trees slim t d r.past.0 end) y.1 in
          inr (record { holding = holding; deep = leb-true 1 d x.0; ends = container_ends r at end y.0; inner = z.0; after = z.1 })
