-- The nest test says yes of a span of records exactly where they are those of a forest.
use Rattle.std.specs.Prelude.{◌≡◌, Bool, eqb, length, take, drop}
use Rattle.std.proofs.Math.Path.{refl, sym, ap}
use Rattle.std.proofs.Common.{◌∙◌, ⊎_elim, take_at, drop_at, eqb-true}
use Rattle.std.proofs.Math.Bool.{true, false}
use mathlib.Core.List.{List, ◌∷◌, ◌++◌, head-eq_of_cons-eq, tail-eq_of_cons-eq}
use Prim.Native.Nat.{ℕ, zero, suc, ◌+◌, ◌-◌, ◌≤◌, ◌<◌}
use Rattle.std.proofs.Math.Decide.{dec_le}
use Rattle.std.proofs.Math.Numerals.{add-one}
use native.Mathlib.Omega.{arith}
use Rattle.tape.specs.Both.{both}
use Rattle.tape.specs.Record.{shape_of, holds, container_record, content_of}
use Rattle.tape.specs.RecordLaws.{made_of_content, shape_made}
use Rattle.tape.specs.Tape.{record_at, load}
use Rattle.tape.specs.LoadLaws.{load_from, load_append, length_load}
use Rattle.tape.specs.Forest.{Forest, none, leaf, node, size, flat, depth, Fits, Formed}
use Rattle.tape.specs.ForestLaws.{length_flat}
use Rattle.calls.specs.Nest.{is_leaf, is_container, trees}
use Rattle.calls.specs.NestLaws.{Ends, ends_container, trees_none, trees_cases, past_container, past_leaf}
use Rattle.calls.specs.WellNested.{Split}
use Rattle.tape.specs.declared.Content.{Content}
use Rattle.tape.specs.declared.Record.{Record}

module _ (slim : Bool) where
  -- the nest test says yes only where there is such a forest

  -- a forest has as many records as it is held in
  pub size_held : (t : List ℕ) (at n : ℕ) (f : Forest) → load slim t at n ≡ flat at f → n ≡ size f
  size_held t at n f held = sym (length_load slim n t at) ∙ ap length held ∙ length_flat f at

  -- no record
  split_none : (t : List ℕ) (d at end : ℕ) → end ≤ at → Split slim t d at end
  unfolding load flat depth Formed
  split_none t d at end past =
      let left : end - at ≡ 0 = omega arith in
      record { forest = none; held = rw left refl; shallow = omega arith; formed = tt }

  -- a leaf and the trees after it
  split_leaf : (t : List ℕ) (d at end : ℕ) → at < end → holds (shape_of (record_at slim t at)) ≡ false → is_leaf (record_at slim t at) ≡ true → Split slim t d (at + 1) end → Split slim t d at end
  unfolding flat depth Formed
  split_leaf t d at end below alone empty after =
      let r : Record = record_at slim t at in
      let words = both (eqb r.first.0 0) (eqb r.past.0 0) empty in
      record {
        forest = leaf (content_of r) after.forest;
        held =
            load_from slim t at end below
            ∙ ap (λ (l : List Record). r ∷ l) (after.held ∙ rw (add-one at) refl)
            ∙ ap (λ (x : Record). x ∷ flat (suc at) after.forest) (made_of_content r 0 0 (eqb-true r.first.0 0 words.0) (eqb-true r.past.0 0 words.1));
        shallow = after.shallow;
        formed = (record { label = omega arith; shape = omega arith; kind = alone }, after.formed);
      }

  -- a container, the trees in it and the trees after it
  split_node : (t : List ℕ) (d at end : ℕ) → at < end → 1 ≤ d → holds (shape_of (record_at slim t at)) ≡ true → Ends (record_at slim t at) at end
      → Split slim t (d - 1) (at + 1) (record_at slim t at).past.0 → Split slim t d (record_at slim t at).past.0 end → Split slim t d at end
  unfolding flat depth Formed
  split_node t d at end below deep holding ends inner after =
      let r : Record = record_at slim t at in
      let past : ℕ = r.past.0 in
      let inside : past - (at + 1) ≡ size inner.forest = size_held t (at + 1) (past - (at + 1)) inner.forest inner.held in
      let first : r.first.0 ≡ suc at = ends.first ∙ add-one at in
      let last : r.past.0 ≡ suc at + size inner.forest = omega (arith, ends.after) in
      let held_inner : load slim t (at + 1) (past - (at + 1)) ≡ flat (suc at) inner.forest = inner.held ∙ ap (λ (n : ℕ). flat n inner.forest) (add-one at) in
      let count : end - (at + 1) ≡ past - (at + 1) + (end - past) = omega (arith, ends.after, ends.inside) in
      let next : at + 1 + (past - (at + 1)) ≡ past = omega (arith, ends.after) in
      record {
        forest = node (content_of r) inner.forest after.forest;
        held =
            load_from slim t at end below
            ∙ ap (λ (l : List Record). r ∷ l)
            (ap (load slim t (at + 1)) count
            ∙ load_append slim (past - (at + 1)) (end - past) t (at + 1)
            ∙ ap (λ (l : List Record). l ++ load slim t (at + 1 + (past - (at + 1))) (end - past)) held_inner
            ∙ ap (λ (n : ℕ). flat (suc at) inner.forest ++ load slim t n (end - past)) next
            ∙ ap (λ (l : List Record). flat (suc at) inner.forest ++ l) (after.held ∙ ap (λ (n : ℕ). flat n after.forest) last))
            ∙ ap (λ (x : Record). x ∷ (flat (suc at) inner.forest ++ flat (suc at + size inner.forest) after.forest)) (made_of_content r (suc at) (suc at + size inner.forest) first last);
        shallow = omega (arith, inner.shallow, after.shallow);
        formed = (record { label = omega arith; shape = omega arith; kind = holding }, (inner.formed, after.formed));
      }

  -- one record more, where the shorter spans behind it are split
  split_one : (t : List ℕ) (d at end : ℕ) → at < end → trees slim t d at end ≡ true
      → ((e past stop : ℕ) → at < past → stop ≤ end → trees slim t e past stop ≡ true → Split slim t e past stop)
      → Split slim t d at end
  split_one t d at end below yes' behind =
      ⊎_elim
      (λ x. split_leaf t d at end below x.alone x.empty (behind d (at + 1) end (omega arith) (omega arith) x.after))
      (λ x. split_node t d at end below x.deep x.holding x.ends
      (behind (d - 1) (at + 1) (record_at slim t at).past.0 (omega arith) x.ends.inside x.inner)
      (behind d (record_at slim t at).past.0 end (omega (arith, x.ends.after)) (omega arith) x.after))
      (trees_cases slim t d at end below yes')

  -- spans of up to n records
  splits : (n : ℕ) (t : List ℕ) (d at end : ℕ) → end ≤ at + n → trees slim t d at end ≡ true → Split slim t d at end
  splits zero t d at end bound yes' = split_none t d at end (omega arith)
  splits (suc n) t d at end bound yes' = go (dec_le end at) (λ below. split_one t d at end below yes' (λ e past stop after inside. splits n t e past stop (omega arith)))
    where
      go : Dec (end ≤ at) → (at < end → Split slim t d at end) → Split slim t d at end
      go (yes past) one = split_none t d at end past
      go (no more) one = one (omega arith)

  -- where the nest test says yes, the records are those of a forest
  pub trees_split : (t : List ℕ) (d at end : ℕ) → trees slim t d at end ≡ true → Split slim t d at end
  trees_split t d at end yes' = splits end t d at end (omega arith) yes'

  -- and where there is such a forest, it says yes

  -- the first record of some, and the others
  first_held : (t : List ℕ) (at n : ℕ) {r : Record} {rs : List Record} → load slim t at (suc n) ≡ r ∷ rs → (record_at slim t at ≡ r) × (load slim t (at + 1) n ≡ rs)
  unfolding load
  first_held t at n held = (head-eq_of_cons-eq held, rw (add-one at) (tail-eq_of_cons-eq held))

  -- some records, and those behind them
  both_held : (t : List ℕ) (at n m : ℕ) (rs ss : List Record) → length rs ≡ n → load slim t at (n + m) ≡ rs ++ ss → (load slim t at n ≡ rs) × (load slim t (at + n) m ≡ ss)
  both_held t at n m rs ss count held =
      let same : load slim t at n ++ load slim t (at + n) m ≡ rs ++ ss = sym (load_append slim n m t at) ∙ held in
      let front = load slim t at n in
      let back = load slim t (at + n) m in (
        sym (take_at front back n (length_load slim n t at)) ∙ ap (take n) same ∙ take_at rs ss n count,
        sym (drop_at front back n (length_load slim n t at)) ∙ ap (drop n) same ∙ drop_at rs ss n count,
      )

  -- a record has the shape of what it is made of
  kind_made : {kind : Bool} (m : Content) (first past : ℕ) {r : Record} → Fits kind m → r ≡ container_record m first past → holds (shape_of r) ≡ kind
  kind_made m first past fits made = ap (λ (x : Record). holds (shape_of x)) made ∙ ap holds (shape_made m first past fits.label fits.shape) ∙ fits.kind

  -- a forest's records pass
  trees_flat : (f : Forest) (t : List ℕ) (d at : ℕ) → load slim t at (size f) ≡ flat at f → depth f ≤ d → Formed f → trees slim t d at (at + size f) ≡ true
  unfolding flat depth Formed
  trees_flat none t d at held shallow formed = trees_none slim t d at (at + 0) (omega arith)
  trees_flat (leaf m f) t d at held shallow formed =
      let x = first_held t at (size f) held in
      let fits = formed.0 in
      let alone : holds (shape_of (record_at slim t at)) ≡ false = kind_made m 0 0 fits x.0 in
      let empty : is_leaf (record_at slim t at) ≡ true = ap is_leaf x.0 in
      sym (past_leaf slim t d at (at + suc (size f)) (omega arith) alone empty)
      ∙ ap (trees slim t d (at + 1)) (omega arith)
      ∙ trees_flat f t d (at + 1) (x.1 ∙ ap (λ (n : ℕ). flat n f) (sym (add-one at))) shallow formed.1
  trees_flat (node m k f) t d at held shallow formed =
      let next : suc at ≡ at + 1 = omega arith in
      let x = first_held t at (size k + size f) held in
      let past : ℕ = at + 1 + size k in
      let made : record_at slim t at ≡ container_record m (at + 1) past = x.0 ∙ ap (λ (n : ℕ). container_record m n (n + size k)) next in
      let ends : (record_at slim t at).past.0 ≡ past = ap (λ (r : Record). r.past.0) made in
      let y = both_held t (at + 1) (size k) (size f) (flat (at + 1) k) (flat past f) (length_flat k (at + 1)) (x.1 ∙ ap (λ (n : ℕ). flat n k ++ flat (n + size k) f) next) in
      let end : ℕ = at + suc (size k + size f) in
      let fits : is_container (record_at slim t at) at end ≡ true = ap (λ (r : Record). is_container r at end) made ∙ ends_container (container_record m (at + 1) past) at end refl (omega arith) (omega arith) in
      let inner : trees slim t (d - 1) (at + 1) past ≡ true = trees_flat k t (d - 1) (at + 1) y.0 (omega arith) formed.1.0 in
      let after : trees slim t d past (past + size f) ≡ true = trees_flat f t d past y.1 (omega arith) formed.1.1 in
      sym (past_container slim t d at end (omega arith) (kind_made m (at + 1) past formed.0 made) (omega arith) fits (ap (trees slim t (d - 1) (at + 1)) ends ∙ inner))
      ∙ ap (λ (n : ℕ). trees slim t d n end) ends
      ∙ ap (trees slim t d past) (omega arith)
      ∙ after

  -- where the records are those of a forest, the nest test says yes
  pub split_trees : (t : List ℕ) (d at end : ℕ) → at ≤ end → Split slim t d at end → trees slim t d at end ≡ true
  split_trees t d at end inside x =
      let count : end - at ≡ size x.forest = size_held t at (end - at) x.forest x.held in
      ap (trees slim t d at) (omega arith) ∙ trees_flat x.forest t d at (ap (load slim t at) (sym count) ∙ x.held) x.shallow x.formed
