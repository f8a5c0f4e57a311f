-- The laws by which contracts of functions that write records compose.
use Rattle.std.specs.Prelude.{◌≡◌, refl, Bool, List, [], ◌∷◌, ◌++◌, ◌⊎◌, ℕ, suc, ◌+◌, ◌≤◌, ◌<◌, length, get_or}
use Rattle.std.proofs.Common.{sym, ap, ◌∙◌, append-nil, inl, inr, ⊎_elim, add-one, arith}
use Rattle.tape.specs.Record.{leaf_record, container_record}
use Rattle.tape.specs.Layout.{word_of, room_of}
use Rattle.tape.specs.LayoutLaws.{room_inside}
use Rattle.tape.specs.Tape.{room, put_at, load, store}
use Rattle.tape.specs.TapeLaws.{length_put_at, store_append, store_front, length_store, get_or_store}
use Rattle.tape.specs.LoadLaws.{load_store, load_before}
use Rattle.tape.specs.Forest.{Forest, none, leaf, node, size, ◌⧺◌, flat}
use Rattle.tape.specs.ForestLaws.{size-⧺, length_flat, flat-⧺}
use Rattle.tape.specs.Near.{Near}
use Rattle.tape.specs.NearLaws.{near_kept}
use Rattle.tape.specs.Laid.{Laid}
use Rattle.tape.specs.declared.Content.{Content}
use Rattle.tape.specs.declared.Record.{Record}

-- a tape keeps its room

pub put_room : (slim : Bool) (t : List ℕ) (at : ℕ) (r : Record) {u : List ℕ} → u ≡ put_at slim t at r → room slim u ≡ room slim t
put_room slim t at r e = ap (room_of slim) (ap length e ∙ length_put_at slim t at r)

pub store_room : (slim : Bool) (t : List ℕ) (at : ℕ) (rs : List Record) {u : List ℕ} → u ≡ store slim t at rs → room slim u ≡ room slim t
store_room slim t at rs e = ap (room_of slim) (ap length e ∙ length_store slim rs t at)

-- what is laid

-- nothing
pub laid_none : {slim : Bool} {t : List ℕ} {at : ℕ} → Laid slim none t t at at
unfolding flat store
laid_none {slim} {t} {at} = record { place = omega arith; words = refl; same = refl }

-- a leaf
pub laid_leaf : {slim : Bool} (m : Content) {t u : List ℕ} {at : ℕ} → u ≡ put_at slim t at (leaf_record m) → Laid slim (leaf m none) t u at (at + 1)
unfolding flat store
laid_leaf {slim} m {t} {at = at} e = record { place = refl; words = e; same = put_room slim t at (leaf_record m) e }

-- one after the other
pub laid_then : {slim : Bool} {f g : Forest} {t u v : List ℕ} {at mid next : ℕ} → Laid slim f t u at mid → Laid slim g u v mid next → Laid slim (f ⧺ g) t v at next
laid_then {slim} {f} {g} {t} {u} {v} {at} {mid} {next} a b =
    record {
      place = omega (arith, size-⧺ f g, a.place, b.place);
      words =
          b.words
          ∙ ap (λ (n : ℕ). store slim u n (flat n g)) a.place
          ∙ ap (λ (l : List ℕ). store slim l (at + size f) (flat (at + size f) g)) a.words
          ∙ ap (λ (n : ℕ). store slim (store slim t at (flat at f)) (at + n) (flat (at + size f) g)) (sym (length_flat f at))
          ∙ sym (store_append slim (flat at f) (flat (at + size f) g) t at)
          ∙ ap (store slim t at) (sym (flat-⧺ f g at));
      same = b.same ∙ a.same;
    }

-- what stands behind some records, and then these in front of it
pub laid_front : {slim : Bool} {f k : Forest} {t u v : List ℕ} {at next : ℕ} (rs : List Record) → size f ≡ length rs + size k → flat at f ≡ rs ++ flat (at + length rs) k
    → Laid slim k t u (at + length rs) next → v ≡ store slim u at rs → Laid slim f t v at next
laid_front {slim} {k = k} {t} {u} {at = at} rs more is a e =
    record {
      place = omega (arith, more, a.place);
      words = e ∙ ap (λ (l : List ℕ). store slim l at rs) a.words ∙ store_front slim rs (flat (at + length rs) k) t at ∙ ap (store slim t at) (sym is);
      same = store_room slim u at rs e ∙ a.same;
    }

-- the children, and then their container in front of them
pub laid_node : {slim : Bool} (m : Content) {k : Forest} {t u v : List ℕ} {at next : ℕ}
    → Laid slim k t u (at + 1) next → v ≡ put_at slim u at (container_record m (at + 1) next) → Laid slim (node m k none) t v at next
unfolding flat store
laid_node m {k} {at = at} {next} a = laid_front (container_record m (at + 1) next ∷ []) (omega arith) (rw (a.place, add-one at, append-nil (flat (suc at) k)) refl) a

-- what stands behind two leaves, and then the container of all these and the leaves in front of it
pub laid_container_of_two : {slim : Bool} (m a b : Content) {k : Forest} {t u v : List ℕ} {at next : ℕ} → Laid slim k t u (at + 3) next
    → v ≡ store slim u at (container_record m (at + 1) next ∷ leaf_record a ∷ leaf_record b ∷ []) → Laid slim (node m (leaf a (leaf b k)) none) t v at next
unfolding flat
laid_container_of_two m a b {k} {at = at} {next} laid =
    let behind : suc at + suc (suc (size k)) ≡ next = omega (arith, laid.place) in
    let third : suc (suc (suc at)) ≡ at + 3 = omega arith in
    laid_front (container_record m (at + 1) next ∷ leaf_record a ∷ leaf_record b ∷ []) (omega arith) (rw (append-nil (flat (suc (suc (suc at))) k), behind, third, add-one at) refl) laid

-- a container and two leaves, and then a third leaf behind them
pub laid_container_of_leaves : {slim : Bool} (m a b c : Content) {t u v : List ℕ} {at : ℕ} → u ≡ store slim t at (container_record m (at + 1) (at + 4) ∷ leaf_record a ∷ leaf_record b ∷ [])
    → v ≡ put_at slim u (at + 3) (leaf_record c) → Laid slim (node m (leaf a (leaf b (leaf c none))) none) t v at (at + 4)
unfolding flat store
laid_container_of_leaves {slim} m a b c {t} {u} {at = at} e f =
    let third : suc (suc (suc at)) ≡ at + 3 = omega arith in
    let past : suc at + 3 ≡ at + 4 = omega arith in
    record {
      place = refl;
      words = f ∙ ap (λ (l : List ℕ). put_at slim l (at + 3) (leaf_record c)) e ∙ rw (past, third, add-one at) refl;
      same = put_room slim u (at + 3) (leaf_record c) f ∙ store_room slim t at (container_record m (at + 1) (at + 4) ∷ leaf_record a ∷ leaf_record b ∷ []) e;
    }

-- the length of the tape is kept
pub laid_length : {slim : Bool} {f : Forest} {t u : List ℕ} {at next : ℕ} → Laid slim f t u at next → length u ≡ length t
laid_length {slim} {f} {t} {u} {at} a = ap length a.words ∙ length_store slim (flat at f) t at

-- where there is room, what was laid is read back
pub laid_load : {slim : Bool} {f : Forest} {t u : List ℕ} {at next : ℕ} → Laid slim f t u at next → Near f → 4 ≤ length t → next ≤ room slim t → load slim u at (size f) ≡ flat at f
laid_load {slim} {f} {t} {u} {at} {next} a near long fits =
    let ends : at + length (flat at f) ≡ next = omega (arith, length_flat f at, a.place) in
    ap (λ (l : List ℕ). load slim l at (size f)) a.words
    ∙ ap (load slim (store slim t at (flat at f)) at) (sym (length_flat f at))
    ∙ load_store slim (flat at f) t at (near_kept slim f at (length t) near (omega (arith, a.place))) (rw ends (room_inside slim (length t) next long fits))

-- every other word is as before
pub laid_other : {slim : Bool} {f : Forest} {t u : List ℕ} {at next : ℕ} (k : ℕ) → Laid slim f t u at next → (k < word_of slim at) ⊎ (word_of slim next ≤ k) → get_or u k 0 ≡ get_or t k 0
laid_other {slim} {f} {t} {u} {at} {next} k a outside =
    let ends : at + length (flat at f) ≡ next = omega (arith, length_flat f at, a.place) in
    ap (λ (l : List ℕ). get_or l k 0) a.words
    ∙ get_or_store slim (flat at f) t at k (⊎_elim inl (λ after. inr (rw ends after)) outside)

-- the records before are as before
pub laid_before : {slim : Bool} {f : Forest} {t u : List ℕ} {at next : ℕ} (i n : ℕ) → Laid slim f t u at next → i + n ≤ at → load slim u i n ≡ load slim t i n
laid_before {slim} {f} {t} {u} {at} i n a before = ap (λ (l : List ℕ). load slim l i n) a.words ∙ load_before slim n (flat at f) t at i before
