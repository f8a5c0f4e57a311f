-- Laws of putting and storing records.
use Rattle.std.specs.Prelude.{◌≡◌, ◌⊎◌, true, false, cond, get_or, set}
use Rattle.std.proofs.Math.Path.{refl, sym, ap}
use Rattle.std.proofs.Common.{◌∙◌, ⊎_elim, arith, le-leb, get_or-set_other}
use Rattle.std.proofs.Math.Logic.{inl, inr}
use Rattle.std.proofs.Math.Bool.{Bool}
use mathlib.Core.List.{List, [], ◌∷◌, ◌++◌}
use Prim.Native.Nat.{ℕ, suc, ◌+◌, ◌≤◌, ◌<◌}
use Rattle.std.proofs.Math.Nat.{add-zero}
use Rattle.std.proofs.Math.Numerals.{towards_suc}
use Rattle.std.proofs.Math.ListN.{length}
use Rattle.std.proofs.lemmas.List.Edits.{sets}
use Rattle.std.proofs.Math.Seq.{length-sets}
use Rattle.std.proofs.lemmas.List.{set_comm}
use Rattle.std.proofs.Math.Dec.{leb}
use Rattle.tape.specs.Layout.{width, word_of, words_of}
use Rattle.tape.specs.LayoutLaws.{length_words_of, word_before, word_mono}
use Rattle.tape.specs.Tape.{put_at, store}
use Rattle.tape.specs.declared.Record.{Record}

-- words set one by one

pub six_set : (t : List ℕ) (b : ℕ) (r : Record)
    → set (set (set (set (set (set t b r.tag) (b + 1) r.start.0) (b + 2) r.end.0) (b + 3) r.number) (b + 4) r.first.0) (b + 5) r.past.0 ≡ sets t b (words_of false r)
six_set t b r = simp towards_suc

pub four_set : (t : List ℕ) (b w x y z : ℕ) → set (set (set (set t b w) (b + 1) x) (b + 2) y) (b + 3) z ≡ sets t b (w ∷ x ∷ y ∷ z ∷ [])
four_set t b w x y z = simp towards_suc

-- sets

set_sets : (vs l : List ℕ) (i j a : ℕ) → j < i → sets (set l j a) i vs ≡ set (sets l i vs) j a
set_sets [] l i j a before = refl
set_sets (v ∷ vs) l i j a before = ap (λ (k : List ℕ). sets k (suc i) vs) (set_comm l j i a v (omega arith)) ∙ set_sets vs (set l i v) (suc i) j a (omega arith)

sets_sets : (us vs l : List ℕ) (i j : ℕ) → j + length us ≤ i → sets (sets l j us) i vs ≡ sets (sets l i vs) j us
sets_sets [] vs l i j before = refl
sets_sets (u ∷ us) vs l i j before = sets_sets us vs (set l j u) i (suc j) (omega arith) ∙ ap (λ (k : List ℕ). sets k (suc j) us) (set_sets vs l i j u (omega arith))

pub get_or_sets : (vs l : List ℕ) (i k : ℕ) → (k < i) ⊎ (i + length vs ≤ k) → get_or (sets l i vs) k 0 ≡ get_or l k 0
get_or_sets [] l i k outside = refl
get_or_sets (v ∷ vs) l i k outside =
    get_or_sets vs (set l i v) (suc i) k (⊎_elim (λ before. inl (omega arith)) (λ after. inr (omega arith)) outside)
    ∙ get_or-set_other l i k v 0 (⊎_elim (λ before. omega arith) (λ after. omega arith) outside)

-- cond

cond_length : (b : Bool) (x y : List ℕ) → length x ≡ length y → length (cond b x y) ≡ length y
cond_length true x y e = e
cond_length false x y e = refl

cond_cond : (a b : Bool) (x y z t : List ℕ) → cond a (cond b x y) (cond b z t) ≡ cond b (cond a x z) (cond a y t)
cond_cond true true x y z t = refl
cond_cond true false x y z t = refl
cond_cond false true x y z t = refl
cond_cond false false x y z t = refl

sets_cond : (b : Bool) (x y : List ℕ) (i : ℕ) (vs : List ℕ) → sets (cond b x y) i vs ≡ cond b (sets x i vs) (sets y i vs)
sets_cond true x y i vs = refl
sets_cond false x y i vs = refl

get_or_cond : (b : Bool) (x y : List ℕ) (k : ℕ) → get_or x k 0 ≡ get_or y k 0 → get_or (cond b x y) k 0 ≡ get_or y k 0
get_or_cond true x y k e = e
get_or_cond false x y k e = refl

module _ (slim : Bool) where
  -- put_at

  -- the length is kept
  pub length_put_at : (t : List ℕ) (at : ℕ) (r : Record) → length (put_at slim t at r) ≡ length t
  unfolding put_at
  length_put_at t at r = cond_length (leb (word_of slim at + width slim) (length t)) _ t (length-sets t (word_of slim at) (words_of slim r))

  -- a record written inside the tape
  pub put_inside : (t : List ℕ) (at b : ℕ) (r : Record) → b ≡ word_of slim at → b + width slim ≤ length t → sets t b (words_of slim r) ≡ put_at slim t at r
  unfolding put_at
  put_inside t at b r is inside = rw is (rw (le-leb (word_of slim at + width slim) (length t) (omega (arith, is))) refl)

  -- puts at two positions commute
  put_put : (t : List ℕ) (i j : ℕ) (a b : Record) → i < j → put_at slim (put_at slim t i a) j b ≡ put_at slim (put_at slim t j b) i a
  unfolding put_at
  put_put t i j a b before =
      let b' : ℕ = word_of slim i in
      let c : ℕ = word_of slim j in
      let us : List ℕ = words_of slim a in
      let vs : List ℕ = words_of slim b in
      let p : Bool = leb (b' + width slim) (length t) in
      let q : Bool = leb (c + width slim) (length t) in
      rw (cond_length p (sets t b' us) t (length-sets t b' us), cond_length q (sets t c vs) t (length-sets t c vs))
      (rw (sets_cond p (sets t b' us) t c vs, sets_cond q (sets t c vs) t b' us, sets_sets us vs t c b' (omega (arith, length_words_of slim a, word_before slim i j before)))
      (cond_cond q p _ _ _ _))

  -- a word outside a record that was put
  get_or_put_at : (t : List ℕ) (at : ℕ) (r : Record) (k : ℕ) → (k < word_of slim at) ⊎ (word_of slim at + width slim ≤ k) → get_or (put_at slim t at r) k 0 ≡ get_or t k 0
  unfolding put_at
  get_or_put_at t at r k outside =
      get_or_cond (leb (word_of slim at + width slim) (length t)) _ t k (get_or_sets (words_of slim r) t (word_of slim at) k (⊎_elim inl (λ after. inr (omega (arith, length_words_of slim r))) outside))

  -- store

  -- the length is kept
  pub length_store : (rs : List Record) (t : List ℕ) (at : ℕ) → length (store slim t at rs) ≡ length t
  unfolding store
  length_store [] t at = refl
  length_store (r ∷ rs) t at = length_store rs (put_at slim t at r) (suc at) ∙ length_put_at t at r

  -- some records and then others
  pub store_append : (xs ys : List Record) (t : List ℕ) (at : ℕ) → store slim t at (xs ++ ys) ≡ store slim (store slim t at xs) (at + length xs) ys
  unfolding store
  store_append [] ys t at = rw add-zero
  store_append (x ∷ xs) ys t at = store_append xs ys (put_at slim t at x) (suc at) ∙ ap (λ (n : ℕ). store slim (store slim (put_at slim t at x) (suc at) xs) n ys) (omega arith)

  -- a record put before others or after them is the same
  put_store : (rs : List Record) (t : List ℕ) (i at : ℕ) (r : Record) → i < at → store slim (put_at slim t i r) at rs ≡ put_at slim (store slim t at rs) i r
  unfolding store
  put_store [] t i at r before = refl
  put_store (x ∷ rs) t i at r before = ap (λ (k : List ℕ). store slim k (suc at) rs) (put_put t i at r x before) ∙ put_store rs (put_at slim t at x) i (suc at) r (omega arith)

  -- three records put one after the other
  pub put_three : (t : List ℕ) (at : ℕ) (a b c : Record) {u v w : List ℕ} → u ≡ put_at slim t at a → v ≡ put_at slim u (at + 1) b → w ≡ put_at slim v (at + 2) c
      → w ≡ store slim t at (a ∷ b ∷ c ∷ [])
  unfolding store
  put_three t at a b c e f g = g ∙ ap (λ (l : List ℕ). put_at slim l (at + 2) c) (f ∙ ap (λ (l : List ℕ). put_at slim l (at + 1) b) e) ∙ simp towards_suc

  -- records stored in front of others are stored with them
  pub store_front : (xs ys : List Record) (t : List ℕ) (at : ℕ) → store slim (store slim t (at + length xs) ys) at xs ≡ store slim t at (xs ++ ys)
  unfolding store
  store_front xs ys t at = go xs t at (at + length xs) (omega arith) ∙ sym (store_append xs ys t at)
    where
      go : (xs : List Record) (t : List ℕ) (at j : ℕ) → at + length xs ≤ j → store slim (store slim t j ys) at xs ≡ store slim (store slim t at xs) j ys
      go [] t at j before = refl
      go (x ∷ xs) t at j before = ap (λ (l : List ℕ). store slim l (suc at) xs) (sym (put_store ys t at j x (omega arith))) ∙ go xs (put_at slim t at x) (suc at) j (omega arith)

  -- a word outside the records that were stored
  pub get_or_store : (rs : List Record) (t : List ℕ) (at k : ℕ) → (k < word_of slim at) ⊎ (word_of slim (at + length rs) ≤ k) → get_or (store slim t at rs) k 0 ≡ get_or t k 0
  unfolding store
  get_or_store [] t at k outside = refl
  get_or_store (r ∷ rs) t at k outside =
      let next : word_of slim at + width slim ≤ word_of slim (suc at) = word_before slim at (suc at) (omega arith) in
      let last : word_of slim (suc at) ≤ word_of slim (at + length (r ∷ rs)) = word_mono slim (suc at) (at + length (r ∷ rs)) (omega arith) in
      let same : word_of slim (suc at + length rs) ≡ word_of slim (at + length (r ∷ rs)) = ap (word_of slim) (omega arith) in
      get_or_store rs (put_at slim t at r) (suc at) k (⊎_elim (λ before. inl (omega arith)) (λ after. inr (omega (arith, same))) outside)
      ∙ get_or_put_at t at r k (⊎_elim (λ before. inl (omega arith)) (λ after. inr (omega arith)) outside)
