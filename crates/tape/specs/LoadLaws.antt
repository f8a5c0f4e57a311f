-- Records read back: what was stored is there, and every other record is as before.
use Rattle.std.specs.Prelude.{◌≡◌, ◌⊎◌, Bool, set}
use Rattle.std.proofs.Math.Path.{refl, ap}
use Rattle.std.proofs.Common.{◌∙◌, inl, inr, zero-add, add-zero, length-set, get_or-set_same, get_or-set_other, le-leb}
use mathlib.Core.List.{List, [], ◌∷◌, ◌++◌}
use Prim.Native.Nat.{ℕ, zero, suc, ◌+◌, ◌-◌, ◌≤◌, ◌<◌}
use Rattle.std.proofs.Math.Nat.{add-suc, suc-add}
use Rattle.std.proofs.Math.Numerals.{add-one}
use native.Mathlib.Omega.{arith}
use Rattle.std.proofs.Math.ListN.{length, get_or}
use Rattle.std.proofs.lemmas.List.Edits.{sets}
use Rattle.tape.specs.Layout.{width, word_of, words_of}
use Rattle.tape.specs.Near.{Kept, AllKept}
use Rattle.tape.specs.LayoutLaws.{length_words_of, word_before, word_mono, word_late, words_record, record_by_same}
use Rattle.tape.specs.Tape.{used, with_used, record_at, load, put_at, store}
use Rattle.tape.specs.TapeLaws.{length_put_at, get_or_sets, get_or_store}
use Rattle.tape.specs.declared.Record.{Record}

-- record_at

-- a word of those that were set
get_or_in : (vs l : List ℕ) (i k : ℕ) → i + length vs ≤ length l → k < length vs → get_or (sets l i vs) (i + k) 0 ≡ get_or vs k 0
get_or_in [] l i k fits inside = absurd (omega arith)
get_or_in (v ∷ vs) l i zero fits inside = rw add-zero (get_or_sets vs (set l i v) (suc i) i (inl (omega arith)) ∙ get_or-set_same l i v 0 (omega arith))
get_or_in (v ∷ vs) l i (suc k) fits inside = rw (add-suc i k, ← suc-add i k) (get_or_in vs (set l i v) (suc i) k (rw length-set (omega arith)) (omega arith))

module _ (slim : Bool) where
  -- what was put is there
  record_put : (t : List ℕ) (at : ℕ) (r : Record) → Kept slim r → word_of slim at + width slim ≤ length t → record_at slim (put_at slim t at r) at ≡ r
  unfolding put_at
  record_put t at r kept inside =
      let n = length_words_of slim r in
      let b : ℕ = word_of slim at in
      let ws : List ℕ = words_of slim r in
      rw (le-leb (b + width slim) (length t) inside)
      (record_by_same slim (λ (k : ℕ). get_or (sets t b ws) (b + k) 0) (λ (k : ℕ). get_or ws k 0) (λ k below. get_or_in ws t b k (omega (arith, n)) (omega (arith, n)))
      ∙ words_record slim r kept)

  -- where its words agree, so does the record
  pub record_same : (t u : List ℕ) (at : ℕ) → ((k : ℕ) → k < width slim → get_or t (word_of slim at + k) 0 ≡ get_or u (word_of slim at + k) 0) → record_at slim t at ≡ record_at slim u at
  record_same t u at same = record_by_same slim (λ (k : ℕ). get_or t (word_of slim at + k) 0) (λ (k : ℕ). get_or u (word_of slim at + k) 0) same

  -- a record outside those that were stored
  record_store : (rs : List Record) (t : List ℕ) (at i : ℕ) → (i < at) ⊎ (at + length rs ≤ i) → record_at slim (store slim t at rs) i ≡ record_at slim t i
  record_store rs t at i (inl before) =
      record_same (store slim t at rs) t i (λ k below. get_or_store slim rs t at (word_of slim i + k) (inl (omega (arith, word_before slim i at before))))
  record_store rs t at i (inr after) =
      record_same (store slim t at rs) t i (λ k below. get_or_store slim rs t at (word_of slim i + k) (inr (omega (arith, word_mono slim (at + length rs) i after))))

  -- load

  -- as many as were asked for
  pub length_load : (n : ℕ) (t : List ℕ) (at : ℕ) → length (load slim t at n) ≡ n
  unfolding load
  length_load zero t at = refl
  length_load (suc n) t at = ap suc (length_load n t (suc at))

  -- some records and then more
  pub load_append : (n m : ℕ) (t : List ℕ) (at : ℕ) → load slim t at (n + m) ≡ load slim t at n ++ load slim t (at + n) m
  unfolding load
  load_append zero m t at = rw (zero-add, add-zero) refl
  load_append (suc n) m t at = rw (suc-add n m, add-suc at n, ← suc-add at n) (ap (λ (k : List Record). record_at slim t at ∷ k) (load_append n m t (suc at)))

  -- tapes on which the records agree
  pub load_same : (n : ℕ) (t u : List ℕ) (at : ℕ) → ((i : ℕ) → at ≤ i → i < at + n → record_at slim t i ≡ record_at slim u i) → load slim t at n ≡ load slim u at n
  unfolding load
  load_same zero t u at same = refl
  load_same (suc n) t u at same = rw (same at (omega arith) (omega arith), load_same n t u (suc at) (λ i from below. same i (omega arith) (omega arith))) refl

  -- what was stored is read back
  pub load_store : (rs : List Record) (t : List ℕ) (at : ℕ) → AllKept slim rs → word_of slim (at + length rs) ≤ length t → load slim (store slim t at rs) at (length rs) ≡ rs
  unfolding load store AllKept
  load_store [] t at kept inside = refl
  load_store (r ∷ rs) t at kept inside =
      let same : word_of slim (suc at + length rs) ≡ word_of slim (at + length (r ∷ rs)) = ap (word_of slim) (omega arith) in
      let one : word_of slim at + width slim ≤ word_of slim (at + length (r ∷ rs)) = word_before slim at (at + length (r ∷ rs)) (omega arith) in
      let u : List ℕ = put_at slim t at r in
      rw (record_store rs u (suc at) at (inl (omega arith)), record_put t at r kept.0 (omega arith), load_store rs u (suc at) kept.1 (rw (length_put_at slim t at r) (omega (arith, same)))) refl

  -- the first of the records up to an end, and the others
  pub load_from : (t : List ℕ) (at end : ℕ) → at < end → load slim t at (end - at) ≡ record_at slim t at ∷ load slim t (at + 1) (end - (at + 1))
  unfolding load
  load_from t at end below = rw (left, add-one at) refl
    where
      left : end - at ≡ suc (end - (at + 1))
      left = omega arith

  -- the records before those that were stored
  pub load_before : (n : ℕ) (rs : List Record) (t : List ℕ) (at i : ℕ) → i + n ≤ at → load slim (store slim t at rs) i n ≡ load slim t i n
  load_before n rs t at i before = load_same n (store slim t at rs) t i (λ k from below. record_store rs t at k (inl (omega arith)))

  -- a count of used records is no part of a record
  pub load_with_used : (t : List ℕ) (count at n : ℕ) → load slim (with_used count t) at n ≡ load slim t at n
  load_with_used t count at n =
      load_same n (with_used count t) t at (λ i from below. record_same (with_used count t) t i (λ k small. get_or-set_other t 0 (word_of slim i + k) count 0 (omega (arith, word_late slim i))))

-- and it is the count
pub used_with_used : (t : List ℕ) (count : ℕ) → 4 ≤ length t → used (with_used count t) ≡ count
used_with_used t count long = get_or-set_same t 0 count 0 (omega arith)
