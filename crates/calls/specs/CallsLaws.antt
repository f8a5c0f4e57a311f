-- The calls clear, cut back and read, case by case: what each gives where which test holds.
use Rattle.std.specs.Prelude.{◌≡◌, ◌⊎◌, Bool, true, false, ◌&&◌, List, [], ◌∷◌, ◌++◌, leb, length, drop, Result, Ok, Err}
use Rattle.std.specs.List.{list_all, range_with_len}
use Rattle.tape.specs.Layout.{width}
use Rattle.std.proofs.Math.Path.{refl, ap}
use Rattle.std.proofs.Common.{sym, ◌∙◌, subst, inl, inr, true≢false}
use Prim.Native.Nat.{ℕ, zero, suc, ◌≤◌, ◌<◌, ◌+◌, ◌-◌}
use Rattle.std.proofs.Math.Bool.{and_comm}
use Rattle.std.proofs.Math.Numerals.{add-one}
use Rattle.std.proofs.Math.Decide.{dec_le}
use native.Mathlib.Omega.{arith}
use borrow.Author.Tests.{le-leb, lt-leb, lt-ltb, le-ltb}
use Rattle.std.specs.Result.{IsOk}
use Rattle.outcome.specs.Told.{told}
use Rattle.outcome.specs.ToldLaws.{told_once, told_refuses, told_done}
use Rattle.outcome.specs.declared.Done.{Done}
use Rattle.outcome.specs.declared.Refusal.{Refusal}
use Rattle.outcome.specs.Call.{Outcome, After, Gives, done, refusal, finished, numbers_of}
use Rattle.outcome.specs.AnswersLaws.{Fails, fails_leb, fails_and, fails_as}
use Rattle.tape.specs.Both.{and_assoc}
use Rattle.tape.specs.Record.{words}
use Rattle.tape.specs.Tape.{InOrder, used, headed, with_used, record_at, load}
use Rattle.calls.specs.Calls.{read_told, cleared, clear_call, end_by, cut_back_call, readable, no_record, read_call, GivesRecord, Reading}
use Rattle.tape.specs.declared.Record.{Record}

-- clear

module _ (slim : Bool) (t : List ℕ) where
  -- 4: under 4 words
  pub clear_4 : length t < 4 → clear_call slim t ≡ refusal 4 t
  unfolding clear_call
  clear_4 short = rw (lt-leb 4 (length t) short)

  -- 0: done
  pub clear_0 : 4 ≤ length t → clear_call slim t ≡ finished (cleared slim t)
  unfolding clear_call
  clear_0 long = rw (le-leb 4 (length t) long)

  -- done, where there are 4 words
  pub clear_done : (r : Result Done Refusal) {x : List ℕ} → 4 ≤ length t → Gives (clear_call slim t) (told r) x → IsOk r
  clear_done r long gives = told_done r (ap (λ (o : Outcome). o.answer) gives.gave ∙ ap (λ (a : After). a.outcome.answer) (clear_0 long))

-- cleared

-- its header is in order
pub cleared_in_order : (slim : Bool) (t : List ℕ) → 4 ≤ length t → InOrder slim (cleared slim t)
cleared_in_order slim [] long = absurd (omega arith)
cleared_in_order slim (a ∷ []) long = absurd (omega arith)
cleared_in_order slim (a ∷ b ∷ []) long = absurd (omega arith)
cleared_in_order slim (a ∷ b ∷ c ∷ []) long = absurd (omega arith)
cleared_in_order slim (a ∷ b ∷ c ∷ d ∷ rest) long =
    record { long = omega arith; offset = refl; «width» = refl; last = refl; fits = omega arith }

-- and it has no records
pub used_cleared : (slim : Bool) (t : List ℕ) → used (cleared slim t) ≡ 0
used_cleared slim [] = refl
used_cleared slim (a ∷ []) = refl
used_cleared slim (a ∷ b ∷ []) = refl
used_cleared slim (a ∷ b ∷ c ∷ []) = refl
used_cleared slim (a ∷ b ∷ c ∷ d ∷ rest) = refl

-- its four words, and what stands behind them
pub cleared_front : (slim : Bool) (t : List ℕ) → 4 ≤ length t → (0 ∷ 4 ∷ width slim ∷ 0 ∷ []) ++ drop 4 t ≡ cleared slim t
cleared_front slim [] long = absurd (omega arith)
cleared_front slim (a ∷ []) long = absurd (omega arith)
cleared_front slim (a ∷ b ∷ []) long = absurd (omega arith)
cleared_front slim (a ∷ b ∷ c ∷ []) long = absurd (omega arith)
cleared_front slim (a ∷ b ∷ c ∷ d ∷ rest) long = refl

-- cut back

-- the test of each record, as the code does it
pub end_by_each : (slim : Bool) (t : List ℕ) (mark at n : ℕ) → list_all (λ i. leb (record_at slim t i).past.0 mark) (range_with_len at n) ≡ end_by mark (load slim t at n)
unfolding end_by load
end_by_each slim t mark at zero = refl
end_by_each slim t mark at (suc n) = ap (λ (b : Bool). leb (record_at slim t at).past.0 mark && b) (rw add-one (end_by_each slim t mark (suc at) n))

-- one number more
all_more : (test : ℕ → Bool) (at n last : ℕ) → at + n ≡ last → list_all test (range_with_len at (suc n)) ≡ (list_all test (range_with_len at n) && test last)
all_more test at zero last is = and_comm (test at) true ∙ ap test (let same : at ≡ last = omega (arith, is) in same)
all_more test at (suc n) last is =
    ap (λ (b : Bool). test at && b) (all_more test (at + 1) n last (omega (arith, is)))
    ∙ sym (and_assoc (test at) (list_all test (range_with_len (at + 1) n)) (test last))

-- a test of each number, and one of the number before it
all_from : (f g : ℕ → Bool) → ((k : ℕ) → f (k + 1) ≡ g k) → (at n : ℕ) → list_all f (range_with_len (at + 1) n) ≡ list_all g (range_with_len at n)
all_from f g same at zero = refl
all_from f g same at (suc n) = cc (same at, all_from f g same (at + 1) n)

-- the numbers below n, from the last one on or from the first one on
pub from_the_last : (test : ℕ → Bool) (n : ℕ) → list_all (λ k. test (n - 1 - k)) (range_with_len 0 n) ≡ list_all test (range_with_len 0 n)
from_the_last test zero = refl
from_the_last test (suc n) =
    let others = all_from (λ k. test (suc n - 1 - k)) (λ k. test (n - 1 - k)) (λ k. ap test (omega arith)) 0 n ∙ from_the_last test n in
    ap (λ (b : Bool). b && list_all (λ k. test (suc n - 1 - k)) (range_with_len 1 n)) (ap test (omega arith))
    ∙ ap (λ (b : Bool). test n && b) others ∙ and_comm (test n) (list_all test (range_with_len 0 n)) ∙ sym (all_more test 0 n n (omega arith))

-- records one after the other
end_by-++ : (mark : ℕ) (xs ys : List Record) → end_by mark (xs ++ ys) ≡ (end_by mark xs && end_by mark ys)
unfolding end_by
end_by-++ mark [] ys = refl
end_by-++ mark (x ∷ xs) ys = ap (λ (b : Bool). leb x.past.0 mark && b) (end_by-++ mark xs ys) ∙ sym (and_assoc (leb x.past.0 mark) (end_by mark xs) (end_by mark ys))

module _ (slim : Bool) where
  -- of n records from a position on, one has word 5 above the mark
  abbrev Above : ℕ → List ℕ → ℕ → ℕ → Type 0
  Above n t mark at = (i : ℕ) × (at ≤ i) × (i < at + n) × (mark < (record_at slim t i).past.0)

  fails_end_by : (n : ℕ) (t : List ℕ) (mark at : ℕ) → Fails (end_by mark (load slim t at n)) (Above n t mark at)
  unfolding end_by load
  fails_end_by zero t mark at = (λ no'. absurd (true≢false no'), λ yes' x. omega (arith, x.1, x.2))
  fails_end_by (suc n) t mark at =
      fails_as to (λ x. back x (dec_le x.0 at))
      (fails_and (leb (record_at slim t at).past.0 mark) (end_by mark (load slim t (suc at) n)) (fails_leb (record_at slim t at).past.0 mark) (fails_end_by n t mark (suc at)))
    where
      to : (mark < (record_at slim t at).past.0) ⊎ Above n t mark (suc at) → Above (suc n) t mark at
      to (inl here) = (at, omega arith, omega arith, here)
      to (inr x) = (x.0, omega (arith, x.1), omega (arith, x.2), x.3)

      back : (x : Above (suc n) t mark at) → Dec (x.0 ≤ at) → (mark < (record_at slim t at).past.0) ⊎ Above n t mark (suc at)
      back x (yes first) =
          let same : x.0 ≡ at = omega (arith, x.1) in
          inl (subst (λ (i : ℕ). mark < (record_at slim t i).past.0) same x.3)
      back x (no later) = inr (x.0, omega arith, omega (arith, x.2), x.3)

  -- it is judged on every record kept: it fails where one of them has word 5 above the mark, and only there
  pub fails_cut : (t : List ℕ) (mark : ℕ) → Fails (end_by mark (load slim t 0 mark)) ((i : ℕ) × (i < mark) × (mark < (record_at slim t i).past.0))
  fails_cut t mark = fails_as (λ x. (x.0, omega (arith, x.2), x.3)) (λ x. (x.0, omega arith, omega (arith, x.1), x.2)) (fails_end_by mark t mark 0)

module _ (slim : Bool) (t : List ℕ) (mark : ℕ) where
  -- 4: the header is not in order
  pub cut_4 : headed slim t ≡ false → cut_back_call slim t mark ≡ refusal 4 t
  unfolding cut_back_call
  cut_4 bad = rw bad

  -- 6: mark past the count
  pub cut_6 : headed slim t ≡ true → used t < mark → cut_back_call slim t mark ≡ refusal 6 t
  unfolding cut_back_call
  cut_6 good past = rw (good, lt-leb mark (used t) past)

  -- 7: a record kept by the cut has word 5 above the mark
  pub cut_7 : headed slim t ≡ true → mark ≤ used t → end_by mark (load slim t 0 mark) ≡ false → cut_back_call slim t mark ≡ refusal 7 t
  unfolding cut_back_call
  cut_7 good inside cuts = rw (good, le-leb mark (used t) inside, cuts)

  -- 0: done
  pub cut_0 : headed slim t ≡ true → mark ≤ used t → end_by mark (load slim t 0 mark) ≡ true → cut_back_call slim t mark ≡ finished (with_used mark t)
  unfolding cut_back_call
  cut_0 good inside kept = rw (good, le-leb mark (used t) inside, kept)

-- read

module _ (slim : Bool) (t : List ℕ) (at : ℕ) where
  -- 4: the header is not in order
  pub read_4 : headed slim t ≡ false → read_call slim t at ≡ no_record 4
  unfolding read_call
  read_4 bad = rw bad

  -- 6: at or past the count
  pub read_6 : headed slim t ≡ true → used t ≤ at → read_call slim t at ≡ no_record 6
  unfolding read_call
  read_6 good past = rw (good, le-ltb at (used t) past)

  -- 8: label, shape or registry over the last, or start after end
  pub read_8 : headed slim t ≡ true → at < used t → readable (record_at slim t at) ≡ false → read_call slim t at ≡ no_record 8
  unfolding read_call
  read_8 good inside bad = rw (good, lt-ltb at (used t) inside, bad)

  -- 0: done
  pub read_0 : headed slim t ≡ true → at < used t → readable (record_at slim t at) ≡ true → read_call slim t at ≡ record { outcome = done; «record» = record_at slim t at }
  unfolding read_call
  read_0 good inside fine = rw (good, lt-ltb at (used t) inside, fine)

-- what the code's read tells, tells all of it: two results that meet read's contract are equal
pub read_told_once : (a b : Result Record Refusal) → read_told a ≡ read_told b → a ≡ b
read_told_once (Ok r) (Ok r') same = ap (λ (r : Record). Ok r) (ap (λ (x : Reading). x.«record») same)
read_told_once (Ok r) (Err e) same = absurd (told_refuses e (sym (ap (λ (x : Reading). x.outcome.answer) same)))
read_told_once (Err e) (Ok r) same = absurd (told_refuses e (ap (λ (x : Reading). x.outcome.answer) same))
read_told_once (Err e) (Err e') same = refusal_same e e' (told_once (Err e) (Err e') (ap (λ (x : Reading). x.outcome) same))
  where
    refusal_same : (e e' : Refusal) → ◌≡◌ {A = Result Done Refusal} (Err e) (Err e') → ◌≡◌ {A = Result Record Refusal} (Err e) (Err e')
    refusal_same e e' is = cc

-- two results over the C boundary that meet read's contract are equal
pub record_unique : {meant : Reading} {one other words' words'' : List ℕ} → GivesRecord meant one words' → GivesRecord meant other words'' → (one ≡ other) × (words' ≡ words'')
record_unique a b = (a.gave ∙ sym b.gave, a.shown ∙ sym b.shown)

-- from read's contract to the one over the C boundary
pub gives_record : {meant reading : Reading} {numbers words' : List ℕ} → numbers ≡ numbers_of reading.outcome → words' ≡ words reading.«record» → reading ≡ meant → GivesRecord meant numbers words'
gives_record wrote wrote' is = record { gave = wrote ∙ ap (λ (r : Reading). numbers_of r.outcome) is; shown = wrote' ∙ ap (λ (r : Reading). words r.«record») is }
