-- Each answer comes when its line says so, and only then; and the checks by which a call is shown to answer so.
use Rattle.std.specs.Prelude.{◌≡◌, ◌⊎◌, ◌↔◌, Bool, not, ◌&&◌, ◌||◌, cond, ℕ, ◌≤◌, ◌<◌, leb, ltb, eqb}
use Rattle.std.proofs.Math.Path.{refl, sym}
use Rattle.std.proofs.Common.{◌∙◌, subst, inl, inr, ⊎_elim, true≢false, arith, leb-true, leb-false, ltb-true, ltb-false, eqb-true, eq-eqb}
use Rattle.std.proofs.Math.Bool.{true, false, or-true, and-eq-true_iff}
use mathlib.Core.List.{List, [], ◌∷◌, ◌++◌}
use Rattle.std.proofs.lemmas.Bool.{eqb-false, not-true}
use Rattle.outcome.specs.Call.{Outcome, After, Gives, refusal, no_room}
use Rattle.outcome.specs.CallLaws.{gives_after}
use Rattle.outcome.specs.Answers.{Line, Answer, None, is_one_of, are_distinct, numbers_in, Distinct, Answered}

-- when, and only then

-- one of some numbers
module _ (n m : ℕ) (ms : List ℕ) where
  is_first : n ≡ m → is_one_of n (m ∷ ms) ≡ true
  unfolding is_one_of
  is_first same = rw (eq-eqb n m same)

  is_later : is_one_of n ms ≡ true → is_one_of n (m ∷ ms) ≡ true
  unfolding is_one_of
  is_later later = rw later (or-true (eqb n m))

  -- with one more behind the first
  is_still : (k : ℕ) → is_one_of n (m ∷ ms) ≡ true → is_one_of n (m ∷ k ∷ ms) ≡ true
  unfolding is_one_of
  is_still k = go (eqb n m)
    where
      go : (b : Bool) → (b || is_one_of n ms) ≡ true → (b || is_one_of n (k ∷ ms)) ≡ true
      go true here = refl
      go false later = rw later (or-true (eqb n k))

-- of distinct numbers the first is neither 0 nor a later one
first_apart : (n : ℕ) (ns : List ℕ) → are_distinct (n ∷ ns) ≡ true → is_one_of n (0 ∷ ns) ≡ true → ⊥
unfolding are_distinct
first_apart n ns apart again = true≢false (sym again ∙ not-true _ ((and-eq-true_iff (not (is_one_of n (0 ∷ ns))) (are_distinct ns)).0 apart).0)

later_apart : (n : ℕ) (ns : List ℕ) → are_distinct (n ∷ ns) ≡ true → are_distinct ns ≡ true
unfolding are_distinct
later_apart n ns apart = ((and-eq-true_iff (not (is_one_of n (0 ∷ ns))) (are_distinct ns)).0 apart).1

-- an answer is 0 or a line's number
answer_one_of : (ls : List Line) (n : ℕ) → Answer ls n → is_one_of n (0 ∷ numbers_in ls) ≡ true
unfolding Answer
answer_one_of [] n is = is_first n 0 [] is
answer_one_of (l ∷ ls) n (inl here) = is_later n 0 (numbers_in (l ∷ ls)) (is_first n l.number (numbers_in ls) here.1)
answer_one_of (l ∷ ls) n (inr past) = is_still n 0 (numbers_in ls) l.number (answer_one_of ls n past.1)

-- 0 where no line holds
done_when : (ls : List Line) (n : ℕ) → Answer ls n → None ls → n ≡ 0
unfolding Answer None
done_when [] n is none = is
done_when (l ∷ ls) n (inl here) none = absurd (none.0 here.0)
done_when (l ∷ ls) n (inr later) none = done_when ls n later.1 none.1

-- and only there
done_only_then : (ls : List Line) (n : ℕ) → Distinct ls → Answer ls n → n ≡ 0 → None ls
unfolding Answer None
done_only_then [] n apart is zero = tt
done_only_then (l ∷ ls) n apart (inl here) zero = absurd (first_apart l.number (numbers_in ls) apart (is_first l.number 0 (numbers_in ls) (sym here.1 ∙ zero)))
done_only_then (l ∷ ls) n apart (inr past) zero = (past.0, done_only_then ls n (later_apart l.number (numbers_in ls) apart) past.1 zero)

module _ (l : Line) (later : List Line) where
  -- a line's number is one of the lines'
  own_number : (earlier : List Line) → is_one_of l.number (0 ∷ numbers_in (earlier ++ l ∷ later)) ≡ true
  own_number [] = is_later l.number 0 (numbers_in (l ∷ later)) (is_first l.number l.number (numbers_in later) refl)
  own_number (e ∷ es) = is_still l.number 0 (numbers_in (es ++ l ∷ later)) e.number (own_number es)

  -- a line's number where it holds and no line before it
  comes_when : (earlier : List Line) (n : ℕ) → Answer (earlier ++ l ∷ later) n → None earlier → l.when → n ≡ l.number
  unfolding Answer None
  comes_when [] n (inl here) none holds = here.1
  comes_when [] n (inr past) none holds = absurd (past.0 holds)
  comes_when (e ∷ es) n (inl here) none holds = absurd (none.0 here.0)
  comes_when (e ∷ es) n (inr past) none holds = comes_when es n past.1 none.1 holds

  -- and only there
  comes_only_then : (earlier : List Line) (n : ℕ) → Distinct (earlier ++ l ∷ later) → Answer (earlier ++ l ∷ later) n → n ≡ l.number → None earlier × l.when
  unfolding Answer None
  comes_only_then [] n apart (inl here) is = (tt, here.0)
  comes_only_then [] n apart (inr past) is =
      absurd (first_apart l.number (numbers_in later) apart (subst (λ (k : ℕ). is_one_of k (0 ∷ numbers_in later) ≡ true) is (answer_one_of later n past.1)))
  comes_only_then (e ∷ es) n apart (inl here) is =
      let same : l.number ≡ e.number = sym is ∙ here.1 in
      absurd (first_apart e.number (numbers_in (es ++ l ∷ later)) apart (subst (λ (k : ℕ). is_one_of k (0 ∷ numbers_in (es ++ l ∷ later)) ≡ true) same (own_number es)))
  comes_only_then (e ∷ es) n apart (inr past) is =
      let r = comes_only_then es n (later_apart e.number (numbers_in (es ++ l ∷ later)) apart) past.1 is in
      ((past.0, r.0), r.1)

  -- so the answer is a line's number exactly where it holds and no line before it
  pub exactly : (earlier : List Line) (n : ℕ) → Distinct (earlier ++ l ∷ later) → Answer (earlier ++ l ∷ later) n → (n ≡ l.number) ↔ (None earlier × l.when)
  exactly earlier n apart is = (comes_only_then earlier n apart is, λ holds. comes_when earlier n is holds.0 holds.1)

-- and 0 exactly where none holds
pub exactly_done : (ls : List Line) (n : ℕ) → Distinct ls → Answer ls n → (n ≡ 0) ↔ None ls
exactly_done ls n apart is = (done_only_then ls n apart is, done_when ls n is)

-- tests

-- a test fails where p holds, and passes only where p does not
abbrev pub Fails : Bool → Type 0 → Type 0
Fails b p = (b ≡ false → p) × (b ≡ true → ¬ p)

pub fails_leb : (a b : ℕ) → Fails (leb a b) (b < a)
fails_leb a b = (leb-false a b, λ yes' less. omega (arith, leb-true a b yes'))

pub fails_ltb : (a b : ℕ) → Fails (ltb a b) (b ≤ a)
fails_ltb a b = (ltb-false a b, λ yes' most. omega (arith, ltb-true a b yes'))

pub fails_eqb : (a b : ℕ) → Fails (eqb a b) (¬ (a ≡ b))
fails_eqb a b = (eqb-false a b, λ yes' other. other (eqb-true a b yes'))

-- two tests fail where one of them does
pub fails_and : (a b : Bool) {p q : Type 0} → Fails a p → Fails b q → Fails (a && b) (p ⊎ q)
fails_and true b one other = (λ no'. inr (other.0 no'), λ yes'. ⊎_elim (one.1 refl) (other.1 yes'))
fails_and false b one other = (λ no'. inl (one.0 refl), λ yes'. absurd (true≢false (sym yes')))

-- what a test fails for, said otherwise
pub fails_as : {b : Bool} {p q : Type 0} → (p → q) → (q → p) → Fails b p → Fails b q
fails_as to back fails = (λ no'. to (fails.0 no'), λ yes' y. fails.1 yes' (back y))

-- answers

-- a call that is done
pub answered_done : (lent : List ℕ) (after : After) → after.outcome.answer ≡ 0 → Answered [] lent after
unfolding Answer
answered_done lent after zero =
    record { answer = zero; none_covered = λ not. absurd (not zero); none_written = λ not. absurd (not zero); none_needed = λ not. absurd (not zero); unchanged = λ not. absurd (not zero) }

-- a line that does not hold, and what comes after it
pub answered_past : (l : Line) (ls : List Line) (lent : List ℕ) (after : After) → (¬ l.when) → Answered ls lent after → Answered (l ∷ ls) lent after
unfolding Answer
answered_past l ls lent after not rest =
    record { answer = inr (not, rest.answer); none_covered = rest.none_covered; none_written = rest.none_written; none_needed = rest.none_needed; unchanged = rest.unchanged }

-- a line that holds
pub answered_refused : (l : Line) (ls : List Line) (lent : List ℕ) → l.when → Answered (l ∷ ls) lent (refusal l.number lent)
unfolding Answer
answered_refused l ls lent holds =
    record { answer = inl (holds, refl); none_covered = λ not. refl; none_written = λ not. refl; none_needed = λ not five. refl; unchanged = λ not. refl }

-- a check, and what comes after it
pub answered_check : (l : Line) (ls : List Line) (b : Bool) (lent : List ℕ) (after : After) → Fails b l.when → Answered ls lent after → Answered (l ∷ ls) lent (cond b after (refusal l.number lent))
answered_check l ls true lent after fails rest = answered_past l ls lent after (fails.1 refl) rest
answered_check l ls false lent after fails rest = answered_refused l ls lent (fails.0 refl)

-- the check of the room, which is the last
pub answered_room : (l : Line) (b : Bool) (lent : List ℕ) (after : After) (needed : ℕ) → l.number ≡ 5 → Fails b l.when → Answered [] lent after
    → Answered (l ∷ []) lent (cond b after (record { outcome = no_room needed; lent = lent }))
unfolding Answer
answered_room l true lent after needed five fails rest = answered_past l [] lent after (fails.1 refl) rest
answered_room l false lent after needed five fails rest =
    record { answer = inl (fails.0 refl, sym five); none_covered = λ not. refl; none_written = λ not. refl; none_needed = λ not other. absurd (other refl); unchanged = λ not. refl }

-- what holds of the definition holds of a result that meets the contract
pub answered_run : (lines : List Line) (lent : List ℕ) {meant : After} (o : Outcome) (x : List ℕ) → Gives meant o x → Answered lines lent meant → Answered lines lent (record { outcome = o; lent = x })
answered_run lines lent {meant} o x ran is = subst (Answered lines lent) (sym (gives_after ran)) is
