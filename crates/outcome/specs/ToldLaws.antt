-- What an outcome tells, tells all of it.
use Rattle.std.specs.Prelude.{◌≡◌, refl, List, ℕ, zero, suc, Result, Ok, Err}
use Rattle.std.specs.Result.{IsOk, IsErrAnd}
use Rattle.std.proofs.lemmas.Result.{err_from_is_err_and}
use Rattle.std.proofs.Common.{sym, ap, ◌∙◌, rules}
use Rattle.outcome.specs.Call.{Outcome, After, Gives}
use Rattle.outcome.specs.CallLaws.{gives_as}
use Rattle.outcome.specs.Told.{told}
use Rattle.outcome.specs.declared.Done.{Done}
use Rattle.outcome.specs.declared.Refusal.{Refusal}
use Rattle.outcome.specs.declared.Refusal.TheVariants.{NoSuchRegistry, AreaTooLong, AreaTooFar, NoTape, NoRoom, PastCount, CutsContainer, Unreadable, NameTooLong}

-- the outcome that tells some numbers, by the answer
of_answer : ℕ → Outcome → Result Done Refusal
of_answer zero o = Ok (record { covered = o.covered; written = o.written; needed = o.needed })
of_answer (suc zero) o = Err NoSuchRegistry
of_answer (suc (suc zero)) o = Err AreaTooLong
of_answer (suc (suc (suc zero))) o = Err AreaTooFar
of_answer (suc (suc (suc (suc zero)))) o = Err NoTape
of_answer (suc (suc (suc (suc (suc zero))))) o = Err (NoRoom o.needed)
of_answer (suc (suc (suc (suc (suc (suc zero)))))) o = Err PastCount
of_answer (suc (suc (suc (suc (suc (suc (suc zero))))))) o = Err CutsContainer
of_answer (suc (suc (suc (suc (suc (suc (suc (suc zero)))))))) o = Err Unreadable
of_answer (suc (suc (suc (suc (suc (suc (suc (suc (suc n))))))))) o = Err NameTooLong

told_back : (r : Result Done Refusal) → of_answer (told r).answer (told r) ≡ r
unfolding of_answer
told_back (Ok d) = refl
told_back (Err NoSuchRegistry) = refl
told_back (Err AreaTooLong) = refl
told_back (Err AreaTooFar) = refl
told_back (Err NoTape) = refl
told_back (Err (NoRoom needed)) = refl
told_back (Err PastCount) = refl
told_back (Err CutsContainer) = refl
told_back (Err Unreadable) = refl
told_back (Err NameTooLong) = refl

-- two outcomes that tell the same are the same
pub told_once : (a b : Result Done Refusal) → told a ≡ told b → a ≡ b
told_once a b same = sym (told_back a) ∙ ap (λ (o : Outcome). of_answer o.answer o) same ∙ told_back b

-- so two results that meet a call's contract are equal
pub told_unique : {meant : After} (one other : Result Done Refusal) {exit exit' : List ℕ} → Gives meant (told one) exit → Gives meant (told other) exit' → (one ≡ other) × (exit ≡ exit')
told_unique one other a b = (told_once one other (a.gave ∙ sym b.gave), a.left ∙ sym b.left)

-- no refusal answers 0 ..
pub told_refuses : (e : Refusal) → (told (Err e)).answer ≡ 0 → ⊥
told_refuses NoSuchRegistry zero' = cc
told_refuses AreaTooLong zero' = cc
told_refuses AreaTooFar zero' = cc
told_refuses NoTape zero' = cc
told_refuses (NoRoom needed) zero' = cc
told_refuses PastCount zero' = cc
told_refuses CutsContainer zero' = cc
told_refuses Unreadable zero' = cc
told_refuses NameTooLong zero' = cc

-- .. so a call that answers 0 is done
pub told_done : (r : Result Done Refusal) → (told r).answer ≡ 0 → IsOk r
told_done (Ok d) zero' = search rules
told_done (Err e) zero' = absurd (told_refuses e zero')

-- a refusal that `?` hands on is the one that came
pub handed_on : {meant : After} {lent : List ℕ} (r : Result Done Refusal) (e : Refusal) → meant ≡ record { outcome = told (Err e); lent = lent } → IsErrAnd r (λ x. x ≡ e) → Gives meant (told r) lent
handed_on r e is passed = let x = err_from_is_err_and r passed in rw (x.1, x.2) (gives_as is (record { gave = refl; left = refl }))
