-- A call that shows an area: old records change nothing.
use Rattle.std.specs.Prelude.{◌≡◌, Bool, cond, List, get_or, take, Option, Some, None}
use Rattle.std.proofs.Math.Path.{refl}
use Rattle.std.proofs.Common.{sym, ap, ◌∙◌, inl, arith, le-leb, leb-true, length-take, get_or-take, ext_get_or}
use Rattle.std.proofs.Math.Bool.{true, false}
use Prim.Native.Nat.{ℕ, zero, suc, ◌+◌, ◌-◌, ◌≤◌, ◌<◌, min}
use Rattle.std.proofs.Math.Decide.{dec_le}
use Rattle.std.proofs.lemmas.Bool.{lt-leb}
use Rattle.std.proofs.Math.Dec.{leb}
use Rattle.std.proofs.Math.ListN.{length}
use Rattle.outcome.specs.Call.{After, Gives, refused, refusal, no_room, Outcome}
use Rattle.outcome.specs.CallLaws.{gives_after}
use Rattle.registry.specs.Registry.{number_of, registry_of}
use Rattle.tape.specs.LayoutLaws.{word_late}
use Rattle.tape.specs.Tape.{InOrder, used, room, headed, load}
use Rattle.tape.specs.HeaderLaws.{headed_in_order}
use Rattle.tape.specs.Near.{Near}
use Rattle.tape.specs.Forest.{Forest, size, flat}
use Rattle.meaning.specs.Frame.{covered}
use Rattle.meaning.specs.Value.{Walk}
use Rattle.meaning.specs.AreaCall.{longest, furthest, appended, shown, fitted, call_in, area_call}
use Rattle.meaning.proofs.AreaCallLaws.{number_low, appended_used, appended_load, appended_other, length_appended}
use Rattle.theorems.specs.Nearby.{Nearby}
use Rattle.theorems.specs.OldRecords.{Alike, Untouched, Unmoved}
use Rattle.registry.specs.declared.Registry.{Registry}

-- what is left as it was
kept : {slim : Bool} {t : List ℕ} {o : Outcome} → Untouched slim t (record { outcome = o; lent = t })
kept = record { same_length = refl; others = λ k past outside. refl }

-- equal headers

module _ (slim : Bool) (t u : List ℕ) (alike : Alike slim t u) where
  word : (k : ℕ) → k < 4 → get_or t k 0 ≡ get_or u k 0
  word k small = sym (get_or-take 4 t k 0 small) ∙ ap (λ (zs : List ℕ). get_or zs k 0) alike.header ∙ get_or-take 4 u k 0 small

  shorter : min 4 (length t) ≡ min 4 (length u)
  shorter = sym (length-take 4 t) ∙ ap length alike.header ∙ length-take 4 u

  long : leb 4 (length t) ≡ leb 4 (length u)
  long = go (dec_le 4 (length t))
    where
      go : Dec (4 ≤ length t) → leb 4 (length t) ≡ leb 4 (length u)
      go (yes is) = le-leb 4 (length t) is ∙ sym (le-leb 4 (length u) (omega (arith, shorter)))
      go (no not) = lt-leb 4 (length t) (omega arith) ∙ sym (lt-leb 4 (length u) (omega (arith, shorter)))

  same_used : used t ≡ used u
  same_used = word 0 (omega arith)

  same_headed : headed slim t ≡ headed slim u
  unfolding headed
  same_headed = rw (long, word 1 (omega arith), word 2 (omega arith), word 3 (omega arith), same_used, alike.space) refl

  -- a refusal
  unmoved_refused : (o : Outcome) → o.written ≡ 0 → Unmoved slim t u (record { outcome = o; lent = t }) (record { outcome = o; lent = u })
  unfolding load
  unmoved_refused o nothing =
      record { same_outcome = refl; same_header = alike.header; same_records = rw nothing refl; untouched = kept; untouched' = kept }

  -- trees for which there is room
  module _ (trees : Forest) (good : headed slim t ≡ true) (near : Near trees) (fits : size trees ≤ room slim t - used t) where
    header : InOrder slim t
    header = headed_in_order t good

    header' : InOrder slim u
    header' = headed_in_order u (sym same_headed ∙ good)

    fits' : size trees ≤ room slim u - used u
    fits' = rw (← alike.space, ← same_used) fits

    header_word : (k : ℕ) → k < 4 → get_or (appended slim trees t) k 0 ≡ get_or (appended slim trees u) k 0
    header_word zero small = appended_used slim t trees header fits ∙ ap (λ (n : ℕ). n + size trees) same_used ∙ sym (appended_used slim u trees header' fits')
    header_word (suc k) small =
        appended_other slim t trees header fits (suc k) (omega arith) (inl (omega (arith, word_late slim (used t))))
        ∙ word (suc k) small
        ∙ sym (appended_other slim u trees header' fits' (suc k) (omega arith) (inl (omega (arith, word_late slim (used u)))))

    headers : take 4 (appended slim trees t) ≡ take 4 (appended slim trees u)
    headers =
        ext_get_or 0 (take 4 (appended slim trees t)) (take 4 (appended slim trees u))
        (length-take 4 (appended slim trees t) ∙ rw (length_appended slim t trees, length_appended slim u trees) shorter ∙ sym (length-take 4 (appended slim trees u)))
        (λ k below.
        let small : k < 4 = omega (arith, length-take 4 (appended slim trees t)) in
        get_or-take 4 (appended slim trees t) k 0 small ∙ header_word k small ∙ sym (get_or-take 4 (appended slim trees u) k 0 small))

    unmoved_shown : (octets : ℕ) → Unmoved slim t u (shown slim octets trees t) (shown slim octets trees u)
    unmoved_shown octets =
        record {
          same_outcome = refl;
          same_header = headers;
          same_records = appended_load slim t trees header fits near ∙ ap (λ (p : ℕ). flat p trees) same_used ∙ sym (appended_load slim u trees header' fits' near);
          untouched = record { same_length = length_appended slim t trees; others = appended_other slim t trees header fits };
          untouched' = record { same_length = length_appended slim u trees; others = appended_other slim u trees header' fits' };
        }

  unmoved_fitted : (octets : ℕ) (trees : Forest) → Near trees → headed slim t ≡ true → Unmoved slim t u (fitted slim octets trees t) (fitted slim octets trees u)
  unfolding fitted
  unmoved_fitted octets trees near good = rw (← alike.space, ← same_used) (go (leb (size trees) (room slim t - used t)) refl)
    where
      go : (b : Bool) → leb (size trees) (room slim t - used t) ≡ b
          → Unmoved slim t u (cond b (shown slim octets trees t) (record { outcome = no_room (size trees); lent = t })) (cond b (shown slim octets trees u) (record { outcome = no_room (size trees); lent = u }))
      go true fits = unmoved_shown trees good near (leb-true _ _ fits) octets
      go false less = unmoved_refused (no_room (size trees)) refl

  unmoved_in : (shows : Walk) → Nearby shows → (found : Option Registry) (area : List ℕ) (base : ℕ) → Unmoved slim t u (call_in slim shows found area base t) (call_in slim shows found area base u)
  unfolding call_in
  unmoved_in shows nearby None area base = unmoved_refused (refused 1) refl
  unmoved_in shows nearby (Some registry) area base =
      rw (← same_headed) (go (leb (length area) longest) (leb (base + length area) furthest) refl (headed slim t) refl)
    where
      octets : ℕ
      octets = covered area

      trees : Forest
      trees = shows (number_of registry) area base

      judged : Bool → Bool → Bool → List ℕ → After
      judged a b c x = cond a (cond b (cond c (fitted slim octets trees x) (refusal 4 x)) (refusal 3 x)) (refusal 2 x)

      go : (a b : Bool) → leb (base + length area) furthest ≡ b → (c : Bool) → headed slim t ≡ c → Unmoved slim t u (judged a b c t) (judged a b c u)
      go false b near c is = unmoved_refused (refused 2) refl
      go true false near c is = unmoved_refused (refused 3) refl
      go true true near false is = unmoved_refused (refused 4) refl
      go true true near true is = unmoved_fitted octets trees (nearby (number_of registry) area base (number_low registry) (leb-true _ _ near)) is

-- old records change nothing: of any two results that meet the call's contract, on the one tape and on the other
pub old_records : (slim : Bool) (shows : Walk) → Nearby shows → (registry : ℕ) (area : List ℕ) (base : ℕ) (t u : List ℕ) → Alike slim t u → {o o' : Outcome} {x x' : List ℕ}
    → Gives (area_call slim shows registry area base t) o x → Gives (area_call slim shows registry area base u) o' x'
    → Unmoved slim t u (record { outcome = o; lent = x }) (record { outcome = o'; lent = x' })
old_records slim shows nearby registry area base t u alike ran ran' = rw (gives_after ran, gives_after ran') (unmoved_in slim t u alike shows nearby (registry_of registry) area base)
