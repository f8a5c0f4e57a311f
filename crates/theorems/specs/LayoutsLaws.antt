-- From equal records, neither tape refused under 4, the two layouts give equal records, outcomes and answers.
use Rattle.std.specs.Prelude.{◌≡◌, true, false, ℕ, ◌+◌, ◌-◌, ◌≤◌, ◌<◌, leb, ltb, take, drop, Option, Some, None}
use Rattle.std.proofs.Math.Path.{refl, sym, ap}
use Rattle.std.proofs.Common.{◌∙◌, arith, le-leb, leb-true, le-ltb, take_at}
use Rattle.std.proofs.Math.Bool.{Bool, cond}
use mathlib.Core.List.{List, [], ◌∷◌, ◌++◌, head-eq_of_cons-eq}
use Rattle.std.proofs.Math.Nat.{zero-add}
use Rattle.std.proofs.Math.Decide.{dec_le}
use Rattle.std.proofs.lemmas.Bool.{lt-leb}
use Rattle.std.proofs.Math.ListN.{length}
use Rattle.std.proofs.Math.Seq.{drop_at}
use Rattle.outcome.specs.Call.{After, Gives, done, refused, refusal, finished, no_room, Outcome}
use Rattle.outcome.specs.CallLaws.{gives_after}
use Rattle.registry.specs.Registry.{number_of, registry_of}
use Rattle.tape.specs.Tape.{InOrder, used, room, headed, with_used, record_at, load, store}
use Rattle.tape.specs.HeaderLaws.{headed_in_order}
use Rattle.tape.specs.LoadLaws.{load_append, load_before, load_with_used, length_load, used_with_used}
use Rattle.tape.specs.Near.{Near}
use Rattle.tape.specs.Forest.{Forest, size, flat}
use Rattle.tape.specs.declared.Record.{Record}
use Rattle.calls.specs.Calls.{cleared, clear_call, end_by, cut_back_call, readable, no_record, read_call, Reading}
use Rattle.calls.specs.CallsLaws.{used_cleared}
use Rattle.calls.specs.Nest.{nest_test}
use Rattle.calls.specs.WellNestedLaws.{yes_nested, nested_yes}
use Rattle.meaning.specs.Frame.{covered}
use Rattle.meaning.specs.Value.{Walk}
use Rattle.meaning.specs.Table.{usual}
use Rattle.meaning.specs.Area.{walked, pushed}
use Rattle.meaning.specs.AreaCall.{longest, furthest, appended, shown, fitted, call_in, area_call}
use Rattle.meaning.proofs.AreaCallLaws.{number_low, appended_load, appended_used}
use Rattle.theorems.specs.Nearby.{Nearby}
use Rattle.theorems.specs.NearbyLaws.{usual_nearby}
use Rattle.theorems.specs.Entries.{leave, show}
use Rattle.theorems.specs.Layouts.{Same, Writing, clear, walk, push, cut_back, made, NotUnder, Agreed}
use Rattle.registry.specs.declared.Registry.{Registry}

-- the used records of a tape that trees were appended to
appended_records : (slim : Bool) (t : List ℕ) (trees : Forest) → InOrder slim t → size trees ≤ room slim t - used t → Near trees
    → load slim (appended slim trees t) 0 (used t + size trees) ≡ load slim t 0 (used t) ++ flat (used t) trees
unfolding appended
appended_records slim t trees header fits near =
    let u : List ℕ = store slim t (used t) (flat (used t) trees) in
    let n : ℕ = used t + size trees in
    load_append slim (used t) (size trees) (with_used n u) 0
    ∙ ap (λ (zs : List Record). zs ++ load slim (with_used n u) (0 + used t) (size trees)) (load_with_used slim u n 0 (used t) ∙ load_before slim (used t) (flat (used t) trees) t (used t) 0 (omega arith))
    ∙ ap (λ (k : ℕ). load slim t 0 (used t) ++ load slim (with_used n u) k (size trees)) (zero-add (used t))
    ∙ ap (λ (zs : List Record). load slim t 0 (used t) ++ zs) (appended_load slim t trees header fits near)

-- the first n of the used records
first_records : (slim : Bool) (t : List ℕ) (n : ℕ) → n ≤ used t → take n (load slim t 0 (used t)) ≡ load slim t 0 n
first_records slim t n below =
    let all : used t ≡ n + (used t - n) = omega arith in
    ap (λ (k : ℕ). take n (load slim t 0 k)) all
    ∙ ap (take n) (load_append slim n (used t - n) t 0)
    ∙ take_at (load slim t 0 n) (load slim t (0 + n) (used t - n)) n (length_load slim n t 0)

-- two tapes with equal records
module _ (slim slim' : Bool) (t u : List ℕ) (same : Same slim slim' t u) where
  -- and then trees behind them
  same_appended : (trees : Forest) → InOrder slim t → InOrder slim' u → size trees ≤ room slim t - used t → size trees ≤ room slim' u - used u → Near trees
      → Same slim slim' (appended slim trees t) (appended slim' trees u)
  same_appended trees header header' fits fits' near =
      let count = appended_used slim t trees header fits in
      let count' = appended_used slim' u trees header' fits' in
      record {
        count = count ∙ ap (λ (n : ℕ). n + size trees) same.count ∙ sym count';
        records =
            ap (load slim (appended slim trees t) 0) count
            ∙ appended_records slim t trees header fits near
            ∙ ap (λ (zs : List Record). zs ++ flat (used t) trees) same.records
            ∙ ap (λ (n : ℕ). load slim' u 0 (used u) ++ flat n trees) same.count
            ∙ sym (ap (load slim' (appended slim' trees u) 0) count' ∙ appended_records slim' u trees header' fits' near);
      }

  -- the first n are equal
  same_first : (n : ℕ) → n ≤ used t → load slim t 0 n ≡ load slim' u 0 n
  same_first n inside =
      sym (first_records slim t n inside) ∙ ap (take n) same.records ∙ first_records slim' u n (rw same.count at inside)

  -- and so is each
  same_record : (i : ℕ) → i < used t → record_at slim t i ≡ record_at slim' u i
  unfolding load
  same_record i inside =
      let one : List Record = record_at slim t (0 + i) ∷ [] in
      let other : List Record = record_at slim' u (0 + i) ∷ [] in
      let both : load slim t 0 i ++ one ≡ load slim' u 0 i ++ other = sym (load_append slim i 1 t 0) ∙ same_first (i + 1) (omega arith) ∙ load_append slim' i 1 u 0 in
      let last : one ≡ other =
      sym (drop_at (load slim t 0 i) one i (length_load slim i t 0)) ∙ ap (drop i) both ∙ drop_at (load slim' u 0 i) other i (length_load slim' i u 0) in
      rw zero-add at (head-eq_of_cons-eq last)

  -- refused alike
  agreed_refused : (o : Outcome) → Agreed slim slim' (record { outcome = o; lent = t }) (record { outcome = o; lent = u })
  agreed_refused o = record { needed = refl; outcome = λ has has'. refl; records = λ has has'. same }

  -- walk and push, by any nearby reading

  agreed_fitted : (octets : ℕ) (trees : Forest) → Near trees → headed slim t ≡ true → headed slim' u ≡ true → Agreed slim slim' (fitted slim octets trees t) (fitted slim' octets trees u)
  unfolding fitted
  agreed_fitted octets trees near good good' = go (leb (size trees) (room slim t - used t)) (leb (size trees) (room slim' u - used u)) refl refl
    where
      lacks : (x : List ℕ) → After
      lacks x = record { outcome = no_room (size trees); lent = x }

      go : (b c : Bool) → leb (size trees) (room slim t - used t) ≡ b → leb (size trees) (room slim' u - used u) ≡ c
          → Agreed slim slim' (cond b (shown slim octets trees t) (lacks t)) (cond c (shown slim' octets trees u) (lacks u))
      go true true fits fits' =
          record {
            needed = refl;
            outcome = λ has has'. refl;
            records = λ has has'. same_appended trees (headed_in_order t good) (headed_in_order u good') (leb-true _ _ fits) (leb-true _ _ fits') near;
          }
      go true false fits less = record { needed = refl; outcome = λ has has'. absurd (has' refl); records = λ has has'. absurd (has' refl) }
      go false true less fits' = record { needed = refl; outcome = λ has has'. absurd (has refl); records = λ has has'. absurd (has refl) }
      go false false less less' = agreed_refused (no_room (size trees))

  agreed_in : (shows : Walk) → Nearby shows → (found : Option Registry) (area : List ℕ) (base : ℕ) → NotUnder 4 (call_in slim shows found area base t) → NotUnder 4 (call_in slim' shows found area base u)
      → Agreed slim slim' (call_in slim shows found area base t) (call_in slim' shows found area base u)
  unfolding call_in
  agreed_in shows nearby None area base tape tape' = agreed_refused (refused 1)
  agreed_in shows nearby (Some registry) area base tape tape' =
      go (leb (length area) longest) (leb (base + length area) furthest) refl (headed slim t) refl (headed slim' u) refl tape tape'
    where
      trees : Forest
      trees = shows (number_of registry) area base

      one : Bool → Bool → Bool → After
      one a b c = cond a (cond b (cond c (fitted slim (covered area) trees t) (refusal 4 t)) (refusal 3 t)) (refusal 2 t)

      other : Bool → Bool → Bool → After
      other a b c = cond a (cond b (cond c (fitted slim' (covered area) trees u) (refusal 4 u)) (refusal 3 u)) (refusal 2 u)

      go : (a b : Bool) → leb (base + length area) furthest ≡ b → (c : Bool) → headed slim t ≡ c → (d : Bool) → headed slim' u ≡ d
          → NotUnder 4 (one a b c) → NotUnder 4 (other a b d) → Agreed slim slim' (one a b c) (other a b d)
      go false b near c is d is' four four' = agreed_refused (refused 2)
      go true false near c is d is' four four' = agreed_refused (refused 3)
      go true true near false is d is' four four' = absurd (four refl)
      go true true near true is false is' four four' = absurd (four' refl)
      go true true near true is true is' four four' = agreed_fitted (covered area) trees (nearby (number_of registry) area base (number_low registry) (leb-true _ _ near)) is is'

  pub agreed_area : (shows : Walk) → Nearby shows → (registry : ℕ) (area : List ℕ) (base : ℕ) → NotUnder 4 (area_call slim shows registry area base t) → NotUnder 4 (area_call slim' shows registry area base u)
      → Agreed slim slim' (area_call slim shows registry area base t) (area_call slim' shows registry area base u)
  agreed_area shows nearby registry area base = agreed_in shows nearby (registry_of registry) area base

  -- cut back

  same_cut : (mark : ℕ) → mark ≤ used t → InOrder slim t → InOrder slim' u → Same slim slim' (with_used mark t) (with_used mark u)
  same_cut mark inside header header' =
      let count = used_with_used t mark header.long in
      let count' = used_with_used u mark header'.long in
      record {
        count = count ∙ sym count';
        records =
            ap (load slim (with_used mark t) 0) count
            ∙ load_with_used slim t mark 0 mark
            ∙ same_first mark inside
            ∙ sym (ap (load slim' (with_used mark u) 0) count' ∙ load_with_used slim' u mark 0 mark);
      }

  agreed_cut : (mark : ℕ) → NotUnder 4 (cut_back_call slim t mark) → NotUnder 4 (cut_back_call slim' u mark) → Agreed slim slim' (cut_back_call slim t mark) (cut_back_call slim' u mark)
  unfolding cut_back_call
  agreed_cut mark tape tape' = go (headed slim t) refl (headed slim' u) refl tape tape'
    where
      judged : Bool → (x : List ℕ) → After
      judged e x = cond e (finished (with_used mark x)) (refusal 7 x)

      one : After
      one = cond (leb mark (used t)) (judged (end_by mark (load slim t 0 mark)) t) (refusal 6 t)

      other : After
      other = cond (leb mark (used u)) (judged (end_by mark (load slim' u 0 mark)) u) (refusal 6 u)

      kept : mark ≤ used t → InOrder slim t → InOrder slim' u → (e : Bool) → Agreed slim slim' (judged e t) (judged e u)
      kept inside header header' true = record { needed = refl; outcome = λ has has'. refl; records = λ has has'. same_cut mark inside header header' }
      kept inside header header' false = agreed_refused (refused 7)

      held : InOrder slim t → InOrder slim' u → Dec (mark ≤ used t) → Agreed slim slim' one other
      held header header' (no past) = rw (← same.count, lt-leb mark (used t) (omega arith)) (agreed_refused (refused 6))
      held header header' (yes inside) =
          rw (← same.count, le-leb mark (used t) inside, ← same_first mark inside) (kept inside header header' (end_by mark (load slim t 0 mark)))

      go : (c : Bool) → headed slim t ≡ c → (d : Bool) → headed slim' u ≡ d
          → NotUnder 4 (cond c one (refusal 4 t)) → NotUnder 4 (cond d other (refusal 4 u)) → Agreed slim slim' (cond c one (refusal 4 t)) (cond d other (refusal 4 u))
      go false is d is' four four' = absurd (four refl)
      go true is false is' four four' = absurd (four' refl)
      go true is true is' four four' = held (headed_in_order t is) (headed_in_order u is') (dec_le mark (used t))

-- clear: whatever the tapes held

same_cleared : (slim slim' : Bool) (t u : List ℕ) → Same slim slim' (cleared slim t) (cleared slim' u)
unfolding load
same_cleared slim slim' t u =
    record { count = used_cleared slim t ∙ sym (used_cleared slim' u); records = rw (used_cleared slim t, used_cleared slim' u) refl }

pub agreed_clear : (slim slim' : Bool) (t u : List ℕ) → NotUnder 4 (clear_call slim t) → NotUnder 4 (clear_call slim' u) → Agreed slim slim' (clear_call slim t) (clear_call slim' u)
unfolding clear_call
agreed_clear slim slim' t u = go (leb 4 (length t)) (leb 4 (length u))
  where
    one : Bool → After
    one b = cond b (finished (cleared slim t)) (refusal 4 t)

    other : Bool → After
    other b = cond b (finished (cleared slim' u)) (refusal 4 u)

    go : (b c : Bool) → NotUnder 4 (one b) → NotUnder 4 (other c) → Agreed slim slim' (one b) (other c)
    go false c four four' = absurd (four refl)
    go true false four four' = absurd (four' refl)
    go true true four four' = record { needed = refl; outcome = λ has has'. refl; records = λ has has'. same_cleared slim slim' t u }

-- the request

-- of two runs of one call, from equal records, neither tape refused under 4
pub agreed : (call : Writing) (slim slim' : Bool) (t u : List ℕ) → Same slim slim' t u → {o o' : Outcome} {x x' : List ℕ}
    → Gives (made call slim t) o x → Gives (made call slim' u) o' x'
    → NotUnder 4 (record { outcome = o; lent = x }) → NotUnder 4 (record { outcome = o'; lent = x' }) → Agreed slim slim' (record { outcome = o; lent = x }) (record { outcome = o'; lent = x' })
agreed call slim slim' t u same ran ran' tape tape' = rw (gives_after ran, gives_after ran') (go call (not_4 ran tape) (not_4 ran' tape'))
  where
    not_4 : {meant : After} {o : Outcome} {x : List ℕ} → Gives meant o x → NotUnder 4 (record { outcome = o; lent = x }) → NotUnder 4 meant
    not_4 ran tape four = tape (ap (λ (o : Outcome). o.answer) ran.gave ∙ four)

    go : (call : Writing) → NotUnder 4 (made call slim t) → NotUnder 4 (made call slim' u) → Agreed slim slim' (made call slim t) (made call slim' u)
    go clear = agreed_clear slim slim' t u
    go (walk registry area base) = agreed_area slim slim' t u same (walked usual) (usual_nearby leave) registry area base
    go (push registry area base) = agreed_area slim slim' t u same (pushed usual) (usual_nearby show) registry area base
    go (cut_back mark) = agreed_cut slim slim' t u same mark

-- read gives the same answer and the same record
pub same_reading : (slim slim' : Bool) (t u : List ℕ) (at : ℕ) → Same slim slim' t u → {reading reading' : Reading}
    → reading ≡ read_call slim t at → reading' ≡ read_call slim' u at
    → (¬ (reading.outcome.answer ≡ 4)) → (¬ (reading'.outcome.answer ≡ 4)) → reading ≡ reading'
unfolding read_call
same_reading slim slim' t u at same is is' = rw (is, is') (go (headed slim t) (headed slim' u))
  where
    given : Bool → Record → Reading
    given e r = cond e (record { outcome = done; «record» = r }) (no_record 8)

    one : Reading
    one = cond (ltb at (used t)) (given (readable (record_at slim t at)) (record_at slim t at)) (no_record 6)

    other : Reading
    other = cond (ltb at (used u)) (given (readable (record_at slim' u at)) (record_at slim' u at)) (no_record 6)

    there : Dec (used t ≤ at) → one ≡ other
    there (yes past) = rw (← same.count, le-ltb at (used t) past) refl
    there (no inside) = rw (← same.count, same_record slim slim' t u same at (omega arith)) refl

    go : (c d : Bool) → (¬ ((cond c one (no_record 4)).outcome.answer ≡ 4)) → (¬ ((cond d other (no_record 4)).outcome.answer ≡ 4)) → cond c one (no_record 4) ≡ cond d other (no_record 4)
    go false d four four' = absurd (four refl)
    go true false four four' = absurd (four' refl)
    go true true four four' = there (dec_le (used t) at)

-- the nest test: yes of the one tape, yes of the other
nests : (slim slim' : Bool) (t u : List ℕ) → Same slim slim' t u → headed slim' u ≡ true → nest_test slim t ≡ true → nest_test slim' u ≡ true
nests slim slim' t u same good' says =
    let split = (yes_nested slim t says).records in
    nested_yes slim' u
    (record {
      header = headed_in_order u good';
      records = record {
        forest = split.forest;
        held = ap (load slim' u 0) (omega arith) ∙ sym same.records ∙ ap (load slim t 0) (omega arith) ∙ split.held;
        shallow = split.shallow;
        formed = split.formed;
      };
    })

-- it says no under 4; otherwise it gives the same answer
pub same_nest : (slim slim' : Bool) (t u : List ℕ) → Same slim slim' t u → headed slim t ≡ true → headed slim' u ≡ true → nest_test slim t ≡ nest_test slim' u
same_nest slim slim' t u same good good' = go (nest_test slim t) refl (nest_test slim' u) refl
  where
    back : Same slim' slim u t
    back = record { count = sym same.count; records = sym same.records }

    go : (b : Bool) → nest_test slim t ≡ b → (c : Bool) → nest_test slim' u ≡ c → b ≡ c
    go true is c is' = sym (nests slim slim' t u same good' is) ∙ is'
    go false is true is' = sym is ∙ nests slim' slim u t back good is'
    go false is false is' = refl
