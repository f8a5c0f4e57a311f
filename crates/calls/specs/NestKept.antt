-- Where the nest test says yes before a clear or cut back, it says yes after.
use Rattle.std.specs.Prelude.{◌≡◌, refl, Bool, true, false, List, ℕ, zero, suc, ◌+◌, ◌-◌, ◌≤◌, ◌<◌, length}
use Rattle.std.proofs.Common.{sym, ap, ◌∙◌, ⊎_elim, arith}
use Rattle.std.proofs.Math.Decide.{dec_le}
use Rattle.outcome.specs.Call.{After}
use Rattle.calls.specs.Limits.{deepest}
use Rattle.tape.specs.Tape.{used, headed, with_used, record_at, load}
use Rattle.tape.specs.HeaderLaws.{in_order_headed, with_used_in_order}
use Rattle.tape.specs.LoadLaws.{load_with_used, used_with_used}
use Rattle.calls.specs.Calls.{cleared, clear_call, end_by, cut_back_call}
use Rattle.calls.specs.CallsLaws.{clear_0, cleared_in_order, used_cleared, fails_cut, cut_6, cut_7, cut_0}
use Rattle.calls.specs.Nest.{trees, nest_test}
use Rattle.calls.specs.NestLaws.{ends_container, trees_none, trees_cases, past_container, past_leaf}
use Rattle.calls.specs.WellNested.{Split, WellNested}
use Rattle.calls.specs.SplitLaws.{trees_split, split_trees}
use Rattle.calls.specs.WellNestedLaws.{yes_nested, nested_yes}

module _ (slim : Bool) where
  -- clear

  -- a cleared tape has no records
  cleared_nested : (t : List ℕ) → 4 ≤ length t → WellNested slim (cleared slim t)
  cleared_nested t long =
      record {
        header = cleared_in_order slim t long;
        records = trees_split slim (cleared slim t) deepest 0 (used (cleared slim t)) (trees_none slim (cleared slim t) deepest 0 (used (cleared slim t)) (omega (arith, used_cleared slim t)));
      }

  -- where the nest test says yes before a clear, it says yes of what the clear leaves
  pub clear_keeps : (t exit : List ℕ) → exit ≡ (clear_call slim t).lent → nest_test slim t ≡ true → nest_test slim exit ≡ true
  clear_keeps t exit left yes' =
      let long : 4 ≤ length t = (yes_nested slim t yes').header.long in
      let after : exit ≡ cleared slim t = left ∙ ap (λ (a : After). a.lent) (clear_0 slim t long) in
      rw after (nested_yes slim (cleared slim t) (cleared_nested t long))

  -- cut back

  -- one record before the mark, where what is behind it stays split
  cut_one : (t : List ℕ) (d at end mark : ℕ) → at < mark → mark ≤ end → (record_at slim t at).past.0 ≤ mark → trees slim t d at end ≡ true
      → ((past : ℕ) → at < past → trees slim t d past end ≡ true → trees slim t d past mark ≡ true)
      → trees slim t d at mark ≡ true
  cut_one t d at end mark below inside ends yes' behind =
      ⊎_elim
      (λ x. sym (past_leaf slim t d at mark below x.alone x.empty) ∙ behind (at + 1) (omega arith) x.after)
      (λ x. sym (past_container slim t d at mark below x.holding (omega (arith, x.deep)) (ends_container (record_at slim t at) at mark x.ends.first x.ends.after ends) x.inner)
      ∙ behind (record_at slim t at).past.0 (omega (arith, x.ends.after)) x.after)
      (trees_cases slim t d at end (omega arith) yes')

  -- all records before the mark
  cuts : (n : ℕ) (t : List ℕ) (d at end mark : ℕ) → mark ≤ at + n → mark ≤ end → ((i : ℕ) → at ≤ i → i < mark → (record_at slim t i).past.0 ≤ mark) → trees slim t d at end ≡ true → trees slim t d at mark ≡ true
  cuts zero t d at end mark bound inside ends yes' = trees_none slim t d at mark (omega arith)
  cuts (suc n) t d at end mark bound inside ends yes' =
      go (dec_le mark at) (λ below. cut_one t d at end mark below inside (ends at (omega arith) below) yes'
      (λ past after. cuts n t d past end mark (omega arith) inside (λ i from. ends i (omega arith))))
    where
      go : Dec (mark ≤ at) → (at < mark → trees slim t d at mark ≡ true) → trees slim t d at mark ≡ true
      go (yes past) one = trees_none slim t d at mark past
      go (no more) one = one (omega arith)

  -- where 7 does not hold, each record before the mark ends by it
  kept_ends : (t : List ℕ) (mark : ℕ) → end_by mark (load slim t 0 mark) ≡ true → (i : ℕ) → i < mark → (record_at slim t i).past.0 ≤ mark
  kept_ends t mark kept i below =
      let not : ¬ (mark < (record_at slim t i).past.0) = λ over. (fails_cut slim t mark).1 kept (i, below, over) in
      omega arith

  -- a tape cut back where the kept records end by the mark
  cut_nested : (t : List ℕ) (mark : ℕ) → WellNested slim t → mark ≤ used t → end_by mark (load slim t 0 mark) ≡ true → WellNested slim (with_used mark t)
  cut_nested t mark x inside kept =
      let before : trees slim t deepest 0 (used t) ≡ true = split_trees slim t deepest 0 (used t) (omega arith) x.records in
      let split : Split slim t deepest 0 mark = trees_split slim t deepest 0 mark (cuts mark t deepest 0 (used t) mark (omega arith) inside (λ i from. kept_ends t mark kept i) before) in
      let count : used (with_used mark t) ≡ mark = used_with_used t mark x.header.long in
      record {
        header = with_used_in_order t mark x.header (omega (arith, x.header.fits));
        records =
            record {
              forest = split.forest;
              held = ap (λ (n : ℕ). load slim (with_used mark t) 0 (n - 0)) count ∙ load_with_used slim t mark 0 (mark - 0) ∙ split.held;
              shallow = split.shallow;
              formed = split.formed;
            };
      }

  -- where the nest test says yes before a cut back, it says yes of what the cut leaves
  pub cut_keeps : (t exit : List ℕ) (mark : ℕ) → exit ≡ (cut_back_call slim t mark).lent → nest_test slim t ≡ true → nest_test slim exit ≡ true
  cut_keeps t exit mark left yes' = go (dec_le mark (used t)) (end_by mark (load slim t 0 mark)) refl
    where
      x : WellNested slim t
      x = yes_nested slim t yes'

      good : headed slim t ≡ true
      good = in_order_headed t x.header

      lent : {a : After} → cut_back_call slim t mark ≡ a → exit ≡ a.lent
      lent e = left ∙ ap (λ (a : After). a.lent) e

      go : Dec (mark ≤ used t) → (b : Bool) → end_by mark (load slim t 0 mark) ≡ b → nest_test slim exit ≡ true
      go (no past) b is = rw (lent (cut_6 slim t mark good (omega arith))) yes'
      go (yes inside) false is = rw (lent (cut_7 slim t mark good inside is)) yes'
      go (yes inside) true is = rw (lent (cut_0 slim t mark good inside is)) (nested_yes slim (with_used mark t) (cut_nested t mark x inside is))
