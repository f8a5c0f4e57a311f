-- Room after a clear or cut is free: the next call finds as much room as there was, and writes from the mark on.
use Rattle.std.specs.Prelude.{◌≡◌, refl, Bool, true, false, List, ℕ, ◌≤◌, length}
use Rattle.std.proofs.Common.{sym, ap, ◌∙◌, arith, length-set}
use Rattle.std.proofs.Math.Decide.{dec_le}
use Rattle.std.proofs.Math.Seq.{length-sets}
use Rattle.outcome.specs.Call.{After, Gives, Outcome}
use Rattle.tape.specs.Tape.{InOrder, used, room, headed, with_used, load}
use Rattle.tape.specs.HeaderLaws.{headed_in_order, in_order_headed, with_used_in_order}
use Rattle.tape.specs.LoadLaws.{used_with_used}
use Rattle.calls.specs.Calls.{cleared, clear_call, end_by, cut_back_call}
use Rattle.calls.specs.CallsLaws.{clear_4, clear_0, cleared_in_order, used_cleared, cut_4, cut_6, cut_7, cut_0}

module _ (slim : Bool) where
  -- the tape t became x: its header is in order, it has as much room, and n records are used
  pub record Freed (t x : List ℕ) (n : ℕ) : Type 0 where
    pub in_order : headed slim x ≡ true
    pub same_room : room slim x ≡ room slim t
    pub count : used x ≡ n

  -- an answer, as the definition has it
  answer_of : {meant after : After} {o : Outcome} {x : List ℕ} → Gives meant o x → o.answer ≡ 0 → meant ≡ after → after.outcome.answer ≡ 0
  answer_of ran zero is = sym (ap (λ (a : After). a.outcome.answer) is) ∙ sym (ap (λ (o : Outcome). o.answer) ran.gave) ∙ zero

  -- after a clear: no record is used
  pub clear_frees : (t : List ℕ) (o : Outcome) (x : List ℕ) → Gives (clear_call slim t) o x → o.answer ≡ 0 → Freed t x 0
  clear_frees t o x ran zero = go (dec_le 4 (length t))
    where
      go : Dec (4 ≤ length t) → Freed t x 0
      go (no short) = absurd (omega (arith, answer_of ran zero (clear_4 slim t (omega arith))))
      go (yes long) =
          let left : x ≡ cleared slim t = ran.left ∙ ap (λ (a : After). a.lent) (clear_0 slim t long) in
          rw left (record { in_order = in_order_headed (cleared slim t) (cleared_in_order slim t long); same_room = rw length-sets refl; count = used_cleared slim t })

  -- after a cut back: those before the mark
  pub cut_frees : (t : List ℕ) (mark : ℕ) (o : Outcome) (x : List ℕ) → Gives (cut_back_call slim t mark) o x → o.answer ≡ 0 → Freed t x mark
  cut_frees t mark o x ran zero = go (headed slim t) refl (dec_le mark (used t)) (end_by mark (load slim t 0 mark)) refl
    where
      go : (a : Bool) → headed slim t ≡ a → Dec (mark ≤ used t) → (b : Bool) → end_by mark (load slim t 0 mark) ≡ b → Freed t x mark
      go false bad inside b ends = absurd (omega (arith, answer_of ran zero (cut_4 slim t mark bad)))
      go true good (no past) b ends = absurd (omega (arith, answer_of ran zero (cut_6 slim t mark good (omega arith))))
      go true good (yes inside) false ends = absurd (omega (arith, answer_of ran zero (cut_7 slim t mark good inside ends)))
      go true good (yes inside) true ends =
          let header : InOrder slim t = headed_in_order t good in
          let left : x ≡ with_used mark t = ran.left ∙ ap (λ (a : After). a.lent) (cut_0 slim t mark good inside ends) in
          rw left
          (record {
            in_order = in_order_headed (with_used mark t) (with_used_in_order t mark header (omega (arith, header.long, header.fits)));
            same_room = rw length-set refl;
            count = used_with_used t mark header.long;
          })
