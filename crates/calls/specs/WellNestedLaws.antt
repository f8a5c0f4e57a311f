-- The nest test's yes is WellNested; and records of a forest laid behind trees leave trees.
use Rattle.std.specs.Prelude.{◌≡◌, Bool, true, List, ◌++◌, ℕ, ◌+◌, ◌-◌, ◌≤◌, ◌<◌, length, get_or}
use Rattle.std.proofs.Common.{sym, ap, ◌∙◌, inl, zero-add, arith}
use Rattle.calls.specs.Limits.{deepest}
use Rattle.tape.specs.Both.{both, and_true}
use Rattle.tape.specs.LayoutLaws.{word_late}
use Rattle.tape.specs.Near.{Near}
use Rattle.tape.specs.Tape.{InOrder, used, room, headed, with_used, load}
use Rattle.tape.specs.HeaderLaws.{headed_in_order, in_order_headed, with_used_in_order}
use Rattle.tape.specs.LoadLaws.{load_append, load_with_used, used_with_used}
use Rattle.tape.specs.Forest.{Forest, size, ◌⧺◌, flat, depth, Formed}
use Rattle.tape.specs.ForestLaws.{flat-⧺, depth-⧺, formed-⧺}
use Rattle.tape.specs.Laid.{Laid}
use Rattle.tape.proofs.LaidLaws.{laid_length, laid_load, laid_other, laid_before}
use Rattle.calls.specs.Nest.{trees, nest_test}
use Rattle.calls.specs.WellNested.{WellNested}
use Rattle.calls.specs.SplitLaws.{trees_split, split_trees, size_held}
use Rattle.tape.specs.declared.Record.{Record}

-- the nest test says yes only there
pub yes_nested : (slim : Bool) (t : List ℕ) → nest_test slim t ≡ true → WellNested slim t
unfolding nest_test
yes_nested slim t yes' =
    let x = both (headed slim t) (trees slim t deepest 0 (used t)) yes' in
    record { header = headed_in_order t x.0; records = trees_split slim t deepest 0 (used t) x.1 }

-- and it says yes there
pub nested_yes : (slim : Bool) (t : List ℕ) → WellNested slim t → nest_test slim t ≡ true
unfolding nest_test
nested_yes slim t x = and_true (in_order_headed t x.header) (split_trees slim t deepest 0 (used t) (omega arith) x.records)

-- laid behind trees

-- a header stays in order under records that are laid inside the tape and counted
pub in_order_laid : {slim : Bool} (t u : List ℕ) (f : Forest) (at next : ℕ) → Laid slim f t u at next → InOrder slim t → next ≤ room slim t → InOrder slim (with_used next u)
in_order_laid {slim} t u f at next laid x inside =
    let word : (k : ℕ) → k < 4 → get_or u k 0 ≡ get_or t k 0 = λ k small. laid_other k laid (inl (omega (arith, word_late slim at))) in
    let length' : length u ≡ length t = laid_length laid in
    with_used_in_order u next
    (record {
      long = omega (arith, x.long);
      offset = word 1 (omega arith) ∙ x.offset;
      «width» = word 2 (omega arith) ∙ x.«width»;
      last = word 3 (omega arith) ∙ x.last;
      fits = rw (word 0 (omega arith), length') x.fits;
    })
    (rw length' inside)

-- records of a forest no deeper than allowed, laid behind trees, leave trees
pub nested_laid : {slim : Bool} (t u : List ℕ) (f : Forest) (next : ℕ) → WellNested slim t → depth f ≤ deepest → Formed f → Near f → Laid slim f t u (used t) next → next ≤ room slim t → WellNested slim (with_used next u)
nested_laid {slim} t u f next x shallow formed near laid inside =
    let long : 4 ≤ length u = rw (laid_length laid) x.header.long in
    let old : Forest = x.records.forest in
    let count : used t - 0 ≡ size old = size_held slim t 0 (used t - 0) old x.records.held in
    let before : load slim u 0 (used t) ≡ flat 0 old = laid_before 0 (used t) laid (omega arith) ∙ ap (load slim t 0) (omega arith) ∙ x.records.held in
    let behind : load slim u (used t) (size f) ≡ flat (used t) f = laid_load laid near x.header.long inside in
    let total : used (with_used next u) - 0 ≡ used t + size f = omega (arith, used_with_used u next long, laid.place) in
    let place : used t ≡ 0 + size old = omega arith in
    record {
      header = in_order_laid t u f (used t) next laid x.header inside;
      records =
          record {
            forest = old ⧺ f;
            held =
                ap (load slim (with_used next u) 0) total
                ∙ load_with_used slim u next 0 (used t + size f)
                ∙ load_append slim (used t) (size f) u 0
                ∙ ap (λ (l : List Record). l ++ load slim u (0 + used t) (size f)) before
                ∙ ap (λ (n : ℕ). flat 0 old ++ load slim u n (size f)) (zero-add (used t))
                ∙ ap (λ (l : List Record). flat 0 old ++ l) (behind ∙ ap (λ (n : ℕ). flat n f) place)
                ∙ sym (flat-⧺ old f 0);
            shallow = omega (arith, depth-⧺ old f, x.records.shallow);
            formed = formed-⧺ old f x.records.formed formed;
          };
    }
