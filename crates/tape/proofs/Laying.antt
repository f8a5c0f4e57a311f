-- A loop that lays a forest piece by piece: what is laid, and what is left.
use Rattle.std.specs.Prelude.{◌≡◌, refl, Bool, List, ℕ, ◌+◌, ◌≤◌}
use Rattle.std.proofs.Common.{sym, ap, ◌∙◌, arith}
use Rattle.tape.specs.Forest.{Forest, none, size, ◌⧺◌}
use Rattle.tape.specs.ForestLaws.{⧺-none, ⧺-assoc, size-⧺}
use Rattle.tape.specs.Laid.{Laid}
use Rattle.tape.proofs.LaidLaws.{laid_none, laid_then}

-- left i is what the octets from i on become, and more i how many of them are taken
pub record Laying (slim : Bool) (left : ℕ → Forest) (more : ℕ → ℕ) (t u : List ℕ) (at i next : ℕ) : Type 0 where
  pub front : Forest
  pub laid : Laid slim front t u at next
  pub whole : front ⧺ left i ≡ left 0
  pub count : i + more i ≡ more 0

-- before the first turn
pub laying_start : {slim : Bool} (left : ℕ → Forest) (more : ℕ → ℕ) (t : List ℕ) (at : ℕ) → Laying slim left more t t at 0 at
unfolding ◌⧺◌
laying_start {slim} left more t at = record { front = none; laid = laid_none; whole = refl; count = omega arith }

-- one turn, from octet i to octet j
pub laying_step : {slim : Bool} {left : ℕ → Forest} {more : ℕ → ℕ} {t u w : List ℕ} {at i next next' : ℕ} (j : ℕ) (f : Forest)
    → Laying slim left more t u at i next → left i ≡ f ⧺ left j → i + more i ≡ j + more j → Laid slim f u w next next' → Laying slim left more t w at j next'
laying_step {slim} {left} {more} {i = i} j f g e c d =
    record {
      front = g.front ⧺ f;
      laid = laid_then g.laid d;
      whole = ⧺-assoc g.front f (left j) ∙ ap (λ (x : Forest). g.front ⧺ x) (sym e) ∙ g.whole;
      count = sym c ∙ g.count;
    }

-- after the last turn
pub laying_end : {slim : Bool} {left : ℕ → Forest} {more : ℕ → ℕ} {t u : List ℕ} {at i next : ℕ}
    → Laying slim left more t u at i next → left i ≡ none → more i ≡ 0 → Laid slim (left 0) t u at next × (i ≡ more 0)
laying_end {slim} {left} {more} {t} {u} {at} {i} {next} g e c =
    let k : g.front ≡ left 0 = sym (⧺-none g.front) ∙ ap (λ (x : Forest). g.front ⧺ x) (sym e) ∙ g.whole in
    (rw (← k) g.laid, omega (arith, g.count))

-- the room that a turn has: the whole is at least what is laid and the turn's part
pub laying_room : {slim : Bool} {left : ℕ → Forest} {more : ℕ → ℕ} {t u : List ℕ} {at i next : ℕ} (j : ℕ) (f : Forest)
    → Laying slim left more t u at i next → left i ≡ f ⧺ left j → next + size f ≤ at + size (left 0)
laying_room {slim} {left} {i = i} j f g e = omega (arith, g.laid.place, ap size g.whole, size-⧺ g.front (left i), ap size e, size-⧺ f (left j))

-- what is laid lies inside the whole
pub laying_inside : {slim : Bool} {left : ℕ → Forest} {more : ℕ → ℕ} {t u : List ℕ} {at i next : ℕ} → Laying slim left more t u at i next → (at ≤ next) × (next ≤ at + size (left 0))
laying_inside {left = left} {i = i} g = (omega (arith, g.laid.place), omega (arith, g.laid.place, ap size g.whole, size-⧺ g.front (left i)))
