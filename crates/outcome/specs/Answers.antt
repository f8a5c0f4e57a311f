-- When a call gives which answer: the lines of a table, and the checks in their order.
use Rattle.std.specs.Prelude.{◌≡◌, ◌⊎◌, Bool, true, false, not, ◌&&◌, ◌||◌, List, [], ◌∷◌, ℕ, eqb}
use Rattle.outcome.specs.Call.{After}

-- a line of the table: its number, and when it holds
pub record Line : Type 1 where
  pub number : ℕ
  pub when : Type 0

-- the answer by lines that are checked one after the other: the number of the first that holds, and 0 where none does
unfoldable pub Answer : List Line → ℕ → Type 0
Answer [] n = n ≡ 0
Answer (l ∷ ls) n = (l.when × (n ≡ l.number)) ⊎ ((¬ l.when) × Answer ls n)

-- no line holds
unfoldable pub None : List Line → Type 0
None [] = Unit {0}
None (l ∷ ls) = (¬ l.when) × None ls

-- n is one of some numbers
unfoldable pub is_one_of : ℕ → List ℕ → Bool
is_one_of n [] = false
is_one_of n (m ∷ ms) = eqb n m || is_one_of n ms

-- numbers of which none is 0 and no two are the same
unfoldable pub are_distinct : List ℕ → Bool
are_distinct [] = true
are_distinct (n ∷ ns) = not (is_one_of n (0 ∷ ns)) && are_distinct ns

-- the numbers of lines
abbrev pub numbers_in : List Line → List ℕ
numbers_in [] = []
numbers_in (l ∷ ls) = l.number ∷ numbers_in ls

-- lines with distinct numbers
abbrev pub Distinct : List Line → Type 0
Distinct ls = are_distinct (numbers_in ls) ≡ true

-- what a call gave and left: the answer is the lines', and a refusal gives 0 covered and 0 written, needed 0 except under 5, and changes no lent word or octet
pub record Answered (lines : List Line) (lent : List ℕ) (after : After) : Type 0 where
  pub answer : Answer lines after.outcome.answer
  pub none_covered : (¬ (after.outcome.answer ≡ 0)) → after.outcome.covered ≡ 0
  pub none_written : (¬ (after.outcome.answer ≡ 0)) → after.outcome.written ≡ 0
  pub none_needed : (¬ (after.outcome.answer ≡ 0)) → (¬ (after.outcome.answer ≡ 5)) → after.outcome.needed ≡ 0
  pub unchanged : (¬ (after.outcome.answer ≡ 0)) → after.lent ≡ lent
