-- What a call gives back and leaves, and the form of the contract of a call that gives an outcome.
use Rattle.std.specs.Prelude.{◌≡◌, List, [], ◌∷◌, ℕ}

-- the numbers that a call gives back: the answer, the octets covered, the records (for a name: octets) written and the records needed
pub record Outcome : Type 0 where
  pub answer : ℕ
  pub covered : ℕ
  pub written : ℕ
  pub needed : ℕ

-- an answer alone: 0 covered, 0 written, 0 needed
abbrev pub bare : ℕ → Outcome
bare answer = record { answer = answer; covered = 0; written = 0; needed = 0 }

-- done, with nothing to count: clear, cut back and read give 0 in the last three
abbrev pub done : Outcome
done = bare 0

-- a refusal that tells its number alone
abbrev pub refused : ℕ → Outcome
refused answer = bare answer

-- the refusal under 5, which tells how many records are needed
abbrev pub no_room : ℕ → Outcome
no_room needed = record { answer = 5; covered = 0; written = 0; needed = needed }

-- what a call gives back, and every word or octet that was lent to it, afterwards
pub record After : Type 0 where
  pub outcome : Outcome
  pub lent : List ℕ

-- a refusal changes no lent word or octet
abbrev pub refusal : ℕ → List ℕ → After
refusal answer lent = record { outcome = refused answer; lent = lent }

-- done, and what was lent, afterwards
abbrev pub finished : List ℕ → After
finished lent = record { outcome = done; lent = lent }

-- the contract of a call: what it gave, and what was lent as it returns, are the definition's
pub record Gives (meant : After) (outcome : Outcome) (exit : List ℕ) : Type 0 where
  pub gave : outcome ≡ meant.outcome
  pub left : exit ≡ meant.lent

-- the four numbers of an outcome, as they cross the C boundary
abbrev pub numbers_of : Outcome → List ℕ
numbers_of o = o.answer ∷ o.covered ∷ o.written ∷ o.needed ∷ []

-- the contract of a call over the C boundary, where the numbers are written to a place that is lent for them
pub record GivesNumbers (meant : After) (numbers exit : List ℕ) : Type 0 where
  pub gave : numbers ≡ numbers_of meant.outcome
  pub left : exit ≡ meant.lent
