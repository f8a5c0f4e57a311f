-- Laws of the calls' contracts.
use Rattle.std.specs.Prelude.{◌≡◌, refl, List, ℕ}
use Rattle.std.proofs.Common.{sym, ◌∙◌, ap}
use Rattle.outcome.specs.Call.{Outcome, After, Gives, GivesNumbers, numbers_of}

-- two results that meet a call's contract are equal
pub gives_unique : {meant : After} {one other : Outcome} {exit exit' : List ℕ} → Gives meant one exit → Gives meant other exit' → (one ≡ other) × (exit ≡ exit')
gives_unique a b = (a.gave ∙ sym b.gave, a.left ∙ sym b.left)

-- two results that meet such a contract are equal
pub numbers_unique : {meant : After} {one other exit exit' : List ℕ} → GivesNumbers meant one exit → GivesNumbers meant other exit' → (one ≡ other) × (exit ≡ exit')
numbers_unique a b = (a.gave ∙ sym b.gave, a.left ∙ sym b.left)

-- a result that meets a call's contract is what the definition says
pub gives_after : {meant : After} {outcome : Outcome} {exit : List ℕ} → Gives meant outcome exit → record { outcome = outcome; lent = exit } ≡ meant
gives_after a = λ j. record { outcome = a.gave j; lent = a.left j }

-- from the one contract to the other
pub gives_numbers : {meant : After} {outcome : Outcome} {numbers exit : List ℕ} → numbers ≡ numbers_of outcome → Gives meant outcome exit → GivesNumbers meant numbers exit
gives_numbers {meant} wrote a = record { gave = wrote ∙ ap numbers_of a.gave; left = a.left }

-- and back: over the C boundary an outcome crossed that met the call's contract
pub numbers_gives : {meant : After} {numbers exit : List ℕ} → GivesNumbers meant numbers exit → (outcome : Outcome) × (numbers ≡ numbers_of outcome) × Gives meant outcome exit
numbers_gives {meant} a = (meant.outcome, a.gave, record { gave = refl; left = a.left })

-- a contract follows from that of an equal definition
pub gives_as : {meant same : After} {outcome : Outcome} {exit : List ℕ} → meant ≡ same → Gives same outcome exit → Gives meant outcome exit
gives_as e a = rw e a

-- two results that equal one definition are equal
pub is_unique : {A : Type 0} {meant one other : A} → one ≡ meant → other ≡ meant → one ≡ other
is_unique a b = a ∙ sym b
