-- Two tests at once.
use Rattle.std.specs.Prelude.{◌≡◌, refl, Bool, true, false, ◌&&◌}

-- where both hold, each does
pub both : (a b : Bool) → (a && b) ≡ true → (a ≡ true) × (b ≡ true)
both true b h = (refl, h)
both false b h = (h, cc)

-- where each holds, both do
pub and_true : {a b : Bool} → a ≡ true → b ≡ true → (a && b) ≡ true
and_true x y = cc

-- three tests
pub and_assoc : (a b c : Bool) → ((a && b) && c) ≡ (a && (b && c))
and_assoc true b c = refl
and_assoc false b c = refl

-- a test that holds adds nothing
pub and_yes : (a : Bool) → (a && true) ≡ a
and_yes true = refl
and_yes false = refl

-- a test that fails decides
pub and_no : (a : Bool) → (a && false) ≡ false
and_no true = refl
and_no false = refl
