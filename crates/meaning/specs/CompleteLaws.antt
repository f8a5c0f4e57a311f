-- What is told by the complete piece in front.
use Rattle.std.specs.Prelude.{◌≡◌, refl, ℕ, zero, suc, ◌<◌, Some, None}
use Rattle.std.proofs.Common.{arith}
use Rattle.meaning.specs.Complete.{complete}

-- where one of w octets stands there, it is measured so ..
pub complete_is : (n : ℕ) {w : ℕ} → Some w ≡ complete n → (n ≡ w) × (0 < n)
complete_is zero is = absurd (cc)
complete_is (suc n) {w} is = let same : suc n ≡ w = cc in (same, omega arith)

-- .. where none does, 0
pub complete_none : (n : ℕ) → None ≡ complete n → n ≡ 0
complete_none zero none = refl
complete_none (suc n) none = absurd (cc)
