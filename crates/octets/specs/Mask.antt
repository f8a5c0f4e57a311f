-- Document 01, 'Masking': bits after the first b become 0; with b at or past the end, nothing changes.
use Rattle.std.specs.Prelude.{ℕ, ◌-◌, ◌/◌, ◌%◌, ◌^◌, ◌≡◌, List, [], ◌∷◌, get_or}

-- an octet whose first b bits are kept, the others 0 (from 8 on: the octet)
unfoldable pub kept : ℕ → ℕ → ℕ
kept b x = x - x % 2 ^ (8 - b)

-- octets whose first b bits are kept
unfoldable pub masked : ℕ → List ℕ → List ℕ
masked b [] = []
masked b (x ∷ xs) = kept b x ∷ masked (b - 8) xs

-- the contract of mask: every lent octet afterwards
pub record Masks (bits : ℕ) (before after : List ℕ) : Type 0 where
  pub left : after ≡ masked bits before

-- bit k of the octets, counted from the first octet's most significant bit, from 0
unfoldable pub bit : List ℕ → ℕ → ℕ
bit xs k = get_or xs (k / 8) 0 / 2 ^ (7 - k % 8) % 2
