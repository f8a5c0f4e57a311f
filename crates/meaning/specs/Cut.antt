-- Cutting octets into pieces, one after the other: the complete entries of an area, ranges, tags, MSDs.
use Rattle.std.specs.Prelude.{List, [], ◌∷◌, ℕ, zero, suc, pred, ◌+◌, length, take}
use Rattle.tape.specs.Forest.{Forest, none, ◌⧺◌}

-- how many octets the complete piece in front has; 0: none stands there
abbrev pub Measure : Type 0
Measure = List ℕ → ℕ

-- a piece of so many octets in front of xs, and the pieces after it
abbrev pub first_piece : ℕ → List ℕ → List (List ℕ) → List (List ℕ)
first_piece zero xs after = []
first_piece (suc n) xs after = take (suc n) xs ∷ after

-- the pieces of xs after its first `skip` octets, which belong to a piece already taken
unfoldable pub pieces_after : ℕ → Measure → List ℕ → List (List ℕ)
pieces_after skip m [] = []
pieces_after (suc skip) m (x ∷ xs) = pieces_after skip m xs
pieces_after zero m (x ∷ xs) = first_piece (m (x ∷ xs)) (x ∷ xs) (pieces_after (pred (m (x ∷ xs))) m xs)

-- the complete pieces of xs, from its front on, up to the first place where none stands
unfoldable pub pieces : Measure → List ℕ → List (List ℕ)
pieces m xs = pieces_after 0 m xs

-- how many octets pieces have
unfoldable pub total : List (List ℕ) → ℕ
total [] = 0
total (p ∷ ps) = length p + total ps

-- what pieces become, one after the other, where f says what a piece becomes whose first octet stands at a place
unfoldable pub each : (List ℕ → ℕ → Forest) → ℕ → List (List ℕ) → Forest
each f at [] = none
each f at (p ∷ ps) = f p at ⧺ each f (at + length p) ps
