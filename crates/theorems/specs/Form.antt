-- Two areas that differ only inside the value of one entry, and the frame that they share.
use Rattle.std.specs.Prelude.{◌≡◌, ◌⊎◌, List, ◌∷◌, ◌++◌, ℕ, ◌+◌, ◌≤◌, ◌<◌, length, get_or, take}
use Rattle.meaning.specs.Frame.{entries, covered, remainder}

-- two areas of one length that differ only inside the n octets from a place on
pub record Differ (a a' : List ℕ) (at n : ℕ) : Type 0 where
  pub same_length : length a ≡ length a'
  pub outside : (k : ℕ) → (k < at) ⊎ (at + n ≤ k) → get_or a k 0 ≡ get_or a' k 0

-- where a has the entries ps, q and us, the entry q' of a' stands in the place of q, and all else is as in a
pub record SameFrame (a a' : List ℕ) (ps : List (List ℕ)) (q q' : List ℕ) (us : List (List ℕ)) : Type 0 where
  -- type and length of the entry
  pub same_head : take 2 q ≡ take 2 q'
  pub same_size : length q ≡ length q'
  -- the other entries
  pub others : entries a' ≡ ps ++ q' ∷ us
  -- entry count, covered octets and remainder
  pub same_count : length (entries a) ≡ length (entries a')
  pub same_covered : covered a ≡ covered a'
  pub same_remainder : remainder a ≡ remainder a'
