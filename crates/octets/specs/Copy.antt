-- Octets in front of others.
use Rattle.std.specs.Prelude.{ℕ, List, ◌++◌, length, drop}

-- what stands in `to` once `from` is copied to its front
unfoldable pub in_front : List ℕ → List ℕ → List ℕ
in_front from to = from ++ drop (length from) to
