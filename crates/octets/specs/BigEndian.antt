-- Numbers in octets, the most significant octet first.
use Rattle.std.specs.Prelude.{ℕ, zero, suc, ◌+◌, ◌*◌, List, Bool, ◌||◌, eqb, get_or}

-- the number in the `width` octets of s from `at` on
unfoldable pub big_endian : List ℕ → ℕ → ℕ → ℕ
big_endian s at zero = 0
big_endian s at (suc width) = big_endian s at width * 256 + get_or s (at + width) 0

-- the widths that are read
abbrev pub is_width : ℕ → Bool
is_width width = eqb width 1 || (eqb width 2 || (eqb width 3 || (eqb width 4 || eqb width 8)))
