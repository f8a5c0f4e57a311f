-- A SID (document 01, 'SID'; RFC 8667, sections 2.1.1.1 and 2.3): the octet count alone decides.
use Rattle.std.specs.Prelude.{cond, List, ℕ, ◌+◌, ◌%◌, ◌^◌, leb, length}
use Rattle.octets.specs.BigEndian.{big_endian}
use Rattle.tape.specs.Forest.{Forest, none}
use Rattle.meaning.specs.Label.{Label}
use Rattle.meaning.specs.Shape.{u32}
use Rattle.meaning.specs.Tree.{one}

-- the SID that begins at a place of v: with 4 octets left or more, the first four as a 32-bit number; with 3, their low 20 bits; with fewer, nothing. base is the place of v's first octet
unfoldable pub sid_trees : Label → ℕ → List ℕ → ℕ → ℕ → Forest
sid_trees label registry v base at =
    cond (leb (at + 4) (length v)) (one label u32 registry (base + at) (base + at + 4) (big_endian v at 4))
    (cond (leb (at + 3) (length v)) (one label u32 registry (base + at) (base + at + 3) (big_endian v at 3 % 2 ^ 20))
    none)

-- one past its last octet
unfoldable pub sid_end : List ℕ → ℕ → ℕ
sid_end v at = cond (leb (at + 4) (length v)) (at + 4) (cond (leb (at + 3) (length v)) (at + 3) at)
