-- The SRv6 tail (document 01, 'SRv6 tail'; RFC 9352, section 7.2): 16 octets of SID, a length octet, an inner area.
use Rattle.std.specs.Prelude.{Bool, List, ℕ, ◌+◌, leb, length, get_or, take, drop}

-- RFC 9352, section 7.2: the SID has 16 octets, and a length octet follows it
abbrev pub length_at : ℕ → ℕ
length_at at = at + 16

-- the length octet is there, and so are as many octets as it says; without a length octet there are not so many octets, whatever it would say
abbrev pub inner_fits : List ℕ → ℕ → Bool
inner_fits v at = leb (length_at at + 1 + get_or v (length_at at) 0) (length v)

-- the inner area, which begins after the length octet
abbrev pub inner : List ℕ → ℕ → List ℕ
inner v at = take (get_or v (length_at at) 0) (drop (length_at at + 1) v)
