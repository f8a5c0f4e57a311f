-- The shapes of document 01, 'The tape': of leaves 0 U8, 1 U16, 2 U32, 3 U64, 4 IPv4, 5 IPv6, 6 Bytes, of containers 7 Array, 8 Object.
use Rattle.std.specs.Prelude.{ℕ, Bool, true, false}

-- the shapes of leaves
pub data Shape : Type 0 where
  u8 u16 u32 u64 ipv4 ipv6 bytes : Shape

-- the shapes of containers
pub data Container : Type 0 where
  array object : Container

-- the number of a leaf's shape
abbrev pub shape_number : Shape → ℕ
shape_number u8 = 0
shape_number u16 = 1
shape_number u32 = 2
shape_number u64 = 3
shape_number ipv4 = 4
shape_number ipv6 = 5
shape_number bytes = 6

-- the number of a container's shape
abbrev pub container_number : Container → ℕ
container_number array = 7
container_number object = 8

-- shapes 4 to 6 carry no number: the octets are those in the range
abbrev pub has_number : Shape → Bool
has_number u8 = true
has_number u16 = true
has_number u32 = true
has_number u64 = true
has_number ipv4 = false
has_number ipv6 = false
has_number bytes = false
