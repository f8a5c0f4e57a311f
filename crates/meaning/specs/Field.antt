-- How a value is read: its fields, in the order of their records.
use Rattle.std.specs.Prelude.{List, ℕ}
use Rattle.meaning.specs.Label.{Label}
use Rattle.meaning.specs.Shape.{Shape}

-- the part of a value that an array is read from: from a place on, or the first octets only
pub data Span : Type 0 where
  from : ℕ → Span
  first : ℕ → Span

-- what an array is made of
pub data Element : Type 0 where
  -- label, shape, width: numbers
  numbers : Label → Shape → ℕ → Element
  -- objects of an MSD type and an MSD value
  msds : Element
  -- objects of a size and a SID
  ranges : Element

-- a part of a value; places and widths are in octets, and the first place is 0
pub data Field : Type 0 where
  -- label, shape, place, width: a number, an address or plain octets
  part : Label → Shape → ℕ → ℕ → Field
  -- label, mask: a bit of octet 0
  flag : Label → ℕ → Field
  -- a SID, from a place on
  sid : ℕ → Field
  -- label, span, element: as many elements as fit
  array : Label → Span → Element → Field
  -- from a place on an SRv6 SID, a length octet, and an inner area walked in registry 4
  tail : ℕ → Field
  -- from a place on a push in registry 5, which takes the whole value
  push : ℕ → Field

-- how types are read: registry, type, least value length, fields
pub data Row : Type 0 where
  row : ℕ → ℕ → ℕ → List Field → Row

-- a plan, that is a reading of values: the fields of a value, by registry, type and value; none where it is not decoded
abbrev pub Plan : Type 0
Plan = ℕ → ℕ → List ℕ → List Field
