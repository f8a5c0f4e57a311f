-- What the examples say of the definitions.
use Rattle.std.specs.Prelude.{◌≡◌, Bool, true, false, List, map}
use Rattle.meaning.specs.Examples.Example.{Case, computed, wanted}
pub mod Example
pub mod Cases
pub mod RustCases

-- what the definitions give is what the examples say, on empty tapes of a layout
abbrev pub HoldIn : Bool → List Case → Type 0
HoldIn slim list = map (computed slim) list ≡ map (wanted slim) list

-- in both layouts
abbrev pub Hold : List Case → Type 0
Hold list = HoldIn false list × HoldIn true list
