-- Records and forests that either layout gives back.
use Rattle.std.specs.Prelude.{Bool, true, false, List, [], ◌∷◌, ◌<◌}
use Rattle.tape.specs.Forest.{Forest, none, leaf, node}
use Rattle.tape.specs.declared.Content.{Content}
use Rattle.tape.specs.declared.Record.{Record}

-- records

-- its octets and positions are below 4,294,967,296, so that either layout gives it back
pub record Small (r : Record) : Type 0 where
  pub start : r.start.0 < 4294967296
  pub end : r.end.0 < 4294967296
  pub first : r.first.0 < 4294967296
  pub past : r.past.0 < 4294967296

-- a layout gives a record back: six words any, four a small one
abbrev pub Kept : Bool → Record → Type 0
Kept false r = Unit {0}
Kept true r = Small r

-- and each of some
unfoldable pub AllKept : Bool → List Record → Type 0
AllKept slim [] = Unit {0}
AllKept slim (r ∷ rs) = Kept slim r × AllKept slim rs

-- forests

-- octets below 4,294,967,296
pub record NearContent (m : Content) : Type 0 where
  pub start : m.start.0 < 4294967296
  pub end : m.end.0 < 4294967296

-- of each record
unfoldable pub Near : Forest → Type 0
Near none = Unit {0}
Near (leaf m f) = NearContent m × Near f
Near (node m k f) = NearContent m × (Near k × Near f)
