-- Trees of records without positions, and the records that they become from a position on.
use Rattle.std.specs.Prelude.{Bool, true, false, List, [], ◌∷◌, ◌++◌, ◌≡◌, ℕ, suc, ◌+◌, ◌<◌, max}
use Rattle.tape.specs.Record.{holds, leaf_record, container_record}
use Rattle.tape.specs.declared.Content.{Content}
use Rattle.tape.specs.declared.Record.{Record}

-- trees side by side: none; a leaf and the trees after it; a container, the trees in it and the trees after it
pub data Forest : Type 0 where
  none : Forest
  leaf : Content → Forest → Forest
  node : Content → Forest → Forest → Forest

-- how many records
abbrev pub size : Forest → ℕ
size none = 0
size (leaf m f) = suc (size f)
size (node m k f) = suc (size k + size f)

infixr 60 ◌⧺◌
-- one forest after the other
unfoldable pub ◌⧺◌ : Forest → Forest → Forest
none ⧺ g = g
(leaf m f) ⧺ g = leaf m (f ⧺ g)
(node m k f) ⧺ g = node m k (f ⧺ g)

-- the records of a forest, the first at a position: children of a container follow it at once
unfoldable pub flat : ℕ → Forest → List Record
flat at none = []
flat at (leaf m f) = leaf_record m ∷ flat (suc at) f
flat at (node m k f) = container_record m (suc at) (suc at + size k) ∷ (flat (suc at) k ++ flat (suc at + size k) f)

-- how many containers deep
unfoldable pub depth : Forest → ℕ
depth none = 0
depth (leaf m f) = depth f
depth (node m k f) = max (suc (depth k)) (depth f)

-- label and shape are an octet each, so that word 0 gives them back, and the shape is a container's or is not
pub record Fits (container : Bool) (m : Content) : Type 0 where
  pub label : m.label < 256
  pub shape : m.shape < 256
  pub kind : holds m.shape ≡ container

-- containers have a container's shape, and leaves have not
unfoldable pub Formed : Forest → Type 0
Formed none = Unit {0}
Formed (leaf m f) = Fits false m × Formed f
Formed (node m k f) = Fits true m × (Formed k × Formed f)
