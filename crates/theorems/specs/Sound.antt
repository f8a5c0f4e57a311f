-- What holds of every record that a walk or a push writes.
use Rattle.std.specs.Prelude.{◌≡◌, Bool, true, false, ℕ, zero, suc, ◌≤◌}
use Rattle.calls.specs.Limits.{last_label, last_shape, last_registry}
use Rattle.tape.specs.Record.{holds}
use Rattle.tape.specs.Forest.{Forest, none, leaf, node}
use Rattle.tape.specs.declared.Content.{Content}

-- a record that read gives back, whose shape is a container's or is not, and whose number is 0 where its shape carries none
pub record Fine (container : Bool) (m : Content) : Type 0 where
  pub label : m.label ≤ last_label
  pub shape : m.shape ≤ last_shape
  pub registry : m.registry ≤ last_registry
  pub order : m.start.0 ≤ m.end.0
  pub kind : holds m.shape ≡ container
  pub unused : 4 ≤ m.shape → m.number ≡ 0

-- trees of such records, at most d containers deep
unfoldable pub Sound : ℕ → Forest → Type 0
Sound d none = Unit {0}
Sound d (leaf m f) = Fine false m × Sound d f
Sound zero (node m k f) = ⊥
Sound (suc d) (node m k f) = Fine true m × (Sound d k × Sound (suc d) f)
