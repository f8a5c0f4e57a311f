-- What holds of nothing, and of two forests one after the other where it holds of each.
use Rattle.std.specs.Prelude.{Bool, true, false, cond, ℕ, ◌+◌, drop}
use mathlib.Core.List.{List, [], ◌∷◌}
use Rattle.tape.specs.Forest.{Forest, none, ◌⧺◌}
use Rattle.meaning.specs.Frame.{covered, remainder}
use Rattle.meaning.specs.Field.{Field}
use Rattle.meaning.specs.Tree.{raw, value}
use Rattle.meaning.specs.Value.{taken, Walk, push_by, field_trees, fields_trees, value_trees}
use Rattle.theorems.specs.Plan.{Every}

pub record Closed (P : Forest → Type 0) : Type 0 where
  pub nothing : P none
  pub together : (f g : Forest) → P f → P g → P (f ⧺ g)

-- one or the other
pub either : (P : Forest → Type 0) (b : Bool) (f g : Forest) → P f → P g → P (cond b f g)
either P true f g x y = x
either P false f g x y = y

module _ (P : Forest → Type 0) (closed : Closed P) (walk : Walk) where
  -- a push
  pub push_closed : (registry : ℕ) (area : List ℕ) (base : ℕ) → P (walk registry area base) → P (raw registry (base + covered area) (remainder area)) → P (push_by walk registry area base)
  unfolding push_by
  push_closed registry area base x y = closed.together (walk registry area base) (raw registry (base + covered area) (remainder area)) x y

  module _ (registry : ℕ) (v : List ℕ) (base : ℕ) where
    -- fields
    fields_closed : (fs : List Field) → Every (λ (f : Field). P (field_trees walk registry v base f)) fs → P (fields_trees walk registry v base fs)
    unfolding fields_trees
    fields_closed [] x = closed.nothing
    fields_closed (f ∷ fs) x = closed.together (field_trees walk registry v base f) (fields_trees walk registry v base fs) x.0 (fields_closed fs x.1)

    -- a value
    pub value_closed : P (value registry base v) → ((n : ℕ) → P (raw registry (base + n) (drop n v)))
        → (fs : List Field) → Every (λ (f : Field). P (field_trees walk registry v base f)) fs → P (value_trees walk registry v base fs)
    unfolding value_trees
    value_closed bare rest [] x = bare
    value_closed bare rest (f ∷ fs) x =
        closed.together (fields_trees walk registry v base (f ∷ fs)) (raw registry (base + taken v (f ∷ fs)) (drop (taken v (f ∷ fs)) v)) (fields_closed (f ∷ fs) x) (rest (taken v (f ∷ fs)))
