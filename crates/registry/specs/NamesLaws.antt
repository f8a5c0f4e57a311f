-- Looking a type up among names in octets.
use Rattle.std.specs.Prelude.{◌≡◌, refl, Bool, true, false, cond, ℕ, ◌==◌, List, [], ◌∷◌, map, Option, Some, find as find_first, option_map, unwrap_or}
use Rattle.std.proofs.Common.{ap}
use mathlib.Core.List.{tail-eq_of_cons-eq}
use Prim.Native.String.{String}
use Rattle.registry.specs.Names.{Name, find, as_octets, in_octets}

-- as the code does it: whatever holds the names, where they are those of a list, the name of a type is the list's
module _ {A : Type 0} (kind : A → ℕ) (text : A → List ℕ) where
  one_more : (n : A) (a : Name) (b : Bool) (found : Option A) (later : String) → text n ≡ as_octets a.1 → unwrap_or (option_map text found) [] ≡ as_octets later
      → unwrap_or (option_map text (cond b (Some n) found)) [] ≡ as_octets (cond b a.1 later)
  one_more n a true found later same rest = same
  one_more n a false found later same rest = rest

  pub found_name : (names : List A) (all : List Name) (t : ℕ) → map (λ n. (kind n, text n)) names ≡ in_octets all
      → unwrap_or (option_map text (find_first (λ n. kind n == t) names)) [] ≡ as_octets (find all t)
  unfolding find
  found_name [] [] t same = refl
  found_name [] (a ∷ all) t same = cc
  found_name (n ∷ names) [] t same = cc
  found_name (n ∷ names) (a ∷ all) t same =
      let first : ◌≡◌ {A = ℕ × List ℕ} (kind n, text n) (a.0, as_octets a.1) = cc in
      rw (ap (λ (p : ℕ × List ℕ). p.0) first)
      (one_more n a (a.0 == t) (find_first (λ n. kind n == t) names) (find all t) (ap (λ (p : ℕ × List ℕ). p.1) first) (found_name names all t (tail-eq_of_cons-eq same)))
