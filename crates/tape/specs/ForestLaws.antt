-- Laws of forests, and of the records that they become.
use Rattle.std.specs.Prelude.{◌≡◌, refl, List, [], ◌∷◌, ◌++◌, map, ℕ, suc, ◌+◌, max, length}
use Rattle.std.proofs.Common.{sym, ap, ◌∙◌, append_assoc, add-zero, suc-add, arith, length-append}
use Rattle.std.proofs.Math.Nat.{add_right_comm}
use Rattle.tape.specs.Record.{leaf_record, container_record, moved}
use Rattle.tape.specs.Forest.{Forest, none, leaf, node, size, ◌⧺◌, flat, depth, Formed}
use Rattle.tape.specs.declared.Record.{Record}

-- ◌⧺◌

pub ⧺-none : (f : Forest) → f ⧺ none ≡ f
unfolding ◌⧺◌
⧺-none none = refl
⧺-none (leaf m f) = ap (leaf m) (⧺-none f)
⧺-none (node m k f) = ap (node m k) (⧺-none f)

pub ⧺-assoc : (f g h : Forest) → (f ⧺ g) ⧺ h ≡ f ⧺ g ⧺ h
unfolding ◌⧺◌
⧺-assoc none g h = refl
⧺-assoc (leaf m f) g h = ap (leaf m) (⧺-assoc f g h)
⧺-assoc (node m k f) g h = ap (node m k) (⧺-assoc f g h)

pub size-⧺ : (f g : Forest) → size (f ⧺ g) ≡ size f + size g
unfolding ◌⧺◌
size-⧺ none g = omega arith
size-⧺ (leaf m f) g = omega (arith, size-⧺ f g)
size-⧺ (node m k f) g = omega (arith, size-⧺ f g)

pub depth-⧺ : (f g : Forest) → depth (f ⧺ g) ≡ max (depth f) (depth g)
unfolding depth ◌⧺◌
depth-⧺ none g = omega arith
depth-⧺ (leaf m f) g = depth-⧺ f g
depth-⧺ (node m k f) g = omega (arith, depth-⧺ f g)

-- two forests that are formed
pub formed-⧺ : (f g : Forest) → Formed f → Formed g → Formed (f ⧺ g)
unfolding Formed ◌⧺◌
formed-⧺ none g x y = y
formed-⧺ (leaf m f) g x y = (x.0, formed-⧺ f g x.1 y)
formed-⧺ (node m k f) g x y = (x.0, (x.1.0, formed-⧺ f g x.1.1 y))

-- flat

-- as many records as the forest has
pub length_flat : (f : Forest) (at : ℕ) → length (flat at f) ≡ size f
unfolding flat
length_flat none at = refl
length_flat (leaf m f) at = ap suc (length_flat f (suc at))
length_flat (node m k f) at = rw (length-append (flat (suc at) k) (flat (suc at + size k) f), length_flat k (suc at), length_flat f (suc at + size k)) refl

-- the records of two forests, one after the other
pub flat-⧺ : (f g : Forest) (at : ℕ) → flat at (f ⧺ g) ≡ flat at f ++ flat (at + size f) g
unfolding ◌⧺◌ flat
flat-⧺ none g at = rw add-zero
flat-⧺ (leaf m f) g at = ap (λ (l : List Record). leaf_record m ∷ l) (flat-⧺ f g (suc at) ∙ ap (λ (n : ℕ). flat (suc at) f ++ flat n g) (omega arith))
flat-⧺ (node m k f) g at =
    ap (λ (l : List Record). container_record m (suc at) (suc at + size k) ∷ l)
    (ap (λ (l : List Record). flat (suc at) k ++ l) (flat-⧺ f g (suc at + size k) ∙ ap (λ (n : ℕ). flat (suc at + size k) f ++ flat n g) (omega arith))
    ∙ sym (append_assoc (flat (suc at) k) (flat (suc at + size k) f) (flat (at + suc (size k + size f)) g)))

map-++ : (f : Record → Record) (xs ys : List Record) → map f (xs ++ ys) ≡ map f xs ++ map f ys
map-++ f [] ys = refl
map-++ f (x ∷ xs) ys = ap (λ (l : List Record). f x ∷ l) (map-++ f xs ys)

-- the records of a forest that stands d positions further on
pub flat_moved : (f : Forest) (at d : ℕ) → flat (at + d) f ≡ map (moved d) (flat at f)
unfolding flat
flat_moved none at d = refl
flat_moved (leaf m f) at d = rw (← flat_moved f (suc at) d, suc-add)
flat_moved (node m k f) at d =
    rw (map-++ (moved d), ← flat_moved k (suc at) d, ← flat_moved f (suc at + size k) d) (simp (suc-add, add_right_comm at d (size k)))
