-- Every call that is done leaves an area's records entry by entry.
use Rattle.std.specs.Prelude.{Bool, ◌≡◌, ℕ, suc, ◌+◌, take, drop}
use Rattle.std.proofs.Math.Path.{sym, ap}
use Rattle.std.proofs.Common.{◌∙◌, subst, add-zero, arith, take_at, drop_at}
use mathlib.Core.List.{List, ◌∷◌, ◌++◌, append-nil, head-eq_of_cons-eq, tail-eq_of_cons-eq}
use Rattle.std.proofs.Math.ListN.{length, length-append}
use Rattle.tape.specs.Record.{container_record}
use Rattle.tape.specs.Tape.{record_at, load}
use Rattle.tape.specs.LoadLaws.{length_load, load_append}
use Rattle.tape.specs.Forest.{Forest, none, node, size, ◌⧺◌, flat}
use Rattle.tape.specs.ForestLaws.{⧺-none, size-⧺, length_flat, flat-⧺}
use Rattle.tape.specs.declared.Content.{Content}
use Rattle.meaning.specs.Label
use Rattle.meaning.specs.Cut.{total, each}
use Rattle.meaning.specs.CutLaws.{each-++}
use Rattle.meaning.specs.Frame.{entries, covered}
use Rattle.meaning.specs.FrameLaws.{entries_none}
use Rattle.meaning.specs.Field.{Plan}
use Rattle.meaning.specs.Label.{number}
use Rattle.meaning.specs.Shape.{array, container_number}
use Rattle.meaning.specs.Tree.{content, over}
use Rattle.meaning.specs.Array.{array_of}
use Rattle.meaning.specs.Value.{push_by}
use Rattle.meaning.specs.Area.{entry_trees, inner_walk, walked, pushed}
use Rattle.meaning.specs.AreaLaws.{walk_shows}
use Rattle.theorems.specs.Entries.{Ending, leave, show, called, beside, Holds, before, own, after, end_at, EntryByEntry}

-- Holds

-- two forests, one after the other
holds-⧺ : (slim : Bool) (f g : Forest) (tape : List ℕ) (at : ℕ) → Holds slim tape at (f ⧺ g) → Holds slim tape at f × Holds slim tape (at + size f) g
holds-⧺ slim f g tape at there =
    let both : load slim tape at (size f) ++ load slim tape (at + size f) (size g) ≡ flat at f ++ flat (at + size f) g =
    sym (load_append slim (size f) (size g) tape at) ∙ ap (load slim tape at) (sym (size-⧺ f g)) ∙ there ∙ flat-⧺ f g at in
    let n = length_load slim (size f) tape at in
    let n' = length_flat f at in (
      sym (take_at (load slim tape at (size f)) (load slim tape (at + size f) (size g)) (size f) n) ∙ ap (take (size f)) both ∙ take_at (flat at f) (flat (at + size f) g) (size f) n',
      sym (drop_at (load slim tape at (size f)) (load slim tape (at + size f) (size g)) (size f) n) ∙ ap (drop (size f)) both ∙ drop_at (flat at f) (flat (at + size f) g) (size f) n',
    )

-- a container
holds_node : (slim : Bool) (m : Content) (k : Forest) (tape : List ℕ) (at : ℕ) → Holds slim tape at (node m k none) → (record_at slim tape at ≡ container_record m (suc at) (suc at + size k)) × Holds slim tape (suc at) k
unfolding load flat
holds_node slim m k tape at there =
    (head-eq_of_cons-eq there, ap (load slim tape (suc at)) (sym (add-zero (size k))) ∙ tail-eq_of_cons-eq there ∙ append-nil (flat (suc at) k))

-- the trees

module _ (plan : Plan) (registry : ℕ) (area : List ℕ) (base : ℕ) (ps : List (List ℕ)) (q : List ℕ) (us : List (List ℕ)) (found : entries area ≡ ps ++ q ∷ us) where
  -- the walk shows an array over the entries
  walked_entries : walked plan registry area base
      ≡ over Label.sub_tlvs array registry base (base + covered area) (before plan registry base ps q us ⧺ own plan registry base ps q us ⧺ after plan registry base ps q us)
  unfolding walked covered array_of each
  walked_entries =
      let entry_of = entry_trees plan (inner_walk plan) registry in
      walk_shows plan (inner_walk plan) registry area base (λ none-there. omega (arith, ap length (sym found ∙ ap entries none-there ∙ entries_none), length-append ps (q ∷ us)))
      ∙ ap (λ (trees : Forest). over Label.sub_tlvs array registry base (base + total (entries area)) trees) (ap (each entry_of base) found ∙ each-++ entry_of base ps (q ∷ us))

  -- and the call what stands beside it
  called_entries : (e : Ending) → called e plan registry area base
      ≡ over Label.sub_tlvs array registry base (base + covered area) (before plan registry base ps q us ⧺ own plan registry base ps q us ⧺ after plan registry base ps q us) ⧺ beside e registry area base
  unfolding pushed push_by
  called_entries leave = walked_entries ∙ sym (⧺-none (over Label.sub_tlvs array registry base (base + covered area) (before plan registry base ps q us ⧺ own plan registry base ps q us ⧺ after plan registry base ps q us)))
  called_entries show = ap (λ (f : Forest). f ⧺ beside show registry area base) walked_entries

-- on a tape

-- where what the call shows stands on a tape, it stands there entry by entry
pub entry_by_entry : (slim : Bool) (e : Ending) (plan : Plan) (registry base : ℕ) (area : List ℕ) (ps : List (List ℕ)) (q : List ℕ) (us : List (List ℕ)) (tape : List ℕ) (at : ℕ)
    → entries area ≡ ps ++ q ∷ us → Holds slim tape at (called e plan registry area base) → EntryByEntry plan registry base ps q us at slim e area tape (size (called e plan registry area base))
entry_by_entry slim e plan registry base area ps q us tape at found there =
    let trees = called_entries plan registry area base ps q us found e in
    let first = before plan registry base ps q us in
    let mine = own plan registry base ps q us in
    let rest = after plan registry base ps q us in
    let m : Content = content (number Label.sub_tlvs) (container_number array) registry base (base + covered area) 0 in
    let parts = holds-⧺ slim (node m (first ⧺ mine ⧺ rest) none) (beside e registry area base) tape at (rw trees at there) in
    let inside = holds_node slim m (first ⧺ mine ⧺ rest) tape at parts.0 in
    let one = holds-⧺ slim first (mine ⧺ rest) tape (suc at) inside.1 in
    let two = holds-⧺ slim mine rest tape (suc at + size first) one.1 in
    let sizes : size (first ⧺ mine ⧺ rest) ≡ size first + (size mine + size rest) = size-⧺ first (mine ⧺ rest) ∙ ap (λ (n : ℕ). size first + n) (size-⧺ mine rest) in
    let end : suc at + size (first ⧺ mine ⧺ rest) ≡ end_at plan registry base ps q us at = omega (arith, sizes) in
    record {
      top = inside.0 ∙ ap (container_record m (suc at)) end;
      earlier = one.0;
      itself = two.0;
      later = two.1;
      aside = subst (λ (n : ℕ). Holds slim tape n (beside e registry area base)) (omega (arith, end)) parts.1;
      all = omega (arith, end, ap size trees, size-⧺ (node m (first ⧺ mine ⧺ rest) none) (beside e registry area base));
    }
