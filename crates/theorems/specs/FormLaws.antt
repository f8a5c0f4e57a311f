-- Every area that differs only inside the value of one complete entry has the same frame.
use Rattle.std.specs.Prelude.{◌≡◌, refl, ◌⊎◌, true, ℕ, suc, ◌+◌, ◌-◌, ◌≤◌, ◌<◌, leb, length, get_or}
use Rattle.std.proofs.Math.Path.{sym, ap}
use Rattle.std.proofs.Common.{◌∙◌, inl, inr, ⊎_elim, eq-zero-or-pos, arith, leb-true, length-append, take-append-drop, length-take-le, get_or-take, get_or-drop, ext_get_or, get_or-append-add}
use mathlib.Core.List.{List, [], ◌∷◌, ◌++◌, append_assoc, head-eq_of_cons-eq, tail-eq_of_cons-eq, nil≢cons}
use Rattle.std.proofs.Math.ListN.{take, drop, length-drop, get_or-append}
use Rattle.meaning.specs.Cut.{total}
use Rattle.meaning.specs.CutLaws.{pieces_stop, pieces_step, total-++}
use Rattle.meaning.specs.Frame.{entry_length, entries, covered, remainder}
use Rattle.meaning.specs.FrameLaws.{passed, entry, entry_fits, entries_none, covered_none, entries-++, remainder-++, entries_entry, covered_entry, remainder_entry}
use Rattle.theorems.specs.Form.{Differ, SameFrame}

-- an area with the entry of type t and value v between pre and post
abbrev with : List ℕ → List ℕ → ℕ → List ℕ → List ℕ
with pre post t v = pre ++ (entry t v ++ post)

-- the framing of an area with an entry between pre and post

module _ (pre post : List ℕ) (whole : covered pre ≡ length pre) (t : ℕ) (v : List ℕ) where
  entries_with : entries (with pre post t v) ≡ entries pre ++ entry t v ∷ entries post
  entries_with = entries-++ pre (entry t v ++ post) whole ∙ ap (λ (ps : List (List ℕ)). entries pre ++ ps) (entries_entry t v post)

  remainder_with : remainder (with pre post t v) ≡ remainder post
  remainder_with = remainder-++ pre (entry t v ++ post) whole ∙ remainder_entry t v post

-- the entry q of an area stands between a part that is covered whole, with the entries ps, and the rest, with the entries us
record Stands (area : List ℕ) (ps : List (List ℕ)) (q : List ℕ) (us : List (List ℕ)) : Type 0 where
  pub pre : List ℕ
  pub type : ℕ
  pub value : List ℕ
  pub post : List ℕ
  pub whole : covered pre ≡ length pre
  pub earlier : entries pre ≡ ps
  pub itself : q ≡ entry type value
  pub later : entries post ≡ us
  pub all : area ≡ with pre post type value

-- another area has the same form, with another value of the same length
record Other (a' pre post : List ℕ) (t : ℕ) (v : List ℕ) : Type 0 where
  pub value : List ℕ
  pub same_length : length v ≡ length value
  pub all : a' ≡ with pre post t value

-- every complete entry stands so

-- what stands in front of an area that has an entry there
record Front (a p : List ℕ) (ps : List (List ℕ)) : Type 0 where
  pub type : ℕ
  pub value : List ℕ
  pub rest : List ℕ
  pub itself : p ≡ entry type value
  pub later : entries rest ≡ ps
  pub all : a ≡ entry type value ++ rest

-- the octets of an entry in front
in_front_lem : (a : List ℕ) → 0 < entry_length a → (t : ℕ) × (v : List ℕ) × (take (entry_length a) a ≡ entry t v)
unfolding entry_length
in_front_lem [] some = absurd (omega (arith, entry_fits []))
in_front_lem (t ∷ []) some = absurd (omega (arith, leb-true 2 1 (passed (leb 2 1) 2 some)))
in_front_lem (t ∷ n ∷ xs) some =
    let e : leb (suc (suc n)) (suc (suc (length xs))) ≡ true = passed (leb (suc (suc n)) (suc (suc (length xs)))) (suc (suc n)) some in
    let l : suc (suc n) ≤ suc (suc (length xs)) = leb-true (suc (suc n)) (suc (suc (length xs))) e in
    (t, take n xs, rw (e, length-take-le n xs (omega arith)))

front : (a p : List ℕ) (ps : List (List ℕ)) → entries a ≡ p ∷ ps → Front a p ps
unfolding entries
front a p ps e = ⊎_elim (λ none. absurd (nil≢cons (sym (pieces_stop entry_length entry_fits a none) ∙ e))) some (eq-zero-or-pos (entry_length a))
  where
    some : 0 < entry_length a → Front a p ps
    some h =
        let f = in_front_lem a h in
        let s = sym (pieces_step entry_length entry_fits a h) ∙ e in
        record {
          type = f.0;
          value = f.1;
          rest = drop (entry_length a) a;
          itself = sym (head-eq_of_cons-eq s) ∙ f.2;
          later = tail-eq_of_cons-eq s;
          all = sym (take-append-drop (entry_length a) a) ∙ ap (λ (l : List ℕ). l ++ drop (entry_length a) a) f.2;
        }

stands : (ps : List (List ℕ)) (area q : List ℕ) (us : List (List ℕ)) → entries area ≡ ps ++ q ∷ us → Stands area ps q us
stands [] area q us e =
    let f = front area q us e in
    record { pre = []; type = f.type; value = f.value; post = f.rest; whole = covered_none; earlier = entries_none; itself = f.itself; later = f.later; all = f.all }
stands (p ∷ ps) area q us e =
    let f = front area p (ps ++ q ∷ us) e in
    let g = stands ps f.rest q us f.later in
    let first : List ℕ = entry f.type f.value in
    let earlier' : entries (first ++ g.pre) ≡ first ∷ entries g.pre = entries_entry f.type f.value g.pre in
    record {
      pre = first ++ g.pre;
      type = g.type;
      value = g.value;
      post = g.post;
      whole = covered_entry f.type f.value g.pre ∙ rw (length-append first g.pre, g.whole) refl;
      earlier = earlier' ∙ cc (f.itself, g.earlier);
      itself = g.itself;
      later = g.later;
      all = f.all ∙ ap (λ (l : List ℕ). first ++ l) g.all ∙ sym (append_assoc first g.pre (entry g.type g.value ++ g.post));
    }

-- every entry is complete: type, length, and as many octets as the length says
pub entry_complete : (area : List ℕ) (ps : List (List ℕ)) (q : List ℕ) (us : List (List ℕ)) → entries area ≡ ps ++ q ∷ us → (t : ℕ) × (v : List ℕ) × (q ≡ entry t v)
entry_complete area ps q us found =
    let s : Stands area ps q us = stands ps area q us found in
    (s.type, s.value, s.itself)

-- so does every area that differs in its value

-- octets x, v, y, and others of the same length that differ only inside v
module _ (x v y b : List ℕ) (same : length (x ++ (v ++ y)) ≡ length b)
    (outside : (k : ℕ) → (k < length x) ⊎ (length x + length v ≤ k) → get_or (x ++ (v ++ y)) k 0 ≡ get_or b k 0) where
  long : length x + (length v + length y) ≡ length b
  long = sym (length-append x (v ++ y) ∙ ap (λ (n : ℕ). length x + n) (length-append v y)) ∙ same

  first : take (length x) b ≡ x
  first =
      let l : length (take (length x) b) ≡ length x = length-take-le (length x) b (omega (arith, long)) in
      ext_get_or 0 (take (length x) b) x l (λ i below.
      get_or-take (length x) b i 0 (omega arith) ∙ sym (outside i (inl (omega arith))) ∙ get_or-append x (v ++ y) 0 i (omega arith))

  last : drop (length v) (drop (length x) b) ≡ y
  last =
      let l : length (drop (length v) (drop (length x) b)) ≡ length y = omega (arith, long, length-drop (length v) (drop (length x) b), length-drop (length x) b) in
      ext_get_or 0 (drop (length v) (drop (length x) b)) y l (λ i below.
      get_or-drop (length v) (drop (length x) b) i 0
      ∙ get_or-drop (length x) b (length v + i) 0
      ∙ sym (outside (length x + (length v + i)) (inr (omega arith)))
      ∙ get_or-append-add x (v ++ y) (length v + i) 0
      ∙ get_or-append-add v y i 0)

  middle : List ℕ
  middle = take (length v) (drop (length x) b)

  length_middle : length v ≡ length middle
  unfolding middle
  length_middle = sym (length-take-le (length v) (drop (length x) b) (omega (arith, long, length-drop (length x) b)))

  rejoined : b ≡ x ++ (middle ++ y)
  unfolding middle
  rejoined =
      sym (take-append-drop (length x) b)
      ∙ ap (λ (l : List ℕ). l ++ drop (length x) b) first
      ∙ ap (λ (l : List ℕ). x ++ l) (sym (take-append-drop (length v) (drop (length x) b)) ∙ ap (λ (l : List ℕ). take (length v) (drop (length x) b) ++ l) last)

differs : (pre post : List ℕ) (t : ℕ) (v a' : List ℕ) → Differ (with pre post t v) a' (length pre + 2) (length v) → Other a' pre post t v
differs pre post t v a' d =
    let head : List ℕ = t ∷ length v ∷ [] in
    let x : List ℕ = pre ++ head in
    let joined : x ++ (v ++ post) ≡ with pre post t v = append_assoc pre head (v ++ post) in
    let place : length x ≡ length pre + 2 = length-append pre head in
    let same : length (x ++ (v ++ post)) ≡ length a' = ap length joined ∙ d.same_length in
    let outside : (k : ℕ) → (k < length x) ⊎ (length x + length v ≤ k) → get_or (x ++ (v ++ post)) k 0 ≡ get_or a' k 0 =
    λ k out. ap (λ (l : List ℕ). get_or l k 0) joined ∙ d.outside k (⊎_elim (λ below. inl (omega (arith, place))) (λ past. inr (omega (arith, place))) out) in
    let w : List ℕ = middle x v post a' same outside in
    let length-w : length v ≡ length w = length_middle x v post a' same outside in
    record {
      value = w;
      same_length = length-w;
      all = rejoined x v post a' same outside ∙ append_assoc pre head (w ++ post) ∙ ap (λ (n : ℕ). pre ++ (t ∷ n ∷ (w ++ post))) length-w;
    }

-- the frame

-- where the entry's value lies
value_place : (area : List ℕ) (ps : List (List ℕ)) (q : List ℕ) (us : List (List ℕ)) (s : Stands area ps q us) → (length s.pre + 2 ≡ total ps + 2) × (length s.value ≡ length q - 2)
unfolding covered
value_place area ps q us s =
    (ap (λ (n : ℕ). n + 2) (sym s.whole ∙ ap total s.earlier), omega (arith, ap length s.itself))

-- one entry for another of its size
module _ (ps : List (List ℕ)) (q q' : List ℕ) (us : List (List ℕ)) where
  count_same : length (ps ++ q ∷ us) ≡ length (ps ++ q' ∷ us)
  count_same = length-append ps (q ∷ us) ∙ sym (length-append ps (q' ∷ us))

  total_same : length q ≡ length q' → total (ps ++ q ∷ us) ≡ total (ps ++ q' ∷ us)
  unfolding total
  total_same same = total-++ ps (q ∷ us) ∙ ap (λ (n : ℕ). total ps + (n + total us)) same ∙ sym (total-++ ps (q' ∷ us))

-- whichever complete entry of whichever area it is, and whatever stands in its value
pub same_frame : (a a' : List ℕ) (ps : List (List ℕ)) (q : List ℕ) (us : List (List ℕ)) → entries a ≡ ps ++ q ∷ us → Differ a a' (total ps + 2) (length q - 2)
    → (q' : List ℕ) × SameFrame a a' ps q q' us
unfolding covered
same_frame a a' ps q us found d =
    let s : Stands a ps q us = stands ps a q us found in
    let place = value_place a ps q us s in
    let d' : Differ (with s.pre s.post s.type s.value) a' (length s.pre + 2) (length s.value) = rw (← s.all, place.0, place.1) d in
    let o : Other a' s.pre s.post s.type s.value = differs s.pre s.post s.type s.value a' d' in
    let same : length q ≡ length (entry s.type o.value) = ap length s.itself ∙ ap (λ (n : ℕ). suc (suc n)) o.same_length in
    let q' : List ℕ = entry s.type o.value in
    let others' : entries a' ≡ ps ++ q' ∷ us =
    ap entries o.all
    ∙ entries_with s.pre s.post s.whole s.type o.value
    ∙ ap (λ (l : List (List ℕ)). l ++ q' ∷ entries s.post) s.earlier
    ∙ ap (λ (l : List (List ℕ)). ps ++ q' ∷ l) s.later in (
      q',
      record {
        same_head = ap (take 2) s.itself ∙ ap (λ (n : ℕ). s.type ∷ n ∷ []) o.same_length;
        same_size = same;
        others = others';
        same_count = ap length found ∙ count_same ps q q' us ∙ sym (ap length others');
        same_covered = ap total found ∙ total_same ps q q' us same ∙ sym (ap total others');
        same_remainder =
            ap remainder s.all
            ∙ remainder_with s.pre s.post s.whole s.type s.value
            ∙ sym (ap remainder o.all ∙ remainder_with s.pre s.post s.whole s.type o.value);
      },
    )
