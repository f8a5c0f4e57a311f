-- Two runs as demand 3 speaks of, by computation: its premises can hold, with tapes that differ and another count of records.
use Rattle.std.specs.Prelude.{false, ◌≡◌, refl, ◌⊎◌, List, [], ◌∷◌, ◌++◌, ℕ, ◌+◌, ◌-◌, ◌≤◌, ◌<◌, length, get_or, replicate}
use Rattle.std.proofs.Common.{sym, ap, ◌∙◌, inl, inr, arith, length-append, get_or-append-add}
use Rattle.std.proofs.Math.ListN.{get_or-append}
use Rattle.outcome.specs.Call.{After}
use Rattle.octets.specs.BigEndian.{big_endian}
use Rattle.registry.specs.Registry.{registry_of}
use Rattle.tape.specs.Tape.{headed, put_at, store}
use Rattle.tape.specs.Layout.{word_of, room_of}
use Rattle.tape.specs.Forest.{size, ◌⧺◌, flat}
use Rattle.meaning.specs.Cut.{pieces_after, pieces, total, each}
use Rattle.meaning.specs.Frame.{entry_length, entries, covered, remainder, range_length}
use Rattle.meaning.specs.Table.{table, fields_of, usual}
use Rattle.meaning.specs.Tree.{raw}
use Rattle.meaning.specs.Sid.{sid_trees, sid_end}
use Rattle.meaning.specs.Array.{element_trees, array_of}
use Rattle.meaning.specs.Value.{field_end, taken, push_by, field_trees, fields_trees, value_trees}
use Rattle.meaning.specs.Area.{entry_trees, walk_trees, inner_walk, walked, pushed}
use Rattle.meaning.specs.AreaCall.{appended, fitted, call_in, area_call}
use Rattle.theorems.specs.Form.{Differ}
use Rattle.theorems.specs.Entries.{Ending, leave, show, called, own}
use Rattle.theorems.specs.OneEntry.{Two}

-- the octets v or v', which are as many, between the same others
differ_inside : (xs v v' ys : List ℕ) → length v ≡ length v' → Differ (xs ++ (v ++ ys)) (xs ++ (v' ++ ys)) (length xs) (length v)
differ_inside xs v v' ys same =
    record {
      same_length = rw (length-append xs (v ++ ys), length-append xs (v' ++ ys), length-append v ys, length-append v' ys, same) refl;
      outside = λ k out. go k out;
    }
  where
    go : (k : ℕ) → (k < length xs) ⊎ (length xs + length v ≤ k) → get_or (xs ++ (v ++ ys)) k 0 ≡ get_or (xs ++ (v' ++ ys)) k 0
    go k (inl before) = get_or-append xs (v ++ ys) 0 k before ∙ sym (get_or-append xs (v' ++ ys) 0 k before)
    go k (inr after) =
        let j : ℕ = k - (length xs + length v) in
        let one : k ≡ length xs + (length v + j) = omega arith in
        let other : k ≡ length xs + (length v' + j) = omega (arith, same) in
        ap (λ (n : ℕ). get_or (xs ++ (v ++ ys)) n 0) one
        ∙ get_or-append-add xs (v ++ ys) (length v + j) 0
        ∙ get_or-append-add v ys j 0
        ∙ sym (ap (λ (n : ℕ). get_or (xs ++ (v' ++ ys)) n 0) other ∙ get_or-append-add xs (v' ++ ys) (length v' + j) 0 ∙ get_or-append-add v' ys j 0)

-- in registry 2: an algorithm, then SR capabilities with one range, then a depth of labels, and an octet that is left
abbrev ahead : List ℕ
ahead = 0x13 ∷ 0x01 ∷ 0x07 ∷ []

abbrev behind : List ℕ
behind = 0x17 ∷ 0x02 ∷ 0x01 ∷ 0x0A ∷ 0xFF ∷ []

-- the range's sub-type is 1, or it is 2, which is no range
abbrev ranged : ℕ → List ℕ
ranged kind = 0xC0 ∷ 0x00 ∷ 0x03 ∷ 0xE8 ∷ kind ∷ 0x03 ∷ 0x00 ∷ 0x3E ∷ 0x80 ∷ []

abbrev area : ℕ → List ℕ
area kind = (ahead ++ (0x02 ∷ 0x09 ∷ [])) ++ (ranged kind ++ behind)

-- a tape with one old record: n words after the header, all the same
abbrev old : ℕ → ℕ → List ℕ
old n word = 1 ∷ 4 ∷ 6 ∷ 0 ∷ replicate n word

-- the one run and the other
abbrev after : Ending → ℕ → List ℕ → After
after e kind tape = area_call false (called e usual) 2 (area kind) 100 tape

-- both are accepted, walk and push
accepts : (e : Ending) → ((after e 1 (old 150 7)).outcome.answer ≡ 0) × ((after e 2 (old 170 9)).outcome.answer ≡ 0)
unfolding big_endian registry_of word_of room_of headed put_at store ◌⧺◌ flat pieces_after pieces total each entry_length entries covered remainder range_length table fields_of usual raw sid_trees sid_end element_trees array_of field_end taken push_by field_trees fields_trees value_trees entry_trees walk_trees inner_walk walked pushed appended fitted call_in
accepts leave = (refl, refl)
accepts show = (refl, refl)

-- the premises hold
pub two_areas : (e : Ending) → Two false false e usual 2 100 (area 1) (area 2) (old 150 7) (old 170 9) (after e 1 (old 150 7)).outcome (after e 2 (old 170 9)).outcome (after e 1 (old 150 7)).lent (after e 2 (old 170 9)).lent (ahead ∷ []) (0x02 ∷ 0x09 ∷ ranged 1) ((0x17 ∷ 0x02 ∷ 0x01 ∷ 0x0A ∷ []) ∷ [])
unfolding total entry_length entries pieces pieces_after
two_areas e =
    record {
      ran = record { gave = refl; left = refl };
      ran' = record { gave = refl; left = refl };
      found = refl;
      differ = differ_inside (ahead ++ (0x02 ∷ 0x09 ∷ [])) (ranged 1) (ranged 2) behind refl;
      accepted = (accepts e).0;
      accepted' = (accepts e).1;
      same_used = refl;
    }

-- and the entry has two records more in the one than in the other
pub two_more : size (own usual 2 100 (ahead ∷ []) (0x02 ∷ 0x09 ∷ ranged 1) []) ≡ size (own usual 2 100 (ahead ∷ []) (0x02 ∷ 0x09 ∷ ranged 2) []) + 2
unfolding big_endian registry_of ◌⧺◌ pieces_after pieces total each entry_length entries covered remainder range_length table fields_of usual raw sid_trees sid_end element_trees array_of field_end taken push_by field_trees fields_trees value_trees entry_trees walk_trees inner_walk
two_more = refl
