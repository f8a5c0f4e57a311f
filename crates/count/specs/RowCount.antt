-- The records of a value, by the row of its type.
use Rattle.std.specs.Prelude.{◌≡◌, refl, Bool, true, false, ◌&&◌, cond, List, [], ◌∷◌, ◌++◌, ℕ, ◌+◌, ◌*◌, ◌≤◌, leb, length, drop}
use Rattle.std.proofs.Common.{sym, ap, ◌∙◌, arith, leb-true, length-drop}
use Rattle.std.proofs.lemmas.Bool.Decides.{nat_tests}
use Rattle.tape.specs.Both.{both}
use Rattle.tape.specs.Forest.{none, size, ◌⧺◌}
use Rattle.tape.specs.ForestLaws.{size-⧺}
use Rattle.meaning.specs.Field.{Field, part, flag, sid, array, tail, push}
use Rattle.meaning.specs.Table.{table, usual}
use Rattle.meaning.specs.TableLaws.{least_in, fields_in, OneRow, NoneOf, types_of, usual_unknown}
use Rattle.meaning.specs.Tree.{raw}
use Rattle.meaning.specs.Value.{Walk, field_end, taken, field_trees, fields_trees, value_trees}
use Rattle.meaning.specs.Area.{inner_walk}
use Rattle.readings.specs.Plain.{Plain, size_plain}
use Rattle.count.specs.Records.{rest, takes, plain_records, last_records, head_records, Heads, CountsBy, Counts}
use Rattle.count.specs.RecordsLaws.{size_raw, rest_most, behind, value_plain}
use Rattle.count.specs.PlainTypes.{are_plain, plain_fields}

-- numbers that are the same, or are so few, where a test is met
pub under_test : (b : Bool) (x y z : ℕ) → (b ≡ true → x ≡ y) → cond b x z ≡ cond b y z
under_test true x y z same = same refl
under_test false x y z same = refl

pub under_most : (b : Bool) (x y : ℕ) → 1 ≤ y → (b ≡ true → x ≤ y) → cond b x 1 ≤ y
under_most true x y some most = most refl
under_most false x y some most = some

-- what is left behind k octets
pub rest_behind : (k t : ℕ) (v : List ℕ) → k ≤ length v → rest t (length (drop k v)) ≡ rest (k + t) (length v)
rest_behind k t v inside = grind (arith, nat_tests, length-drop k v)

-- one record where the fields are not there
size_under : (walk : Walk) (registry : ℕ) (v : List ℕ) (base : ℕ) (fs : List Field) (b : Bool)
    → size (value_trees walk registry v base (cond b fs [])) ≡ cond b (size (value_trees walk registry v base fs)) 1
unfolding value_trees
size_under walk registry v base fs true = refl
size_under walk registry v base fs false = refl

-- a type that no row reads
pub unknown_counts : (walk : Walk) (registry kind : ℕ) (v : List ℕ) → usual registry kind v ≡ [] → CountsBy walk registry kind v 1
unfolding value_trees
unknown_counts walk registry kind v none_read = record { few = omega arith; records = λ base. rw none_read refl }

-- a type that the table does not list is one record
pub unread_counts : {walk : Walk} {registry kind : ℕ} {v : List ℕ} → NoneOf kind (types_of registry table) → CountsBy walk registry kind v 1
unread_counts {walk} {registry} {kind} {v} unread = unknown_counts walk registry kind v (usual_unknown registry kind v unread)

-- the first of plain fields
first_plain : (v : List ℕ) (f : Field) (fs : List Field) → Plain v (f ∷ fs) → Plain v (f ∷ [])
first_plain v (part label shape at width) fs p = tt
first_plain v (flag label mask) fs p = tt
first_plain v (sid at) fs p = (p.0, tt)
first_plain v (array label span element) fs p = absurd p
first_plain v (tail at) fs p = absurd p
first_plain v (push at) fs p = absurd p

-- all fields but the last one
abbrev front : List Field → List Field
front [] = []
front (f ∷ []) = []
front (f ∷ g ∷ fs) = f ∷ front (g ∷ fs)

-- the octets that fields take are the last one's
taken_last : (v : List ℕ) (fs : List Field) (f : Field) → taken v (fs ++ f ∷ []) ≡ field_end v f
unfolding taken
taken_last v [] f = refl
taken_last v (g ∷ []) f = refl
taken_last v (g ∷ h ∷ fs) f = taken_last v (h ∷ fs) f

-- plain fields are one record each, in front of the last one
size_last : (walk : Walk) (registry : ℕ) (v : List ℕ) (base : ℕ) (fs : List Field) (f : Field) → Plain v fs
    → size (fields_trees walk registry v base (fs ++ f ∷ [])) ≡ length fs + size (field_trees walk registry v base f)
unfolding fields_trees
size_last walk registry v base [] f plain = size-⧺ (field_trees walk registry v base f) none ∙ omega arith
size_last walk registry v base (g ∷ fs) f plain =
    let one : size (field_trees walk registry v base g ⧺ none) ≡ 1 = size_plain walk registry v base (g ∷ []) (first_plain v g fs plain) in
    size-⧺ (field_trees walk registry v base g) (fields_trees walk registry v base (fs ++ f ∷ []))
    ∙ omega (arith, one, size-⧺ (field_trees walk registry v base g) none, size_last walk registry v base fs f (behind v g fs plain))

-- a value with a last field: its fields, and what they do not take
value_last : (walk : Walk) (registry : ℕ) (v : List ℕ) (base : ℕ) (fs : List Field) (f : Field)
    → value_trees walk registry v base (fs ++ f ∷ []) ≡ fields_trees walk registry v base (fs ++ f ∷ []) ⧺ raw registry (base + taken v (fs ++ f ∷ [])) (drop (taken v (fs ++ f ∷ [])) v)
unfolding value_trees
value_last walk registry v base [] f = refl
value_last walk registry v base (g ∷ fs) f = refl

-- as many records as plain fields, and the last one's
last_size : (registry : ℕ) (v : List ℕ) (base : ℕ) (fs : List Field) (f : Field) → Plain v fs
    → size (value_trees (inner_walk usual) registry v base (fs ++ f ∷ [])) ≡ length fs + last_records registry v base f
last_size registry v base fs f plain =
    let walk = inner_walk usual in
    let all = fs ++ f ∷ [] in
    ap size (value_last walk registry v base fs f)
    ∙ size-⧺ (fields_trees walk registry v base all) (raw registry (base + taken v all) (drop (taken v all) v))
    ∙ omega (
      arith,
      size_last walk registry v base fs f plain,
      size_raw registry (base + taken v all) (taken v all) v,
      ap (λ (n : ℕ). rest n (length v)) (taken_last v fs f),
    )

-- at most four plain fields, and what is left
plain_most : (n : ℕ) (fs : List Field) → length fs ≤ 4 → plain_records n fs ≤ 5
plain_most n [] four = omega arith
plain_most n (f ∷ fs) four = omega (arith, rest_most (takes (f ∷ fs)) n)

-- a row has four plain fields or fewer
abbrev pub is_plain_row : ℕ → List Field → Bool
is_plain_row least fs = leb (length fs) 4 && are_plain least fs

module _ {walk : Walk} {registry kind k r : ℕ} {v : List ℕ} (is : kind ≡ k) (row : OneRow registry k v) where
  -- a value of type k, by its row
  by_row_lem : r ≤ 5 + 4 * length v → ((base : ℕ) → r ≡ cond (leb (least_in table registry k) (length v)) (size (value_trees walk registry v base (fields_in table registry k))) 1)
      → CountsBy walk registry kind v r
  by_row_lem few same =
      record { few = few; records = λ base. same base ∙ sym (rw (is, row) (size_under walk registry v base (fields_in table registry k) (leb (least_in table registry k) (length v)))) }

  -- with plain fields
  pub row_counts : is_plain_row (least_in table registry k) (fields_in table registry k) ≡ true
      → r ≡ cond (leb (least_in table registry k) (length v)) (plain_records (length v) (fields_in table registry k)) 1 → CountsBy walk registry kind v r
  row_counts plain same =
      let least = least_in table registry k in
      let fs = fields_in table registry k in
      let x = both (leb (length fs) 4) (are_plain least fs) plain in
      let most = under_most (leb least (length v)) (plain_records (length v) fs) 5 (omega arith) (λ long. plain_most (length v) fs (leb-true (length fs) 4 x.0)) in
      by_row_lem (omega (arith, same, most))
      (λ base. same ∙ under_test (leb least (length v)) (plain_records (length v) fs) (size (value_trees walk registry v base fs)) 1
      (λ long. sym (value_plain walk registry v base fs (plain_fields least fs v (leb-true least (length v) long) x.1))))

module _ {registry kind k r : ℕ} {v : List ℕ} (is : kind ≡ k) (row : OneRow registry k v) where
  -- with plain fields and then one that is not
  pub last_counts : (fs : List Field) (f : Field) → fields_in table registry k ≡ fs ++ f ∷ [] → Plain v fs → r ≤ 5 + 4 * length v
      → ((base : ℕ) → r ≡ head_records (least_in table registry k) (length fs) registry v base f) → Counts registry kind v r
  last_counts fs f these plain few same =
      by_row_lem is row few
      (λ base.
      let all = ap (λ (l : List Field). size (value_trees (inner_walk usual) registry v base l)) these ∙ last_size registry v base fs f plain in
      same base ∙ ap (λ (n : ℕ). cond (leb (least_in table registry k) (length v)) n 1) (sym all))

  -- the same, as a function counts it
  pub heads_counts : {f : Field} → fields_in table registry k ≡ front (fields_in table registry k) ++ f ∷ [] → Plain v (front (fields_in table registry k))
      → Heads (least_in table registry k) (length (front (fields_in table registry k))) v f r → Counts registry kind v r
  heads_counts {f} these plain heads = last_counts (front (fields_in table registry k)) f these plain heads.few (heads.records registry)
