-- The records of an array whose elements have one width and one count.
use Rattle.std.specs.Prelude.{◌≡◌, true, List, [], ◌∷◌, ℕ, ◌+◌, ◌*◌, ◌/◌, ◌≤◌, ◌<◌, leb, take, drop}
use Rattle.std.proofs.Math.Path.{refl}
use Rattle.std.proofs.Common.{◌∙◌, mul-zero, mul-suc, arith, length-drop}
use Rattle.std.proofs.lemmas.Bool.Decides.{nat_tests}
use borrow.Author.Tests.{le-leb, leb-true}
use Rattle.std.proofs.Math.ListN.{length}
use Rattle.std.proofs.Math.Seq.{length-take-le}
use Rattle.tape.specs.Forest.{Forest, size, ◌⧺◌}
use Rattle.tape.specs.ForestLaws.{size-⧺}
use Rattle.meaning.specs.Label.{Label}
use Rattle.meaning.specs.Shape.{Shape, u8, u32, u64}
use Rattle.meaning.specs.Cut.{pieces, total, each}
use Rattle.meaning.specs.CutLaws.{pieces_ind}
use Rattle.meaning.specs.Frame.{whole}
use Rattle.meaning.specs.FrameLaws.{whole_fits, whole_is}
use Rattle.meaning.specs.Field.{Span, Element, numbers, msds, array}
use Rattle.meaning.specs.Array.{start_of, elements, element_trees, array_of}
use Rattle.meaning.specs.Table.{table, fields_of, usual}
use Rattle.meaning.specs.TableLaws.{least_in, fields_in, OneRow}
use Rattle.meaning.specs.Value.{field_end, field_trees}
use Rattle.count.specs.Records.{rest, row_records, last_records, Counts}
use Rattle.count.specs.RecordsLaws.{rest_most}
use Rattle.count.specs.RowCount.{under_test, under_most, last_counts}

-- where none stands, there are fewer octets
whole_none : (w : ℕ) (xs : List ℕ) → 0 < w → whole w xs ≡ 0 → length xs < w
whole_none w xs some e = grind (arith, nat_tests)

-- q pieces of w octets, each k records, and fewer than w octets left: with w a literal, omega has q ≡ length xs / w
pub record Even (w k : ℕ) (f : List ℕ → ℕ → Forest) (xs : List ℕ) (ps : List (List ℕ)) : Type 0 where
  pub records : (at : ℕ) → size (each f at ps) ≡ k * length ps
  pub octets : total ps ≡ w * length ps
  pub inside : total ps ≤ length xs
  pub left : length xs < total ps + w

pub even : (w k : ℕ) (f : List ℕ → ℕ → Forest) → 0 < w → ((p : List ℕ) (at : ℕ) → size (f p at) ≡ k) → (xs : List ℕ) → Even w k f xs (pieces (whole w) xs)
unfolding each total
even w k f some one =
    pieces_ind (whole w) (whole_fits w) (λ xs ps. Even w k f xs ps)
    (λ xs e. record { records = λ at. omega (arith, mul-zero k); octets = omega (arith, mul-zero w); inside = omega arith; left = omega (arith, whole_none w xs some e) })
    (λ xs h ih.
    let p : ℕ = length (take (whole w xs) xs) in
    let n = length-take-le (whole w xs) xs (whole_fits w xs) in
    let q : ℕ = length (pieces (whole w) (drop (whole w xs) xs)) in
    record {
      records = λ at. rw size-⧺ (omega (arith, one (take (whole w xs) xs) at, ih.records (at + p), mul-suc k q));
      octets = omega (arith, n, whole_is w xs h, ih.octets, mul-suc w q);
      inside = omega (arith, n, ih.inside, length-drop (whole w xs) xs, whole_fits w xs);
      left = omega (arith, n, ih.left, length-drop (whole w xs) xs, whole_fits w xs);
    })

-- a number is one record, an MSD is three
numbers_even : (label : Label) (shape : Shape) (w registry : ℕ) → 0 < w → (xs : List ℕ) → Even w 1 (element_trees (numbers label shape w) registry) xs (pieces (whole w) xs)
unfolding element_trees
numbers_even label shape w registry some = even w 1 (element_trees (numbers label shape w) registry) some (λ p at. refl)

msds_even : (registry : ℕ) (xs : List ℕ) → Even 2 3 (element_trees msds registry) xs (pieces (whole 2) xs)
unfolding element_trees ◌⧺◌
msds_even registry = even 2 3 (element_trees msds registry) (omega arith) (λ p at. refl)

-- what an array shows and takes: elements, octets
abbrev Shows : ℕ → List ℕ → Span → Element → ℕ → ℕ → Type 0
Shows registry v span element shows takes =
    ((at : ℕ) → size (each (element_trees element registry) at (elements span element v)) ≡ shows) × (start_of span + total (elements span element v) ≡ takes)

-- it and its elements, and what is left behind them
array_records : (registry : ℕ) (v : List ℕ) (base : ℕ) (label : Label) (span : Span) (element : Element) (shows takes : ℕ) → Shows registry v span element shows takes
    → last_records registry v base (array label span element) ≡ 1 + shows + rest takes (length v)
unfolding field_trees field_end array_of
array_records registry v base label span element shows takes x = rw x.1 (omega (arith, x.0 (base + start_of span)))

-- a type whose row is one array
array_counts : {registry kind k r : ℕ} {v : List ℕ} (shows takes : ℕ) {label : Label} {span : Span} {element : Element} → kind ≡ k → OneRow registry k v → fields_in table registry k ≡ array label span element ∷ []
    → (least_in table registry k ≤ length v → Shows registry v span element shows takes × (shows ≤ 3 + 4 * length v)) → r ≡ row_records (least_in table registry k) (1 + shows) takes (length v)
    → Counts registry kind v r
array_counts {registry} {k = k} {v = v} shows takes {label} {span} {element} is row these read same =
    let least = least_in table registry k in
    let b = leb least (length v) in
    let long : b ≡ true → least ≤ length v = leb-true least (length v) in
    let all : ℕ = 1 + shows + rest takes (length v) in
    let most = under_most b all (5 + 4 * length v) (omega arith) (λ e. omega (arith, (read (long e)).1, rest_most takes (length v))) in
    last_counts is row [] (array label span element) these tt (omega (arith, same, most))
    (λ base. same ∙ under_test b all (0 + last_records registry v base (array label span element)) 1
    (λ e. omega (arith, array_records registry v base label span element shows takes (read (long e)).0)))

module _ {kind r : ℕ} {v : List ℕ} where
  -- unreserved bandwidth: 8 numbers
  pub bandwidth_counts : kind ≡ 11 → r ≡ row_records 32 9 32 (length v) → Counts 0 kind v r
  unfolding usual fields_of table least_in fields_in
  bandwidth_counts is =
      array_counts 8 32 is refl refl
      (λ long.
      let x = numbers_even Label.bandwidth_element u32 4 0 (omega arith) (take 32 v) in
      let n = length-take-le 32 v long in
      ((λ at. omega (arith, x.records at), omega arith), omega arith))

  -- tags of 4 octets, and of 8
  pub tags_counts : kind ≡ 1 → r ≡ row_records 4 (1 + length v / 4) (length v / 4 * 4) (length v) → Counts 1 kind v r
  unfolding usual fields_of table least_in fields_in
  tags_counts is =
      let x = numbers_even Label.tag u32 4 1 (omega arith) v in
      array_counts (length v / 4) (length v / 4 * 4) is refl refl (λ long. ((λ at. omega (arith, x.records at), omega arith), omega arith))

  pub long_tags_counts : kind ≡ 2 → r ≡ row_records 8 (1 + length v / 8) (length v / 8 * 8) (length v) → Counts 1 kind v r
  unfolding usual fields_of table least_in fields_in
  long_tags_counts is =
      let x = numbers_even Label.tag u64 8 1 (omega arith) v in
      array_counts (length v / 8) (length v / 8 * 8) is refl refl (λ long. ((λ at. omega (arith, x.records at), omega arith), omega arith))

  -- algorithms: an octet each
  pub algorithms_counts : kind ≡ 19 → r ≡ 1 + length v → Counts 2 kind v r
  unfolding usual fields_of table least_in fields_in
  algorithms_counts is same =
      let x = numbers_even Label.algorithm_element u8 1 2 (omega arith) v in
      let all : r ≡ row_records 0 (1 + length v) (length v) (length v) = rw (le-leb 0 (length v) (omega arith), le-leb (length v) (length v) (omega arith)) (omega arith) in
      array_counts (length v) (length v) is refl refl (λ long. ((λ at. omega (arith, x.records at), omega arith), omega arith)) all

  -- MSDs: 2 octets each
  pub msds_counts : kind ≡ 23 → r ≡ row_records 0 (1 + 3 * (length v / 2)) (length v / 2 * 2) (length v) → Counts 2 kind v r
  unfolding usual fields_of table least_in fields_in
  msds_counts is =
      let x = msds_even 2 v in
      array_counts (3 * (length v / 2)) (length v / 2 * 2) is refl refl (λ long. ((λ at. omega (arith, x.records at), omega arith), omega arith))
