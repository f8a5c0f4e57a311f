-- A value with plain fields becomes as many records as its numbers say.
use Rattle.std.specs.Prelude.{◌≡◌, refl, List, [], ◌∷◌, ℕ, ◌+◌, ◌≤◌, length, drop}
use Rattle.std.proofs.Common.{◌∙◌, arith, le-leb}
use Rattle.std.proofs.Math.Decide.{dec_le}
use Rattle.std.proofs.lemmas.Bool.{lt-leb}
use Rattle.std.proofs.lemmas.Bool.Decides.{nat_tests}
use Rattle.tape.specs.Forest.{size}
use Rattle.tape.specs.ForestLaws.{size-⧺}
use Rattle.meaning.specs.Tree.{raw}
use Rattle.meaning.specs.AreaLaws.{raw_none, raw_some}
use Rattle.meaning.specs.Sid.{sid_end}
use Rattle.meaning.specs.Field.{Field, part, flag, sid, array, tail, push}
use Rattle.meaning.specs.Value.{Walk, field_end, taken, fields_trees, value_trees}
use Rattle.readings.specs.Plain.{Plain, size_plain}
use Rattle.count.specs.Records.{rest, takes, plain_records}

-- what is left, as `raw`
pub size_raw : (registry place at : ℕ) (v : List ℕ) → size (raw registry place (drop at v)) ≡ rest at (length v)
size_raw registry place at v = go (dec_le (length v) at)
  where
    go : Dec (length v ≤ at) → size (raw registry place (drop at v)) ≡ rest at (length v)
    go (yes past) = rw (raw_none registry place v at past, le-leb (length v) at past) refl
    go (no inside) = rw (raw_some registry place v at (omega arith), lt-leb (length v) at (omega arith)) refl

-- one record at most
pub rest_most : (takes n : ℕ) → rest takes n ≤ 1
rest_most takes n = grind (arith, nat_tests)

-- the fields after the first one
pub behind : (v : List ℕ) (f : Field) (fs : List Field) → Plain v (f ∷ fs) → Plain v fs
behind v (part label shape at width) fs p = p
behind v (flag label mask) fs p = p
behind v (sid at) fs p = p.1
behind v (array label span element) fs p = absurd p
behind v (tail at) fs p = absurd p
behind v (push at) fs p = absurd p

-- a SID of 3 octets leaves nothing, and one of 4 what is behind it
sid_rest : (v : List ℕ) (at : ℕ) → at + 3 ≤ length v → rest (sid_end v at) (length v) ≡ rest (at + 4) (length v)
unfolding sid_end
sid_rest v at there = grind (arith, nat_tests)

-- what plain fields leave is what the most that they take leaves
rest_taken : (v : List ℕ) (f : Field) (fs : List Field) → Plain v (f ∷ fs) → rest (taken v (f ∷ fs)) (length v) ≡ rest (takes (f ∷ fs)) (length v)
unfolding taken field_end
rest_taken v (part label shape at width) [] p = refl
rest_taken v (flag label mask) [] p = refl
rest_taken v (sid at) [] p = sid_rest v at p.0
rest_taken v (array label span element) [] p = absurd p
rest_taken v (tail at) [] p = absurd p
rest_taken v (push at) [] p = absurd p
rest_taken v f (g ∷ fs) p = rest_taken v g fs (behind v f (g ∷ fs) p)

-- a value with plain fields
pub value_plain : (walk : Walk) (registry : ℕ) (v : List ℕ) (base : ℕ) (fs : List Field) → Plain v fs → size (value_trees walk registry v base fs) ≡ plain_records (length v) fs
unfolding value_trees
value_plain walk registry v base [] p = refl
value_plain walk registry v base (f ∷ fs) p =
    size-⧺ (fields_trees walk registry v base (f ∷ fs)) (raw registry (base + taken v (f ∷ fs)) (drop (taken v (f ∷ fs)) v))
    ∙ omega (arith, size_plain walk registry v base (f ∷ fs) p, size_raw registry (base + taken v (f ∷ fs)) (taken v (f ∷ fs)) v, rest_taken v f fs p)
