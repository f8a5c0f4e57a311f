-- What holds of each record of a list, and of a tape.
use Rattle.std.specs.Prelude.{Bool, List, [], ◌∷◌, ◌++◌, ◌≡◌, ℕ, zero, suc, ◌+◌, ◌≤◌, ◌<◌}
use Rattle.std.proofs.Math.Decide.{dec_le}
use Rattle.std.proofs.Common.{arith}
use Rattle.tape.specs.Tape.{record_at, load}
use Rattle.tape.specs.declared.Record.{Record}

abbrev pub EachRecord : (Record → Type 0) → List Record → Type 0
EachRecord P [] = Unit {0}
EachRecord P (r ∷ rs) = P r × EachRecord P rs

-- two lists
pub each_record-++ : (P : Record → Type 0) (xs ys : List Record) → EachRecord P xs → EachRecord P ys → EachRecord P (xs ++ ys)
each_record-++ P [] ys a b = b
each_record-++ P (x ∷ xs) ys a b = (a.0, each_record-++ P xs ys a.1 b)

-- one of the records on a tape
pub each_record_at : (slim : Bool) (P : Record → Type 0) (n : ℕ) (t : List ℕ) (at : ℕ) → EachRecord P (load slim t at n) → (i : ℕ) → at ≤ i → i < at + n → P (record_at slim t i)
unfolding load
each_record_at slim P zero t at each i from below = absurd (omega arith)
each_record_at slim P (suc n) t at each i from below = go (dec_le i at) (λ later. each_record_at slim P n t (suc at) each.1 i later (omega arith))
  where
    go : Dec (i ≤ at) → (suc at ≤ i → P (record_at slim t i)) → P (record_at slim t i)
    go (yes first) behind =
        let same : i ≡ at = omega arith in
        rw same each.0
    go (no later) behind = behind (omega arith)
