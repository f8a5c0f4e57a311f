-- Where there is room for a near forest, its records are given back.
use Rattle.std.specs.Prelude.{Bool, true, false, List, [], ◌∷◌, ◌++◌, ℕ, suc, ◌+◌, ◌≤◌, ◌<◌}
use Rattle.std.proofs.Common.{arith}
use Rattle.tape.specs.Layout.{room_of}
use Rattle.tape.specs.Record.{leaf_record, container_record}
use Rattle.tape.specs.Near.{Kept, AllKept, NearContent, Near}
use Rattle.tape.specs.Forest.{Forest, none, leaf, node, size, flat}
use Rattle.tape.specs.declared.Content.{Content}
use Rattle.tape.specs.declared.Record.{Record}

-- some records and then more
all_kept-++ : (slim : Bool) (xs ys : List Record) → AllKept slim xs → AllKept slim ys → AllKept slim (xs ++ ys)
unfolding AllKept
all_kept-++ slim [] ys a b = b
all_kept-++ slim (x ∷ xs) ys a b = (a.0, all_kept-++ slim xs ys a.1 b)

-- six words keep any
six_kept : (rs : List Record) → AllKept false rs
unfolding AllKept
six_kept [] = tt
six_kept (r ∷ rs) = (tt, six_kept rs)

-- four words keep those of a near forest whose positions are below 4,294,967,296
four_kept : (f : Forest) (at : ℕ) → Near f → at + size f < 4294967296 → AllKept true (flat at f)
unfolding AllKept Near flat
four_kept none at near below = tt
four_kept (leaf m f) at near below =
    (record { start = near.0.start; end = near.0.end; first = omega arith; past = omega arith }, four_kept f (suc at) near.1 (omega arith))
four_kept (node m k f) at near below = (
  record { start = near.0.start; end = near.0.end; first = omega arith; past = omega arith },
  all_kept-++ true (flat (suc at) k) (flat (suc at + size k) f) (four_kept k (suc at) near.1.0 (omega arith)) (four_kept f (suc at + size k) near.1.1 (omega arith)),
)

-- in either layout: positions are below the room, which is never over 4,294,967,295 where they share a word
pub near_kept : (slim : Bool) (f : Forest) (at n : ℕ) → Near f → at + size f ≤ room_of slim n → AllKept slim (flat at f)
unfolding room_of
near_kept false f at n near fits = six_kept (flat at f)
near_kept true f at n near fits = four_kept f at near (omega arith)

-- a record that is put, in either layout

pub kept_leaf : (slim : Bool) {m : Content} → NearContent m → Kept slim (leaf_record m)
kept_leaf false near = tt
kept_leaf true near = record { start = near.start; end = near.end; first = omega arith; past = omega arith }

pub kept_container : (slim : Bool) (n : ℕ) {m : Content} {first past : ℕ} → NearContent m → first ≤ room_of slim n → past ≤ room_of slim n → Kept slim (container_record m first past)
unfolding room_of
kept_container false n near before behind = tt
kept_container true n near before behind = record { start = near.start; end = near.end; first = omega arith; past = omega arith }
