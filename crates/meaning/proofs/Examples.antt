-- The examples hold, by computation.
use Rattle.std.specs.Prelude.{◌≡◌, refl, [], ◌∷◌, map, ℕ, length}
use Rattle.octets.specs.BigEndian.{big_endian}
use Rattle.octets.specs.Mask.{kept, masked}
use Rattle.registry.specs.Registry.{registry_of}
use Rattle.tape.specs.Layout.{word_of, room_of}
use Rattle.tape.specs.Tape.{headed, put_at, store}
use Rattle.tape.specs.Forest.{◌⧺◌, flat}
use Rattle.meaning.specs.Cut.{pieces_after, pieces, total, each}
use Rattle.meaning.specs.Frame.{entry_length, entries, covered, remainder, range_length}
use Rattle.meaning.specs.Table.{table, fields_of, usual}
use Rattle.meaning.specs.Tree.{raw}
use Rattle.meaning.specs.Sid.{sid_trees, sid_end}
use Rattle.meaning.specs.Array.{element_trees, array_of}
use Rattle.meaning.specs.Value.{field_end, taken, push_by, field_trees, fields_trees, value_trees}
use Rattle.meaning.specs.Area.{entry_trees, walk_trees, inner_walk, walked, pushed}
use Rattle.meaning.specs.AreaCall.{appended, fitted, call_in}
use Rattle.meaning.specs.Examples.Example.{types_read}
use Rattle.meaning.specs.Examples.Cases.{cases, others, slim_cases}
use Rattle.meaning.specs.Examples.RustCases.{rust_cases, rust_types}
use Rattle.meaning.specs.Examples.{Hold}

-- all at once: document 01's [P] cases, its others, slim tapes, and what the Rust of docs/src shows
pub hold : Hold cases × Hold others × Hold slim_cases × Hold rust_cases
unfolding cases others slim_cases rust_cases big_endian kept masked registry_of word_of room_of headed put_at store ◌⧺◌ flat pieces_after pieces total each entry_length entries covered remainder range_length table fields_of usual raw sid_trees sid_end element_trees array_of field_end taken push_by field_trees fields_trees value_trees entry_trees walk_trees inner_walk walked pushed appended fitted call_in
hold = ((refl, refl), (refl, refl), (refl, refl), (refl, refl))

-- document 01's cases marked [P], one statement over one list
pub examples : Hold cases
examples = hold.0

-- the table has one row for each type that the Rust reads, from the same length on, and no others
pub types_read_lem : map (λ (registry : ℕ). types_read registry 0 256) (0 ∷ 1 ∷ 2 ∷ 3 ∷ 4 ∷ 5 ∷ []) ≡ rust_types
unfolding table rust_types
types_read_lem = refl

-- and no row is of another registry
pub rows : length table ≡ 39
unfolding table
rows = refl
