-- The dump program (document 01, 'Octets and what they become'; document 02, request 09): its input, what it answers, and the columns that it prints.
use Rattle.std.specs.Prelude.{Bool, true, ◌&&◌, cond, List, [], ◌∷◌, ℕ, leb, length, drop}
use Rattle.octets.specs.BigEndian.{big_endian}
use Rattle.outcome.specs.Call.{After, refusal}
use Rattle.tape.specs.Record.{label_of, shape_of, registry_in}
use Rattle.tape.specs.declared.Record.{Record}
use Rattle.meaning.specs.AreaCall.{push_call}

-- the input: one octet of registry
abbrev pub input_registry : List ℕ → ℕ
input_registry input = big_endian input 0 1

-- four of base
abbrev pub input_base : List ℕ → ℕ
input_base input = big_endian input 1 4

-- and the area
abbrev pub input_area : List ℕ → List ℕ
input_area input = drop 5 input

-- the longest area that it takes
abbrev pub longest_dumped : ℕ
longest_dumped = 768

-- not under 5 octets, and no area over 768
abbrev pub is_taken : List ℕ → Bool
is_taken input = leb 5 (length input) && leb (length (input_area input)) longest_dumped

-- 10 where the input is not taken, which comes first; otherwise it pushes, onto a slim tape
unfoldable pub dump_call : List ℕ → List ℕ → After
dump_call input t = cond (is_taken input) (push_call true (input_registry input) (input_area input) (input_base input) t) (refusal 10 t)

-- the columns: position, label, shape, registry, words 1 to 5
abbrev pub columns : ℕ → Record → List ℕ
columns at r =
    at ∷ label_of r ∷ shape_of r ∷ registry_in r ∷ r.start.0 ∷ r.end.0 ∷ r.number ∷ r.first.0 ∷ r.past.0 ∷ []
