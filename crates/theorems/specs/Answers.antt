-- The table of answers (document 01, 'Numbers a call gives back'): its lines, and which of them each call checks.
use Rattle.std.specs.Prelude.{Bool, true, ◌≡◌, ◌⊎◌, List, [], ◌∷◌, ℕ, suc, ◌+◌, ◌*◌, ◌-◌, ◌≤◌, ◌<◌, length, get_or, Option, Some, None}
use Rattle.outcome.specs.Answers.{Line}
use Rattle.registry.specs.Registry.{registry_of}
use Rattle.registry.specs.Names.{name_of}
use Rattle.tape.specs.Record.{label_of, shape_of}
use Rattle.tape.specs.Layout.{width, room_of}
use Rattle.tape.specs.Tape.{used, room, record_at}
use Rattle.tape.specs.Forest.{size}
use Rattle.tape.specs.declared.Record.{Record}
use Rattle.calls.specs.Limits.{last_label, last_shape, last_registry}
use Rattle.meaning.specs.Table.{usual}
use Rattle.meaning.specs.Value.{Walk}
use Rattle.meaning.specs.Area.{pushed}
use Rattle.meaning.specs.Dump.{input_registry, input_base, input_area, longest_dumped}
use Rattle.registry.specs.declared.Registry.{Registry}

-- the lines

-- 1: registry not 0 to 5
abbrev pub no_registry : ℕ → Line
no_registry registry = record { number = 1; when = 5 < registry }

-- 2: area over 65,535 octets
abbrev pub too_long : List ℕ → Line
too_long area = record { number = 2; when = 65535 < length area }

-- 3: base + area length over 4,294,967,295
abbrev pub too_far : List ℕ → ℕ → Line
too_far area base = record { number = 3; when = 4294967295 < base + length area }

-- 4: tape under 4 words, words 1 to 3 not 4, the words in a record, 0, or used over room
abbrev pub no_tape : Bool → List ℕ → Line
no_tape slim t =
    record {
      number = 4;
      when = (length t < 4) ⊎ ((¬ (get_or t 1 0 ≡ 4)) ⊎ ((¬ (get_or t 2 0 ≡ width slim)) ⊎ ((¬ (get_or t 3 0 ≡ 0)) ⊎ (room_of slim (length t) < used t))));
    }

-- 4, for clear: only under 4 words
abbrev pub no_header : List ℕ → Line
no_header t = record { number = 4; when = length t < 4 }

-- 5: needed records exceed free room
abbrev pub too_many : Bool → ℕ → List ℕ → Line
too_many slim needed t = record { number = 5; when = room slim t - used t < needed }

-- 6: read at or past the count
abbrev pub not_there : ℕ → List ℕ → Line
not_there at t = record { number = 6; when = used t ≤ at }

-- 6: mark past the count
abbrev pub mark_past : ℕ → List ℕ → Line
mark_past mark t = record { number = 6; when = used t < mark }

-- 7: a record kept by the cut has word 5 above the mark
abbrev pub cuts_through : Bool → ℕ → List ℕ → Line
cuts_through slim mark t = record { number = 7; when = (i : ℕ) × (i < mark) × (mark < (record_at slim t i).past.0) }

-- 8: record read has label over 56, shape over 8, word 0 at or over 393,216 (registry over 5), or start after end
abbrev pub unreadable : Record → Line
unreadable r =
    record {
      number = 8;
      when = (last_label < label_of r) ⊎ ((last_shape < shape_of r) ⊎ ((65536 * suc last_registry ≤ r.tag) ⊎ (r.end.0 < r.start.0)));
    }

-- 9: name longer than the lent octets
abbrev pub name_longer : List ℕ → List ℕ → Line
name_longer name lent = record { number = 9; when = length lent < length name }

-- 10, the dump program's own: input under 5 octets or area over 768 (document 02, request 09)
abbrev pub not_taken : List ℕ → Line
not_taken input = record { number = 10; when = (length input < 5) ⊎ (longest_dumped < length (input_area input)) }

-- the calls, each with its lines in the order of the checks

-- walk and push: 1, 2, 3, 4, 5
abbrev pub area_lines : Bool → Walk → ℕ → List ℕ → ℕ → List ℕ → List Line
area_lines slim shows registry area base t =
    no_registry registry ∷ too_long area ∷ too_far area base ∷ no_tape slim t ∷ too_many slim (size (shows registry area base)) t ∷ []

-- the name of a type in the registry that was found
abbrev name_by : Option Registry → ℕ → List ℕ
name_by None t = []
name_by (Some registry) t = name_of registry t

-- name: 1, 9
abbrev pub name_lines : ℕ → ℕ → List ℕ → List Line
name_lines registry t lent = no_registry registry ∷ name_longer (name_by (registry_of registry) t) lent ∷ []

-- clear: 4
abbrev pub clear_lines : List ℕ → List Line
clear_lines t = no_header t ∷ []

-- cut back: 4, 6, 7
abbrev pub cut_back_lines : Bool → List ℕ → ℕ → List Line
cut_back_lines slim t mark = no_tape slim t ∷ mark_past mark t ∷ cuts_through slim mark t ∷ []

-- read: 4, 6, 8
abbrev pub read_lines : Bool → List ℕ → ℕ → List Line
read_lines slim t at = no_tape slim t ∷ not_there at t ∷ unreadable (record_at slim t at) ∷ []

-- the dump program: 10, and then as push
abbrev pub dump_lines : List ℕ → List ℕ → List Line
dump_lines input t = not_taken input ∷ area_lines true (pushed usual) (input_registry input) (input_area input) (input_base input) t
