-- The two layouts of a record's words: six, or four, in which octets and positions share a word two by two (document 02, request 09).
use Rattle.std.specs.Prelude.{Bool, true, false, List, [], ◌∷◌, ℕ, ◌+◌, ◌*◌, ◌-◌, ◌/◌, ◌%◌, min}
use Rattle.tape.specs.Record.{words}
use Rattle.tape.specs.declared.Record.{Record}

-- words in a record
abbrev pub width : Bool → ℕ
width false = 6
width true = 4

-- the first word of the record at a position
unfoldable pub word_of : Bool → ℕ → ℕ
word_of false at = 4 + 6 * at
word_of true at = 4 + 4 * at

-- how many records n words have room for: (n - 4) / 6, and (n - 4) / 4 but never over 4,294,967,295
unfoldable pub room_of : Bool → ℕ → ℕ
room_of false n = (n - 4) / 6
room_of true n = min ((n - 4) / 4) 4294967295

-- two numbers in a word, the one + 4,294,967,296 x the other; of a number that has over 32 bits the low 32
abbrev pub pair : ℕ → ℕ → ℕ
pair a b = a % 4294967296 + 4294967296 * (b % 4294967296)

-- the words of a record
abbrev pub words_of : Bool → Record → List ℕ
words_of false r = words r
words_of true r = r.tag ∷ pair r.start.0 r.end.0 ∷ r.number ∷ pair r.first.0 r.past.0 ∷ []

-- the record that words are, the first of them w 0
abbrev pub record_by : Bool → (ℕ → ℕ) → Record
record_by false w =
    record { tag = w 0; start = record { 0 = w 1 }; end = record { 0 = w 2 }; number = w 3; first = record { 0 = w 4 }; past = record { 0 = w 5 } }
record_by true w =
    record {
      tag = w 0;
      start = record { 0 = w 1 % 4294967296 };
      end = record { 0 = w 1 / 4294967296 };
      number = w 2;
      first = record { 0 = w 3 % 4294967296 };
      past = record { 0 = w 3 / 4294967296 };
    }
