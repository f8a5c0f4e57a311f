-- Laws of the two layouts, each by its two cases: all that the tape's laws need to know of them.
use Rattle.std.specs.Prelude.{◌≡◌, refl, Bool, true, false, ℕ, ◌+◌, ◌*◌, ◌/◌, ◌%◌, ◌≤◌, ◌<◌, length, get_or}
use Rattle.std.proofs.Common.{arith}
use Rattle.tape.specs.Layout.{width, word_of, room_of, pair, words_of, record_by}
use Rattle.tape.specs.Near.{Kept}
use Rattle.tape.specs.declared.Record.{Record}

-- as many words as a record has
pub length_words_of : (slim : Bool) (r : Record) → length (words_of slim r) ≡ width slim
length_words_of false r = refl
length_words_of true r = refl

-- places of records

-- records do not overlap
pub word_before : (slim : Bool) (i j : ℕ) → i < j → word_of slim i + width slim ≤ word_of slim j
unfolding word_of
word_before false i j before = omega arith
word_before true i j before = omega arith

pub word_next : (slim : Bool) (at n : ℕ) → word_of slim (at + n) ≡ word_of slim at + width slim * n
unfolding word_of
word_next false at n = omega arith
word_next true at n = omega arith

pub word_mono : (slim : Bool) (i j : ℕ) → i ≤ j → word_of slim i ≤ word_of slim j
unfolding word_of
word_mono false i j before = omega arith
word_mono true i j before = omega arith

-- they stand behind the header
pub word_late : (slim : Bool) (at : ℕ) → 4 ≤ word_of slim at
unfolding word_of
word_late false at = omega arith
word_late true at = omega arith

-- room

-- records for which there is room lie inside
pub room_inside : (slim : Bool) (n m : ℕ) → 4 ≤ n → m ≤ room_of slim n → word_of slim m ≤ n
unfolding word_of room_of
room_inside false n m long fits = omega arith
room_inside true n m long fits = omega arith

-- the words of a record for which there is room
pub room_one : (slim : Bool) (n at : ℕ) → at < room_of slim n → word_of slim at + width slim ≤ n
unfolding word_of room_of
room_one false n at fits = omega arith
room_one true n at fits = omega arith

-- and there are fewer than words
pub room_low : (slim : Bool) (n : ℕ) → room_of slim n ≤ n
unfolding room_of
room_low false n = omega arith
room_low true n = omega arith

-- six words to a record, or few records
pub room_few : (slim : Bool) (n : ℕ) → room_of slim n ≤ n / 6 + 4294967295
unfolding room_of
room_few false n = omega arith
room_few true n = omega arith

-- words

-- numbers that share a word come apart again
pair_low : (a b : ℕ) → a < 4294967296 → pair a b % 4294967296 ≡ a
pair_low a b small = omega arith

pair_high : (a b : ℕ) → b < 4294967296 → pair a b / 4294967296 ≡ b
pair_high a b small = omega arith

-- the words of a record give it back
pub words_record : (slim : Bool) (r : Record) → Kept slim r → record_by slim (λ (k : ℕ). get_or (words_of slim r) k 0) ≡ r
words_record false r kept = refl
words_record true r kept =
    λ j. record {
      tag = r.tag;
      start = record { 0 = pair_low r.start.0 r.end.0 kept.start j };
      end = record { 0 = pair_high r.start.0 r.end.0 kept.end j };
      number = r.number;
      first = record { 0 = pair_low r.first.0 r.past.0 kept.first j };
      past = record { 0 = pair_high r.first.0 r.past.0 kept.past j };
    }

-- the words of a slim record, whatever they are: word 0, start + 4,294,967,296 x end, the number, first child + 4,294,967,296 x child end
pub record SlimWords (w : ℕ → ℕ) (r : Record) : Type 0 where
  pub tag : w 0 ≡ r.tag
  pub octets : w 1 ≡ r.start.0 + 4294967296 * r.end.0
  pub number : w 2 ≡ r.number
  pub children : w 3 ≡ r.first.0 + 4294967296 * r.past.0

pub slim_words : (w : ℕ → ℕ) → SlimWords w (record_by true w)
slim_words w = record { tag = refl; octets = omega arith; number = refl; children = omega arith }

-- where the words agree, so does the record
pub record_by_same : (slim : Bool) (v w : ℕ → ℕ) → ((k : ℕ) → k < width slim → v k ≡ w k) → record_by slim v ≡ record_by slim w
record_by_same false v w same = rw (same 0 (omega arith), same 1 (omega arith), same 2 (omega arith), same 3 (omega arith), same 4 (omega arith), same 5 (omega arith)) refl
record_by_same true v w same = rw (same 0 (omega arith), same 1 (omega arith), same 2 (omega arith), same 3 (omega arith)) refl
