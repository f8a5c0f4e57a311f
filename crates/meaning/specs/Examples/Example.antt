-- The form of an example.
use Rattle.std.specs.Prelude.{Bool, true, false, ◌&&◌, cond, List, [], ◌∷◌, ◌++◌, ℕ, zero, suc, ◌+◌, ◌*◌, eqb, length, replicate}
use Rattle.octets.specs.Mask.{masked}
use Rattle.outcome.specs.Call.{After, numbers_of}
use Rattle.meaning.specs.Field.{Row, row}
use Rattle.meaning.specs.Table.{table}
use Rattle.meaning.specs.AreaCall.{walk_call, push_call}

-- an empty tape with room for n records, in the layout asked for
abbrev empty_tape : Bool → ℕ → List ℕ
empty_tape false n = 0 ∷ 4 ∷ 6 ∷ 0 ∷ replicate (6 * n) 0
empty_tape true n = 0 ∷ 4 ∷ 4 ∷ 0 ∷ replicate (4 * n) 0

-- a record as the dump program prints it, after its position: label, shape, registry, words 1 to 5
pub data Printed : Type 0 where
  printed : ℕ → ℕ → ℕ → ℕ → ℕ → ℕ → ℕ → ℕ → Printed

-- the words of records, as documents 01 and 02 have them
abbrev words_of : Bool → List Printed → List ℕ
words_of slim [] = []
words_of false (printed label shape registry start end n first past ∷ records) =
    (label + 256 * shape + 65536 * registry) ∷ start ∷ end ∷ n ∷ first ∷ past ∷ words_of false records
words_of true (printed label shape registry start end n first past ∷ records) =
    (label + 256 * shape + 65536 * registry) ∷ (start + 4294967296 * end) ∷ n ∷ (first + 4294967296 * past) ∷ words_of true records

-- an example: what is called, and what it is to give
pub data Case : Type 0 where
  -- a push that is done, onto an empty tape with just the room that is needed: base, registry, area, octets covered, records
  push_at : ℕ → ℕ → List ℕ → ℕ → List Printed → Case
  -- a push that is refused: room of the empty tape, base, registry, area, answer, needed
  refused_push : ℕ → ℕ → ℕ → List ℕ → ℕ → ℕ → Case
  -- a walk at base 100 that is done, onto an empty tape with just the room that is needed: registry, area, octets covered, records
  walk : ℕ → List ℕ → ℕ → List Printed → Case
  -- a push at base 100 onto any tape, in a layout: tape, registry, area, answer, covered, written, needed, tape afterwards
  onto : Bool → List ℕ → ℕ → List ℕ → ℕ → ℕ → ℕ → ℕ → List ℕ → Case
  -- a mask: bits, octets, octets afterwards
  mask : ℕ → List ℕ → List ℕ → Case

-- a push at base 100
abbrev pub push : ℕ → List ℕ → ℕ → List Printed → Case
push = push_at 100

-- the four numbers of a call, and every word of the tape afterwards
abbrev all : After → List ℕ
all after = numbers_of after.outcome ++ after.lent

-- what the definitions give, on an empty tape of a layout
abbrev pub computed : Bool → Case → List ℕ
computed slim (push_at base registry area octets records) = all (push_call slim registry area base (empty_tape slim (length records)))
computed slim (refused_push room base registry area answer needed) = all (push_call slim registry area base (empty_tape slim room))
computed slim (walk registry area octets records) = all (walk_call slim registry area 100 (empty_tape slim (length records)))
computed slim (onto own tape registry area answer octets written needed after) = all (push_call own registry area 100 tape)
computed slim (mask bits before after) = masked bits before

-- done, with just these records on the tape
abbrev done_with : Bool → ℕ → List Printed → List ℕ
done_with slim octets records = 0 ∷ octets ∷ length records ∷ length records ∷ length records ∷ 4 ∷ cond slim 4 6 ∷ 0 ∷ words_of slim records

-- what the example says
abbrev pub wanted : Bool → Case → List ℕ
wanted slim (push_at base registry area octets records) = done_with slim octets records
wanted slim (refused_push room base registry area answer needed) = answer ∷ 0 ∷ 0 ∷ needed ∷ empty_tape slim room
wanted slim (walk registry area octets records) = done_with slim octets records
wanted slim (onto own tape registry area answer octets written needed after) = answer ∷ octets ∷ written ∷ needed ∷ after
wanted slim (mask bits before after) = after

-- a number in front of others, where a test holds
abbrev also : Bool → ℕ → List ℕ → List ℕ
also true n ns = n ∷ ns
also false n ns = ns

-- the least lengths of the rows of a registry and type
abbrev leasts : List Row → ℕ → ℕ → List ℕ
leasts [] registry t = []
leasts (row registry' t' least fields ∷ rows) registry t = also (eqb registry registry' && eqb t t') least (leasts rows registry t)

-- a type and the least lengths of its rows in front of others, where it has a row
abbrev typed : ℕ → List ℕ → List (List ℕ) → List (List ℕ)
typed t [] others = others
typed t (least ∷ more) others = (t ∷ least ∷ more) ∷ others

-- of a registry, those of the n types from t on that have rows
abbrev pub types_read : ℕ → ℕ → ℕ → List (List ℕ)
types_read registry t zero = []
types_read registry t (suc n) = typed t (leasts table registry t) (types_read registry (t + 1) n)
