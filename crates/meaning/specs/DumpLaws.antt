-- The dump program's answers, case by case.
use Rattle.std.specs.Prelude.{◌≡◌, true, List, ℕ, ◌≤◌, ◌<◌, leb, length}
use Rattle.std.proofs.Math.Bool.{and-false}
use borrow.Author.Tests.{le-leb, lt-leb}
use Rattle.outcome.specs.Call.{refusal}
use Rattle.meaning.specs.AreaCall.{push_call}
use Rattle.meaning.specs.Dump.{input_registry, input_base, input_area, longest_dumped, dump_call}

module _ (input t : List ℕ) where
  -- 10: input under 5 octets
  pub dump_short : length input < 5 → dump_call input t ≡ refusal 10 t
  unfolding dump_call
  dump_short short = rw (lt-leb 5 (length input) short)

  -- 10: area over 768
  pub dump_long : longest_dumped < length (input_area input) → dump_call input t ≡ refusal 10 t
  unfolding dump_call
  dump_long long = rw (lt-leb (length (input_area input)) longest_dumped long, and-false (leb 5 (length input)))

  -- a push otherwise
  pub dump_push : 5 ≤ length input → length (input_area input) ≤ longest_dumped
      → dump_call input t ≡ push_call true (input_registry input) (input_area input) (input_base input) t
  unfolding dump_call
  dump_push enough few = rw (le-leb 5 (length input) enough, le-leb (length (input_area input)) longest_dumped few)
