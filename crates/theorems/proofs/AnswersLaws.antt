-- Every call answers by the table's lines: each answer comes when its line says so, and only then, and a refusal changes nothing.
use Rattle.std.specs.Prelude.{◌≡◌, ◌⊎◌, Bool, cond, leb, ltb, eqb, get_or, Some, None}
use Rattle.std.proofs.Math.Path.{refl}
use Rattle.std.proofs.Common.{sym, ap, ◌∙◌, subst, inl, inr, arith}
use Rattle.std.proofs.Math.Bool.{true, false}
use mathlib.Core.List.{List, []}
use Prim.Native.Nat.{ℕ, suc, ◌+◌, ◌*◌, ◌-◌, ◌≤◌, ◌<◌}
use Rattle.std.proofs.Math.Decide.{dec_le}
use Rattle.std.proofs.Math.ListN.{length}
use Rattle.outcome.specs.Call.{Gives, done, finished, Outcome}
use Rattle.outcome.specs.Answers.{is_one_of, are_distinct, Distinct, Answered}
use Rattle.outcome.specs.AnswersLaws.{Fails, fails_leb, fails_ltb, fails_eqb, fails_and, answered_done, answered_past, answered_refused, answered_check, answered_room, answered_run}
use Rattle.registry.specs.Registry.{number_of, registry_of}
use Rattle.registry.specs.RegistryLaws.{registry_of_number, registry_of_past, numbered}
use Rattle.registry.specs.Names.{name_of}
use Rattle.registry.specs.NameCall.{name_written, named, name_in, name_call}
use Rattle.registry.specs.declared.Registry.{Registry}
use Rattle.tape.specs.Record.{label_of, shape_of, zeros}
use Rattle.tape.specs.Layout.{width, room_of}
use Rattle.tape.specs.Tape.{used, room, headed, with_used, record_at, load}
use Rattle.tape.specs.Forest.{Forest, size}
use Rattle.tape.specs.declared.Record.{Record}
use Rattle.calls.specs.Limits.{last_label, last_shape, last_registry}
use Rattle.calls.specs.Calls.{cleared, clear_call, end_by, cut_back_call, readable, no_record, read_call, Reading}
use Rattle.calls.specs.CallsLaws.{fails_cut}
use Rattle.meaning.specs.Frame.{covered}
use Rattle.meaning.specs.Table.{usual}
use Rattle.meaning.specs.Value.{Walk}
use Rattle.meaning.specs.Area.{pushed}
use Rattle.theorems.specs.Answers.{no_registry, too_long, too_far, no_tape, no_header, too_many, not_there, mark_past, cuts_through, unreadable, name_longer, not_taken}
use Rattle.theorems.specs.Answers.{area_lines, name_lines, clear_lines, cut_back_lines, read_lines, dump_lines}
use Rattle.meaning.specs.AreaCall.{longest, furthest, shown, fitted, call_in, area_call}
use Rattle.meaning.specs.Dump.{input_registry, input_base, input_area, longest_dumped, dump_call}

-- the tests of the definitions fail where the lines hold

-- 4
fails_headed : (slim : Bool) (t : List ℕ) → Fails (headed slim t) (no_tape slim t).when
unfolding headed
fails_headed slim t =
    fails_and (leb 4 (length t)) _ (fails_leb 4 (length t))
    (fails_and (eqb (get_or t 1 0) 4) _ (fails_eqb (get_or t 1 0) 4)
    (fails_and (eqb (get_or t 2 0) (width slim)) _ (fails_eqb (get_or t 2 0) (width slim))
    (fails_and (eqb (get_or t 3 0) 0) _ (fails_eqb (get_or t 3 0) 0) (fails_leb (used t) (room_of slim (length t))))))

-- 8
fails_readable : (r : Record) → Fails (readable r) (unreadable r).when
unfolding readable
fails_readable r =
    let past : ℕ = 65536 * suc last_registry in
    fails_and (leb (label_of r) last_label) _ (fails_leb (label_of r) last_label)
    (fails_and (leb (shape_of r) last_shape) _ (fails_leb (shape_of r) last_shape)
    (fails_and (ltb r.tag past) _ (fails_ltb r.tag past) (fails_leb r.start.0 r.end.0)))

-- clear

module _ (slim : Bool) (t : List ℕ) where
  clear_lines_lem : Answered (clear_lines t) t (clear_call slim t)
  unfolding clear_call
  clear_lines_lem = answered_check (no_header t) [] (leb 4 (length t)) t (finished (cleared slim t)) (fails_leb 4 (length t)) (answered_done t (finished (cleared slim t)) refl)

  pub clear_answered : (o : Outcome) (x : List ℕ) → Gives (clear_call slim t) o x → Answered (clear_lines t) t (record { outcome = o; lent = x })
  clear_answered o x ran = answered_run (clear_lines t) t o x ran clear_lines_lem

  pub clear_distinct : Distinct (clear_lines t)
  unfolding is_one_of are_distinct
  clear_distinct = refl

-- cut back

module _ (slim : Bool) (t : List ℕ) (mark : ℕ) where
  cut_back_lines_lem : Answered (cut_back_lines slim t mark) t (cut_back_call slim t mark)
  unfolding cut_back_call
  cut_back_lines_lem =
      answered_check (no_tape slim t) _ (headed slim t) t _ (fails_headed slim t)
      (answered_check (mark_past mark t) _ (leb mark (used t)) t _ (fails_leb mark (used t))
      (answered_check (cuts_through slim mark t) [] (end_by mark (load slim t 0 mark)) t (finished (with_used mark t)) (fails_cut slim t mark) (answered_done t (finished (with_used mark t)) refl)))

  pub cut_back_answered : (o : Outcome) (x : List ℕ) → Gives (cut_back_call slim t mark) o x → Answered (cut_back_lines slim t mark) t (record { outcome = o; lent = x })
  cut_back_answered o x ran = answered_run (cut_back_lines slim t mark) t o x ran cut_back_lines_lem

  pub cut_back_distinct : Distinct (cut_back_lines slim t mark)
  unfolding is_one_of are_distinct
  cut_back_distinct = refl

-- read

module _ (slim : Bool) (t : List ℕ) (at : ℕ) where
  -- an answer by the lines, and a record of six zeros where it is a refusal
  abbrev ReadAs : Reading → Type 0
  ReadAs r = Answered (read_lines slim t at) t (record { outcome = r.outcome; lent = t }) × ((¬ (r.outcome.answer ≡ 0)) → r.«record» ≡ zeros)

  read_lines_lem : ReadAs (read_call slim t at)
  unfolding read_call
  read_lines_lem = go (headed slim t) (ltb at (used t)) (readable (record_at slim t at)) (fails_headed slim t) (fails_ltb at (used t)) (fails_readable (record_at slim t at))
    where
      go : (a b c : Bool) → Fails a (no_tape slim t).when → Fails b (not_there at t).when → Fails c (unreadable (record_at slim t at)).when
          → ReadAs (cond a (cond b (cond c (record { outcome = done; «record» = record_at slim t at }) (no_record 8)) (no_record 6)) (no_record 4))
      go false b c four six eight = (answered_refused (no_tape slim t) _ t (four.0 refl), λ not. refl)
      go true false c four six eight = (answered_past (no_tape slim t) _ t _ (four.1 refl) (answered_refused (not_there at t) _ t (six.0 refl)), λ not. refl)
      go true true false four six eight = (
        answered_past (no_tape slim t) _ t _ (four.1 refl) (answered_past (not_there at t) _ t _ (six.1 refl) (answered_refused (unreadable (record_at slim t at)) [] t (eight.0 refl))),
        λ not. refl,
      )
      go true true true four six eight = (
        answered_past (no_tape slim t) _ t _ (four.1 refl)
            (answered_past (not_there at t) _ t _ (six.1 refl)
            (answered_past (unreadable (record_at slim t at)) [] t _ (eight.1 refl) (answered_done t (record { outcome = done; lent = t }) refl))),
        λ not. absurd (not refl),
      )

  -- what read gives; it leaves the tape
  pub read_answered : (reading : Reading) → reading ≡ read_call slim t at → Answered (read_lines slim t at) t (record { outcome = reading.outcome; lent = t })
  read_answered reading is = rw is read_lines_lem.0

  -- a refused read gives a record of six zeros
  pub read_zeros : (reading : Reading) → reading ≡ read_call slim t at → (¬ (reading.outcome.answer ≡ 0)) → reading.«record» ≡ zeros
  read_zeros reading is = rw is read_lines_lem.1

  pub read_distinct : Distinct (read_lines slim t at)
  unfolding is_one_of are_distinct
  read_distinct = refl

-- name

-- a number is a registry's, and not over 5; or it is no registry's, and over 5
abbrev KnownOrNot : ℕ → Type 0
KnownOrNot n = ((registry : Registry) × (registry_of n ≡ Some registry) × (n ≡ number_of registry) × (n ≤ 5)) ⊎ ((registry_of n ≡ None) × (5 < n))

known_or_not : (n : ℕ) → KnownOrNot n
known_or_not n = go (dec_le 6 n)
  where
    go : Dec (6 ≤ n) → KnownOrNot n
    go (yes past) = inr (registry_of_past n past, omega arith)
    go (no below) =
        let x = numbered n (omega arith) in
        inl (x.0, ap registry_of (sym x.1) ∙ registry_of_number x.0, sym x.1, omega arith)

module _ (registry t : ℕ) (lent : List ℕ) where
  name_lines_lem : Answered (name_lines registry t lent) lent (name_call registry t lent)
  unfolding name_in named
  name_lines_lem = go (known_or_not registry)
    where
      go : KnownOrNot registry → Answered (name_lines registry t lent) lent (name_call registry t lent)
      go (inl x) =
          let name : List ℕ = name_of x.0 t in
          rw x.1
          (answered_past (no_registry registry) _ lent _ (λ past. omega (arith, x.3))
          (answered_check (name_longer name lent) [] (leb (length name) (length lent)) lent (name_written name lent) (fails_leb (length name) (length lent)) (answered_done lent (name_written name lent) refl)))
      go (inr x) = rw x.0 (answered_refused (no_registry registry) _ lent x.1)

  pub name_answered : (o : Outcome) (x : List ℕ) → Gives (name_call registry t lent) o x → Answered (name_lines registry t lent) lent (record { outcome = o; lent = x })
  name_answered o x ran = answered_run (name_lines registry t lent) lent o x ran name_lines_lem

  pub name_distinct : Distinct (name_lines registry t lent)
  unfolding is_one_of are_distinct
  name_distinct = refl

-- walk and push

module _ (slim : Bool) (shows : Walk) (registry : ℕ) (area : List ℕ) (base : ℕ) (t : List ℕ) where
  area_lines_lem : Answered (area_lines slim shows registry area base t) t (area_call slim shows registry area base t)
  unfolding call_in fitted
  area_lines_lem = go (known_or_not registry)
    where
      known : (r : Registry) → number_of r ≤ 5 → Answered (area_lines slim shows (number_of r) area base t) t (call_in slim shows (Some r) area base t)
      known r low =
          let trees : Forest = shows (number_of r) area base in
          answered_past (no_registry (number_of r)) _ t _ (λ past. omega (arith, low))
          (answered_check (too_long area) _ (leb (length area) longest) t _ (fails_leb (length area) longest)
          (answered_check (too_far area base) _ (leb (base + length area) furthest) t _ (fails_leb (base + length area) furthest)
          (answered_check (no_tape slim t) _ (headed slim t) t _ (fails_headed slim t)
          (answered_room (too_many slim (size trees) t) (leb (size trees) (room slim t - used t)) t (shown slim (covered area) trees t) (size trees) refl (fails_leb (size trees) (room slim t - used t))
          (answered_done t (shown slim (covered area) trees t) refl)))))

      go : KnownOrNot registry → Answered (area_lines slim shows registry area base t) t (area_call slim shows registry area base t)
      go (inl x) =
          rw x.1
          (subst (λ (n : ℕ). Answered (area_lines slim shows n area base t) t (call_in slim shows (Some x.0) area base t)) (sym x.2) (known x.0 (subst (λ (n : ℕ). n ≤ 5) x.2 x.3)))
      go (inr x) = rw x.0 (answered_refused (no_registry registry) _ t x.1)

  -- for walk shows is `walked usual`, and for push `pushed usual`
  pub area_answered : (o : Outcome) (x : List ℕ) → Gives (area_call slim shows registry area base t) o x → Answered (area_lines slim shows registry area base t) t (record { outcome = o; lent = x })
  area_answered o x ran = answered_run (area_lines slim shows registry area base t) t o x ran area_lines_lem

  pub area_distinct : Distinct (area_lines slim shows registry area base t)
  unfolding is_one_of are_distinct
  area_distinct = refl

-- the dump program

module _ (input t : List ℕ) where
  dump_lines_lem : Answered (dump_lines input t) t (dump_call input t)
  unfolding dump_call
  dump_lines_lem =
      let five = fails_leb 5 (length input) in
      let most = fails_leb (length (input_area input)) longest_dumped in
      answered_check (not_taken input) _ _ t _ (fails_and (leb 5 (length input)) _ five most)
      (area_lines_lem true (pushed usual) (input_registry input) (input_area input) (input_base input) t)

  pub dump_answered : (o : Outcome) (x : List ℕ) → Gives (dump_call input t) o x → Answered (dump_lines input t) t (record { outcome = o; lent = x })
  dump_answered o x ran = answered_run (dump_lines input t) t o x ran dump_lines_lem

  -- 10 comes first, and 1 to 5 behind it
  pub dump_distinct : Distinct (dump_lines input t)
  unfolding is_one_of are_distinct
  dump_distinct = refl
