-- The records of an SRv6 tail, case by case.
use Rattle.std.specs.Prelude.{◌≡◌, ◌∷◌, List, ℕ, ◌+◌, ◌-◌, ◌≤◌, ◌<◌, length, get_or, take, drop}
use Rattle.std.proofs.Math.Path.{refl, sym, ap}
use Rattle.std.proofs.Common.{◌∙◌, arith, add-zero, le-leb, drop-drop, length-drop}
use Rattle.std.proofs.lemmas.Bool.{lt-leb}
use Rattle.std.proofs.Math.Seq.{get_or-drop}
use Rattle.tape.specs.Forest.{◌⧺◌}
use Rattle.meaning.specs.Field.{tail}
use Rattle.meaning.specs.Frame.{covered}
use Rattle.meaning.specs.PlaceLaws.{part_rest}
use Rattle.meaning.specs.Tail.{inner}
use Rattle.meaning.specs.Table.{usual}
use Rattle.meaning.specs.Area.{inner_walk}
use Rattle.meaning.proofs.ValueLaws.{tail_bare, tail_overrun, tail_inner}
use Rattle.count.specs.Records.{rest, last_records, Walks}
use Rattle.count.specs.RowCount.{rest_behind}
use Rattle.count.specs.declared.Counted.{Counted}

module _ (v : List ℕ) (at : ℕ) (there : at + 16 ≤ length v) where
  -- what stands behind the SID, as the code passes it on
  abbrev pub behind_sid : List ℕ
  behind_sid = take (length v - (at + 16)) (drop (at + 16) v)

  pub length_behind : at + 16 + length behind_sid ≡ length v
  length_behind = rw (part_rest (at + 16) v) (omega (arith, length-drop (at + 16) v))

  -- no length octet
  pub bare_count : length behind_sid ≡ 0 → (registry base : ℕ) → 1 ≡ last_records registry v base (tail at)
  bare_count bare registry base =
      let x = tail_bare (inner_walk usual) registry v base at (omega (arith, length_behind, bare)) in
      rw (x.shows, x.takes, le-leb (length v) (at + 16) (omega (arith, length_behind, bare))) refl

  -- a length octet, and octets behind it
  module _ {l : ℕ} {octets : List ℕ} (is : behind_sid ≡ l ∷ octets) where
    length_octet : get_or v (at + 16) 0 ≡ l
    length_octet = sym (get_or-drop (at + 16) v 0 0 ∙ ap (λ (n : ℕ). get_or v n 0) (add-zero (at + 16))) ∙ ap (λ (s : List ℕ). get_or s 0 0) (rw (part_rest (at + 16) v) at is)

    after_length : drop (at + 16 + 1) v ≡ octets
    after_length = sym (drop-drop 1 (at + 16) v) ∙ ap (drop 1) (rw (part_rest (at + 16) v) at is)

    so_many : at + 17 + length octets ≡ length v
    so_many = omega (arith, length_behind, ap length is)

    -- its length overruns
    pub overrun_count : length octets < l → (registry base : ℕ) → 2 ≡ last_records registry v base (tail at)
    overrun_count over registry base =
        let x = tail_overrun (inner_walk usual) registry v base at (omega (arith, so_many, length_octet)) in
        rw (x.shows, x.takes, lt-leb (length v) (at + 16) (omega (arith, so_many))) refl

    -- an inner area
    pub inner_count : {area : List ℕ} {r : Counted} → area ≡ take (l - 0) octets → l ≤ length octets → Walks (inner_walk usual) 4 area r → (registry base : ℕ)
        → 1 + (r.records + rest r.covered (length octets)) ≡ last_records registry v base (tail at)
    unfolding ◌⧺◌
    inner_count {r = r} part fits walk registry base =
        let start = at + 16 + 1 in
        let same : inner v at ≡ take (l - 0) octets = rw (length_octet, after_length) (ap (λ (n : ℕ). take n octets) (omega arith)) in
        let these = rw (part ∙ sym same) at walk in
        let x = tail_inner (inner_walk usual) registry v base at (omega (arith, so_many, length_octet)) in
        let ends : at + 17 + covered (inner v at) ≡ start + r.covered = omega (arith, these.covers) in
        let left = ap (λ (s : List ℕ). rest r.covered (length s)) after_length in
        rw (x.shows, x.takes, ends) (omega (arith, these.records (base + start), left, rest_behind start r.covered v (omega (arith, so_many))))
