-- One law for every loop that counts what pieces become.
use Rattle.std.specs.Prelude.{◌≡◌, List, ℕ, ◌+◌, ◌*◌, ◌-◌, ◌≤◌, Some, None, length, take, drop}
use Rattle.std.proofs.Common.{refl, arith, length-drop, length-take-le}
use Rattle.tape.specs.Forest.{Forest, size}
use Rattle.tape.specs.ForestLaws.{size-⧺}
use Rattle.meaning.specs.Cut.{Measure, pieces, total, each}
use Rattle.meaning.specs.CutLaws.{pieces_stop, pieces_step}
use Rattle.meaning.specs.Complete.{complete}
use Rattle.meaning.specs.CompleteLaws.{complete_is, complete_none}
use Rattle.meaning.specs.PlaceLaws.{part_rest}
use Rattle.count.specs.Records.{Cuts}

-- pieces cut by m out of s, of which some octets are left: those before them became n records
pub record Counting (m : Measure) (f : List ℕ → ℕ → Forest) (s left : List ℕ) (n : ℕ) : Type 0 where
  pub inside : length left ≤ length s
  pub few : n + 4 * length left ≤ 4 * length s
  pub octets : length s + total (pieces m left) ≡ length left + total (pieces m s)
  pub records : (base : ℕ) → (at : ℕ) × (n + size (each f at (pieces m left)) ≡ size (each f base (pieces m s)))

-- before the first turn
pub counting_start : {m : Measure} {f : List ℕ → ℕ → Forest} {s : List ℕ} → Counting m f s s 0
counting_start = record { inside = omega arith; few = omega arith; octets = refl; records = λ base. (base, omega arith) }

module _ {m : Measure} (fits : (xs : List ℕ) → m xs ≤ length xs) {f : List ℕ → ℕ → Forest} {s left : List ℕ} {n : ℕ} (c : Counting m f s left n) where
  -- one turn, over a piece of w octets that becomes k records
  pub counting_step : {w next : ℕ} (k : ℕ) → Some w ≡ complete (m left) → k ≤ 4 * w → ((at : ℕ) → size (f (take w left) at) ≡ k) → next ≡ n + k
      → Counting m f s (take (length left - w) (drop w left)) next
  unfolding total each
  counting_step {w} {next} k is few one more =
      let here = complete_is (m left) is in
      let there : w ≤ length left = omega (arith, here, fits left) in
      let front : length (take w left) ≡ w = length-take-le w left there in
      let cut = rw here.0 at (pieces_step m fits left here.1) in
      rw (part_rest w left) (record {
        inside = omega (arith, c.inside, length-drop w left);
        few = omega (arith, c.few, length-drop w left);
        octets = omega (arith, rw cut at c.octets, front, length-drop w left);
        records = λ base.
            let at = (c.records base).0 in
            let before = rw (cut, size-⧺) at (c.records base).1 in
            (at + length (take w left), omega (arith, before, one at, more));
      })

  -- after the last turn
  pub counting_end : None ≡ complete (m left) → Cuts m f s (record { covered = length s - length left; records = n })
  unfolding total each
  counting_end stops =
      let none = pieces_stop m fits left (complete_none (m left) stops) in
      record { few = omega (arith, c.few); covers = omega (arith, c.inside, rw none at c.octets); records = λ base. omega (arith, rw none at (c.records base).1) }
