-- Laws of cutting.
use Rattle.std.specs.Prelude.{◌≡◌}
use Rattle.std.proofs.Math.Path.{refl, ap}
use Rattle.std.proofs.Common.{sym, ◌∙◌, add-zero, add_assoc, arith, length-take-le, drop-drop}
use mathlib.Core.List.{List, [], ◌∷◌, ◌++◌, append_assoc}
use Prim.Native.Nat.{ℕ, zero, suc, pred, ◌+◌, ◌≤◌, ◌<◌}
use Rattle.std.proofs.Math.ListN.{length, take, drop, length-take, length-drop, take-append-drop}
use Rattle.std.proofs.lemmas.List.{take-append-le, drop-append-le}
use Rattle.std.proofs.Math.Seq.{take-append_seam, drop-append_seam}
use Rattle.tape.specs.Forest.{Forest, ◌⧺◌}
use Rattle.tape.specs.ForestLaws.{⧺-assoc}
use Rattle.meaning.specs.Cut.{Measure, first_piece, pieces_after, pieces, total, each}

-- each

pub each-++ : (f : List ℕ → ℕ → Forest) (at : ℕ) (ps qs : List (List ℕ)) → each f at (ps ++ qs) ≡ each f at ps ⧺ each f (at + total ps) qs
unfolding each total ◌⧺◌
each-++ f at [] qs = rw add-zero
each-++ f at (p ∷ ps) qs = rw (each-++ f (at + length p) ps qs, ⧺-assoc, add_assoc)

-- pieces that become the same
pub each_same : (f g : List ℕ → ℕ → Forest) → ((p : List ℕ) (at : ℕ) → f p at ≡ g p at) → (ps : List (List ℕ)) (at : ℕ) → each f at ps ≡ each g at ps
unfolding each
each_same f g same [] at = refl
each_same f g same (p ∷ ps) at = rw (same p at, each_same f g same ps (at + length p))

-- total

pub total-++ : (ps qs : List (List ℕ)) → total (ps ++ qs) ≡ total ps + total qs
unfolding total
total-++ [] qs = omega arith
total-++ (p ∷ ps) qs = omega (arith, total-++ ps qs)

-- joined

-- the octets of pieces, one after the other
abbrev pub joined : List (List ℕ) → List ℕ
joined [] = []
joined (p ∷ ps) = p ++ joined ps

-- pieces

-- octets that are skipped are dropped
skipped : (m : Measure) (skip : ℕ) (xs : List ℕ) → pieces_after skip m xs ≡ pieces_after 0 m (drop skip xs)
unfolding pieces_after
skipped m zero xs = refl
skipped m (suc skip) [] = refl
skipped m (suc skip) (x ∷ xs) = skipped m skip xs

-- a measure that stays within the octets
module _ (m : Measure) (fits : (xs : List ℕ) → m xs ≤ length xs) where
  -- no piece stands in front
  pub pieces_stop : (xs : List ℕ) → m xs ≡ 0 → pieces m xs ≡ []
  unfolding pieces pieces_after
  pieces_stop [] e = refl
  pieces_stop (x ∷ xs) e = rw e

  -- one does
  pub pieces_step : (xs : List ℕ) → 0 < m xs → pieces m xs ≡ take (m xs) xs ∷ pieces m (drop (m xs) xs)
  unfolding pieces pieces_after
  pieces_step [] h = absurd (omega (arith, fits []))
  pieces_step (x ∷ xs) h = go (m (x ∷ xs)) h
    where
      go : (n : ℕ) → 0 < n → first_piece n (x ∷ xs) (pieces_after (pred n) m xs) ≡ take n (x ∷ xs) ∷ pieces_after 0 m (drop n (x ∷ xs))
      go zero h = absurd (omega arith)
      go (suc n) h = rw (skipped m n xs)

  -- what holds of octets without a piece in front, and of octets with one if of those after it, holds of all
  module _ (P : List ℕ → List (List ℕ) → Type 0)
      (stop : (xs : List ℕ) → m xs ≡ 0 → P xs [])
      (step : (xs : List ℕ) → 0 < m xs → P (drop (m xs) xs) (pieces m (drop (m xs) xs)) → P xs (take (m xs) xs ∷ pieces m (drop (m xs) xs))) where
    from : (k : ℕ) (xs : List ℕ) → k ≤ length xs → P (drop k xs) (pieces m (drop k xs))
    from zero [] h = rw (pieces_stop [] (omega (arith, fits []))) (stop [] (omega (arith, fits [])))
    from (suc k) [] h = absurd (omega arith)
    from (suc k) (x ∷ xs) h = from k xs (omega arith)
    from zero (x ∷ xs) h = go (m (x ∷ xs)) refl (λ j. from j xs)
      where
        go : (n : ℕ) → m (x ∷ xs) ≡ n → ((j : ℕ) → j ≤ length xs → P (drop j xs) (pieces m (drop j xs))) → P (x ∷ xs) (pieces m (x ∷ xs))
        go zero e ih = rw (pieces_stop (x ∷ xs) e) (stop (x ∷ xs) e)
        go (suc j) e ih =
            let h : 0 < m (x ∷ xs) = rw e (omega arith) in
            let g : suc j ≤ suc (length xs) = rw e at (fits (x ∷ xs)) in
            rw (pieces_step (x ∷ xs) h) (step (x ∷ xs) h (rw e (ih j (omega arith))))

    pub pieces_ind : (xs : List ℕ) → P xs (pieces m xs)
    pieces_ind xs = from 0 xs (omega arith)

  -- pieces have no more octets than there are
  pub total_le : (xs : List ℕ) → total (pieces m xs) ≤ length xs
  unfolding total
  total_le = pieces_ind (λ xs ps. total ps ≤ length xs) (λ xs e. omega arith) (λ xs h ih. omega (arith, length-take (m xs) xs, length-drop (m xs) xs, fits xs))

  -- pieces, and what stands after them, are all there is
  pub pieces_rejoined : (xs : List ℕ) → joined (pieces m xs) ++ drop (total (pieces m xs)) xs ≡ xs
  unfolding total
  pieces_rejoined = pieces_ind (λ xs ps. joined ps ++ drop (total ps) xs ≡ xs) (λ xs e. refl) step
    where
      step : (xs : List ℕ) → 0 < m xs → joined (pieces m (drop (m xs) xs)) ++ drop (total (pieces m (drop (m xs) xs))) (drop (m xs) xs) ≡ drop (m xs) xs
          → (take (m xs) xs ++ joined (pieces m (drop (m xs) xs))) ++ drop (length (take (m xs) xs) + total (pieces m (drop (m xs) xs))) xs ≡ xs
      step xs h ih =
          let ps : List (List ℕ) = pieces m (drop (m xs) xs) in
          append_assoc (take (m xs) xs) (joined ps) (drop (length (take (m xs) xs) + total ps) xs)
          ∙ ap (λ (n : ℕ). take (m xs) xs ++ (joined ps ++ drop (n + total ps) xs)) (length-take-le (m xs) xs (fits xs))
          ∙ ap (λ (l : List ℕ). take (m xs) xs ++ (joined ps ++ l)) (sym (drop-drop (total ps) (m xs) xs))
          ∙ ap (λ (l : List ℕ). take (m xs) xs ++ l) ih
          ∙ take-append-drop (m xs) xs

  -- no piece stands after them
  pub pieces_after_lem : (xs : List ℕ) → m (drop (total (pieces m xs)) xs) ≡ 0
  unfolding total
  pieces_after_lem = pieces_ind (λ xs ps. m (drop (total ps) xs) ≡ 0) (λ xs e. e) step
    where
      step : (xs : List ℕ) → 0 < m xs → m (drop (total (pieces m (drop (m xs) xs))) (drop (m xs) xs)) ≡ 0
          → m (drop (length (take (m xs) xs) + total (pieces m (drop (m xs) xs))) xs) ≡ 0
      step xs h ih =
          let n : ℕ = total (pieces m (drop (m xs) xs)) in
          ap (λ (k : ℕ). m (drop (k + n) xs)) (length-take-le (m xs) xs (fits xs)) ∙ ap m (sym (drop-drop n (m xs) xs)) ∙ ih

  -- octets behind do not change the piece in front
  module _ (more : (xs ys : List ℕ) → 0 < m xs → m (xs ++ ys) ≡ m xs) where
    -- a piece and octets after it: they are cut by themselves
    pub pieces_piece : (p ys : List ℕ) → m p ≡ length p → 0 < length p → pieces m (p ++ ys) ≡ p ∷ pieces m ys
    pieces_piece p ys e h =
        let k : m (p ++ ys) ≡ length p = more p ys (rw e h) ∙ e in
        pieces_step (p ++ ys) (rw k h) ∙ rw (k, take-append_seam, drop-append_seam)

    -- octets cut whole and octets after them: they are cut by themselves
    pub pieces-++ : (ys xs : List ℕ) → total (pieces m xs) ≡ length xs → pieces m (xs ++ ys) ≡ pieces m xs ++ pieces m ys
    unfolding total
    pieces-++ ys = pieces_ind (λ xs ps. total ps ≡ length xs → pieces m (xs ++ ys) ≡ ps ++ pieces m ys) stop step
      where
        stop : (xs : List ℕ) → m xs ≡ 0 → 0 ≡ length xs → pieces m (xs ++ ys) ≡ pieces m ys
        stop [] e w = refl
        stop (x ∷ xs) e w = absurd (omega arith)

        step : (xs : List ℕ) → 0 < m xs
            → (total (pieces m (drop (m xs) xs)) ≡ length (drop (m xs) xs) → pieces m (drop (m xs) xs ++ ys) ≡ pieces m (drop (m xs) xs) ++ pieces m ys)
            → length (take (m xs) xs) + total (pieces m (drop (m xs) xs)) ≡ length xs → pieces m (xs ++ ys) ≡ take (m xs) xs ∷ (pieces m (drop (m xs) xs) ++ pieces m ys)
        step xs h ih w =
            let g : m xs ≤ length xs = fits xs in
            pieces_step (xs ++ ys) (rw (more xs ys h) h)
            ∙ rw (more xs ys h, take-append-le (m xs) xs ys g, drop-append-le (m xs) xs ys g, ih (omega (arith, length-take (m xs) xs, length-drop (m xs) xs)))
