-- What the statements cite of shortest words, over the definitions of specs/ alone. Each is a corollary of a law of
-- the files before; `WindowOf k n w` says that w passes checks 9 to 11. The ranks need no upper end, and words may
-- have any length.
--
-- Sections: one step; shortest words; one letter.
-- Assumes nothing.
use mathlib.Core.Path.{◌≡◌, refl, sym, ap, subst, ◌∙◌}
use mathlib.Core.Bool.{Bool, true, false}
use mathlib.Core.Logic.{◌⊎◌, inl, inr, ◌↔◌}
use mathlib.Core.List.{List, ◌∷◌, reverse, reverse-cons}
use Prim.Native.Nat.{ℕ, ◌+◌, ◌≤◌}
use native.Mathlib.Omega.{arith}
use lib.IntN.{ℤ}
use lib.ListN.{length}
use Rattle.coxeter.specs.declared.Kind.{Kind}
use Rattle.coxeter.specs.Kinds.{kind_of, least}
use Rattle.coxeter.specs.Windows.{act, window}
use Rattle.coxeter.specs.Length.{window_length}
use Rattle.coxeter.specs.Checks.{wrong_letter, RankOf, WindowOf}
use Rattle.coxeter.proofs.Acceptance.{rank_within}
use Rattle.coxeter.proofs.Levels.{accepted_of_refusal, window_accepted}
use Rattle.coxeter.proofs.Theorems.{window_passes}
use Rattle.coxeter.proofs.Inverses.{window-reverse}
use Rattle.shortest_words.specs.OneLetter.{Shortest, added, OneLetter}
use Rattle.shortest_words.specs.Descents.{is_descent}
use Rattle.shortest_words.proofs.Shortest.{length_of_shortest, shortest_of_length, window_length-inverse}
use Rattle.shortest_words.proofs.Exchange.{window_snoc, one_letter, one_letter_front}
use Rattle.shortest_words.proofs.Descents.{length_of_descent, length_of_ascent}

-- ---- one step

-- the first number is the second and one more, or the second is the first and one more
abbrev OneApart : ℕ → ℕ → Type 0
OneApart a b = (a ≡ b + 1) ⊎ (b ≡ a + 1)

module _ (k : Kind) (n s : ℕ) (h : least k ≤ n) (o : 1 ≤ s) (l : s ≤ n) where
  -- a step changes the length of a window by exactly one
  pub length-act : (w : List ℤ) → WindowOf k n w
      → (window_length k (act k n s w) ≡ window_length k w + 1) ⊎ (window_length k w ≡ window_length k (act k n s w) + 1)
  length-act w p = length-act_by_cases (is_descent k n s w) refl
    where
      length-act_by_cases : (t : Bool) → is_descent k n s w ≡ t → OneApart (window_length k (act k n s w)) (window_length k w)
      length-act_by_cases true t = inr (length_of_descent k n s w h o l (accepted_of_refusal k n w p) t)
      length-act_by_cases false t = inl (length_of_ascent k n s w h o l (accepted_of_refusal k n w p) t)

  -- adding a step at the end of a word, shortest or not
  pub length-added : (u : List ℕ) → (window_length k (added k n u s) ≡ window_length k (window k n u) + 1)
      ⊎ (window_length k (window k n u) ≡ window_length k (added k n u s) + 1)
  length-added u =
      subst (λ (w : List ℤ). OneApart (window_length k w) (window_length k (window k n u))) (sym (window_snoc k n u s))
      (length-act (window k n u) (window_passes k n u))

  -- and at its front, by inverses
  length-reverse : (u : List ℕ) → window_length k (window k n (reverse u)) ≡ window_length k (window k n u)
  length-reverse u = ap (window_length k) (window-reverse k n u) ∙ window_length-inverse k n (window k n u) h (window_accepted k n u)

  pub length-added-front : (u : List ℕ) → (window_length k (window k n (s ∷ u)) ≡ window_length k (window k n u) + 1)
      ⊎ (window_length k (window k n u) ≡ window_length k (window k n (s ∷ u)) + 1)
  length-added-front u =
      let turned = ap (λ (v : List ℕ). window_length k (window k n v)) (sym (reverse-cons s u)) ∙ length-reverse (s ∷ u) in
      subst (λ (a : ℕ). OneApart a (window_length k (window k n u))) turned
      (subst (OneApart (window_length k (added k n (reverse u) s))) (length-reverse u) (length-added (reverse u)))

-- ---- shortest words

-- a word is shortest exactly when its length is its window's length
pub shortest_exactly : (k : Kind) (n : ℕ) (u : List ℕ) → least k ≤ n → wrong_letter n u ≡ false → Shortest k n u ↔ (length u ≡ window_length k (window k n u))
shortest_exactly k n u h e = (length_of_shortest k n u h, λ q. shortest_of_length k n u h e (omega arith))

-- ---- one letter

-- X2, X3: at the ranks of check 6
pub one_letter-accepted : (k n : ℕ) (u : List ℕ) (s : ℕ) → RankOf k n → Shortest (kind_of k) n u → 1 ≤ s → s ≤ n
    → OneLetter (kind_of k) n u (added (kind_of k) n u s) × OneLetter (kind_of k) n u (window (kind_of k) n (s ∷ u))
one_letter-accepted k n u s r m o l =
    let h = (rank_within k n r).0 in
    (one_letter (kind_of k) n u s h m o l, one_letter_front (kind_of k) n u s h m o l)
