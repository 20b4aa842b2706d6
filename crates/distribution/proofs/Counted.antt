-- The number of windows of a length and that of all windows of a rank (Y1 to Y3 of the specification), each as the
-- length of a list that holds them, since two lists with the same members, in neither of which one stands twice, are
-- equally long.
--
-- Sections: windows of a length; all windows.
-- Assumes nothing.
use mathlib.Core.Path.{◌≡◌, sym, ◌∙◌}
use mathlib.Core.Bool.{Bool}
use mathlib.Core.Logic.{◌↔◌}
use mathlib.Core.List.{List}
use Prim.Native.Nat.{ℕ, ◌+◌, ◌≤◌}
use native.Mathlib.Omega.{arith}
use native.Mathlib.Nat.{le_antisymm}
use borrow.Author.Tests.{eq-eqb, eqb-true}
use lib.Dec.{eqb}
use lib.IntN.{ℤ}
use lib.ListN.{length}
use Rattle.coxeter.specs.declared.Kind.{Kind}
use Rattle.coxeter.specs.Kinds.{least}
use Rattle.coxeter.specs.Length.{window_length, greatest_length}
use Rattle.coxeter.specs.Checks.{WindowOf}
use Rattle.coxeter.proofs.Levels.{accepted_of_refusal}
use Rattle.coxeter.proofs.GreatestLengths.{window_length_le}
use Rattle.distribution.specs.AllWindows.{In, Once, keep, windows}
use Rattle.distribution.specs.Distribution.{of_length, distribution, order}
use Rattle.distribution.proofs.Members.{in_keep, of_keep, once_keep, length_le_of_in}
use Rattle.distribution.proofs.AllWindows.{windows_exactly, windows_once}
use Rattle.distribution.proofs.Sums.{sum_below, times_of, below-times_of}
use Rattle.distribution.proofs.Orders.{sum-distribution}

-- ---- windows of a length

same_length : {X : Type 0} (xs ys : List X) → Once xs → Once ys → ((x : X) → In x xs ↔ In x ys) → length xs ≡ length ys
same_length xs ys o p f = le_antisymm (length_le_of_in xs ys o (λ x. (f x).0)) (length_le_of_in ys xs p (λ x. (f x).1))

module _ (k : Kind) (n l : ℕ) where
  abbrev test : List ℤ → Bool
  test w = eqb (window_length k w) l

  of_that_length : (w : List ℤ) → In w (keep test (windows k n)) ↔ (WindowOf k n w × (window_length k w ≡ l))
  of_that_length w = (
    λ m. let p = of_keep test w (windows k n) m in ((windows_exactly k n w).0 p.0, eqb-true (window_length k w) l p.1),
    λ p. in_keep test w (windows k n) (eq-eqb (window_length k w) l p.1) ((windows_exactly k n w).1 p.0),
  )

  -- Y1, Y2: the number of windows of length l is c exactly when some list of c windows has all of that length, none
  -- twice, and nothing else
  pub of_length_exactly : (c : ℕ) → (of_length k n l ≡ c)
      ↔ ((ws : List (List ℤ)) × Once ws × ((w : List ℤ) → In w ws ↔ (WindowOf k n w × (window_length k w ≡ l))) × (length ws ≡ c))
  unfolding of_length
  of_length_exactly c =
      let all = keep test (windows k n) in
      let once = once_keep test (windows k n) (windows_once k n) in (
        λ e. (all, once, of_that_length, e),
        λ p.
            same_length all p.0 once p.1 (λ w. (λ m. (p.2 w).1 ((of_that_length w).0 m), λ m. (of_that_length w).1 ((p.2 w).0 m)))
            ∙ p.3,
      )

-- ---- all windows

length-windows : (k : Kind) (n : ℕ) → least k ≤ n → length (windows k n) ≡ order k n
unfolding of_length times_of distribution
length-windows k n h =
    let m = greatest_length k n + 1 in
    sym (below-times_of (window_length k) (windows k n) m (λ w i. omega (arith, window_length_le k n w (accepted_of_refusal k n w ((windows_exactly k n w).0 i)))))
    ∙ sym (sum_below (of_length k n) m)
    ∙ sum-distribution k n h

-- Y3: (n + 1)! in kind A, 2ⁿ n! in B and half of that in D is the number of windows: it is c exactly when some list of
-- c windows has all of them, none twice, and nothing else
pub order_exactly : (k : Kind) (n : ℕ) → least k ≤ n → (c : ℕ) → (order k n ≡ c)
    ↔ ((ws : List (List ℤ)) × Once ws × ((w : List ℤ) → In w ws ↔ WindowOf k n w) × (length ws ≡ c))
order_exactly k n h c = (
  λ e. (windows k n, windows_once k n, windows_exactly k n, length-windows k n h ∙ e),
  λ p.
      let same = same_length (windows k n) p.0 (windows_once k n) p.1
      (λ w. (λ m. (p.2 w).1 ((windows_exactly k n w).0 m), λ m. (windows_exactly k n w).1 ((p.2 w).0 m))) in
      sym (length-windows k n h) ∙ same ∙ p.3,
)
