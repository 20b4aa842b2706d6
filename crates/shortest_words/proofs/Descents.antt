-- Steps that make an accepted window shorter are those that act on crossed entries (`crossed`), and such a step
-- lowers the length by one.
-- Assumes nothing.
use mathlib.Core.Path.{◌≡◌, refl, sym, ◌∙◌}
use mathlib.Core.Bool.{Bool, true, false}
use mathlib.Core.List.{List}
use Prim.Native.Nat.{ℕ, ◌+◌, ◌≤◌, ◌<◌}
use native.Mathlib.Omega.{arith}
use borrow.Author.Tests.{lt-ltb, le-ltb}
use lib.IntN.{ℤ}
use Rattle.coxeter.specs.declared.Kind.{Kind}
use Rattle.coxeter.specs.Kinds.{least}
use Rattle.coxeter.specs.Windows.{act}
use Rattle.coxeter.specs.Length.{window_length}
use Rattle.coxeter.proofs.Levels.{Accepted}
use Rattle.coxeter.proofs.Descents.{crossed, length_of_crossed, length_of_uncrossed}
use Rattle.shortest_words.specs.Descents.{is_descent}

-- X2: a step that makes the window shorter is a descent
pub descent_of_shorter : (k : Kind) (n s : ℕ) (w : List ℤ) → window_length k (act k n s w) < window_length k w → is_descent k n s w ≡ true
unfolding is_descent
descent_of_shorter k n s w g = lt-ltb (window_length k (act k n s w)) (window_length k w) g

-- X2: and no other step is
pub not_descent : (k : Kind) (n s : ℕ) (w : List ℤ) → window_length k w ≤ window_length k (act k n s w) → is_descent k n s w ≡ false
unfolding is_descent
not_descent k n s w g = le-ltb (window_length k (act k n s w)) (window_length k w) g

module _ (k : Kind) (n s : ℕ) (w : List ℤ) (h : least k ≤ n) (o : 1 ≤ s) (l : s ≤ n) (a : Accepted k n w) where
  -- one comparison of entries decides it
  pub descent_crossed : is_descent k n s w ≡ crossed k n s w
  descent_crossed = descent_crossed_by_cases (crossed k n s w) refl
    where
      descent_crossed_by_cases : (t : Bool) → crossed k n s w ≡ t → is_descent k n s w ≡ t
      descent_crossed_by_cases true e = descent_of_shorter k n s w (omega (arith, length_of_crossed k n s w h o l a e))
      descent_crossed_by_cases false e = not_descent k n s w (omega (arith, length_of_uncrossed k n s w h o l a e))

  pub length_of_descent : is_descent k n s w ≡ true → window_length k w ≡ window_length k (act k n s w) + 1
  length_of_descent e = length_of_crossed k n s w h o l a (sym descent_crossed ∙ e)

  pub length_of_ascent : is_descent k n s w ≡ false → window_length k (act k n s w) ≡ window_length k w + 1
  length_of_ascent e = length_of_uncrossed k n s w h o l a (sym descent_crossed ∙ e)
