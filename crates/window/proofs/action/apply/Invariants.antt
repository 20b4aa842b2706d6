-- `action::apply` is the window after a word. The invariant: what is left of the word leads from the window so far,
-- which is accepted, to the same window.
-- Assumes nothing.
use mathlib.Core.Path.{◌≡◌}
use mathlib.Core.Bool.{false}
use mathlib.Core.List.{List}
use Prim.Native.Nat.{ℕ}
use lib.IntN.{ℤ}
use lib.ListN.{drop}
use Rattle.coxeter.specs.declared.Kind.{Kind}
use Rattle.coxeter.specs.Windows.{window_from}
use Rattle.coxeter.specs.Checks.{wrong_letter, WindowOf}
use Rattle.window.proofs.action.apply.Given as goal

-- i letters have acted on the window w₀
pub record Acted (k : Kind) (n : ℕ) (word : List ℕ) (w₀ w : List ℤ) (i : ℕ) : Type 0 where
  pub steps : wrong_letter n (drop i word) ≡ false
  pub passes : WindowOf k n w
  pub leads : window_from k n w₀ word ≡ window_from k n w (drop i word)

abbrev pub invariant-loop-s : goal.invariant-loop-s
invariant-loop-s l = Acted l.word.group.kind l.word.group.rank l.word.letters.now l.initial.w l.w l.s-index
