-- One use of a rule, anywhere in a word.
-- Assumes nothing.
use mathlib.Core.List.{List, ◌++◌}
use Prim.Native.Nat.{ℕ}
use Rattle.coxeter.specs.declared.Kind.{Kind}
use Rattle.rules.proofs.Families.{RuleOf}

pub data Rewrites (k : Kind) (n : ℕ) : List ℕ → List ℕ → Type 0 where
  within : (x y : List ℕ) {l r : List ℕ} → RuleOf k n l r → Rewrites k n (x ++ (l ++ y)) (x ++ (r ++ y))
