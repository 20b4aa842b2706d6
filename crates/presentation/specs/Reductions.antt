-- Reductions by the rules of a list (U1 of the specification): one use of a rule from left to right, and chains of
-- them. `Irreducible` of the crate rules says that a word has none.
use mathlib.Core.List.{List, ◌++◌, Memᴰ}
use Rattle.std.specs.Prelude.{ℕ, suc}
use Rattle.rules.specs.Rules.{Rule}

-- R1, U4: the two sides of a rule of the list
pub data Pair (rs : List Rule) : List ℕ → List ℕ → Type 0 where
  pair : (x : Rule) → Memᴰ x rs → Pair rs x.left x.right

-- U1: one reduction puts the right side of a rule of the list in place of its left side, anywhere inside a word
pub data Reduces (rs : List Rule) : List ℕ → List ℕ → Type 0 where
  within : (before after : List ℕ) (x : Rule) → Memᴰ x rs → Reduces rs (before ++ (x.left ++ after)) (before ++ (x.right ++ after))

-- U1: t reductions, one after the other, lead from the first word to the second
pub data Reductions (rs : List Rule) : ℕ → List ℕ → List ℕ → Type 0 where
  stays : {u : List ℕ} → Reductions rs 0 u u
  step : {t : ℕ} {u v w : List ℕ} → Reduces rs u v → Reductions rs t v w → Reductions rs (suc t) u w

-- U1: as many reductions as one likes, perhaps none: the second word is a descendant of the first
abbrev pub ReducesTo : List Rule → List ℕ → List ℕ → Type 0
ReducesTo rs u v = (t : ℕ) × Reductions rs t u v
