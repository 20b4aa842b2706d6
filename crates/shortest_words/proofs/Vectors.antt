-- Words with their values: a word without one of its letters, and a word that is no shortest one.
-- Assumes nothing.
use mathlib.Core.Path.{◌≡◌, refl}
use mathlib.Core.List.{[], ◌∷◌}
use Prim.Native.Nat.{◌≤◌}
use native.Mathlib.Omega.{arith}
use Rattle.coxeter.specs.declared.Kind.TheVariants.{A}
use Rattle.coxeter.specs.Kinds.{up}
use Rattle.coxeter.specs.Windows.{from, swap, act, window_from, identity, window}
use Rattle.coxeter.specs.Checks.{wrong_letter}
use Rattle.shortest_words.specs.OneLetter.{Shortest, drop_at}

-- X2: the rest keeps its order, and past the end nothing is removed
pub dropped : (drop_at 0 (1 ∷ 2 ∷ 1 ∷ []) ≡ 2 ∷ 1 ∷ []) × (drop_at 1 (1 ∷ 2 ∷ 1 ∷ []) ≡ 1 ∷ 1 ∷ []) × (drop_at 3 (1 ∷ 2 ∷ 1 ∷ []) ≡ 1 ∷ 2 ∷ 1 ∷ [])
unfolding drop_at
dropped = (refl, refl, refl)

-- a step twice is no shortest word
pub twice_not_shortest : Shortest A 2 (1 ∷ 1 ∷ []) → ⊥
unfolding wrong_letter window window_from identity up act from swap
twice_not_shortest s = let l : 2 ≤ 0 = s.none_shorter [] refl refl in omega arith
