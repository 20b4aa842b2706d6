-- Shortest words, a letter removed, and the statement about a word and a window (section X of the specification).
-- Its proof is `one_letter` of proofs/Exchange.antt.
use Rattle.std.specs.Prelude.{◌≡◌, false, List, [], ◌∷◌, ◌++◌, ℕ, zero, suc, ◌≤◌, ◌<◌, ℤ, length}
use Rattle.coxeter.specs.declared.Kind.{Kind}
use Rattle.coxeter.specs.Windows.{window}
use Rattle.coxeter.specs.Length.{window_length}
use Rattle.coxeter.specs.Checks.{wrong_letter}

-- X1: a shortest word, the field's reduced word
pub record Shortest (k : Kind) (n : ℕ) (u : List ℕ) : Type 0 where
  -- K6: the letters are steps
  pub steps : wrong_letter n u ≡ false
  -- X1: none of all words with its window, of any length, is shorter
  pub none_shorter : (v : List ℕ) → wrong_letter n v ≡ false → window k n v ≡ window k n u → length u ≤ length v

-- X2: u without the letter at place i, which counts from 0 (R13)
unfoldable pub drop_at : ℕ → List ℕ → List ℕ
drop_at i [] = []
drop_at zero (a ∷ u) = u
drop_at (suc i) (a ∷ u) = a ∷ drop_at i u

-- X2: the word without the letter at place i has the window w
abbrev pub Removable : Kind → ℕ → List ℕ → List ℤ → ℕ → Type 0
Removable k n u w i = (i < length u) × (window k n (drop_at i u) ≡ w)

-- X2: the window of the word with the step added at its end
abbrev pub added : Kind → ℕ → List ℕ → ℕ → List ℤ
added k n u s = window k n (u ++ (s ∷ []))

-- X2, X3: the statement, of the word u and the window w that it has with a step added
pub record OneLetter (k : Kind) (n : ℕ) (u : List ℕ) (w : List ℤ) : Type 0 where
  -- X2: there is such a place
  pub some : window_length k w < window_length k (window k n u) → (i : ℕ) × Removable k n u w i
  -- X2: and no two
  pub only : (i j : ℕ) → Removable k n u w i → Removable k n u w j → i ≡ j
  -- X3
  pub none : window_length k (window k n u) < window_length k w → (i : ℕ) → Removable k n u w i → ⊥
