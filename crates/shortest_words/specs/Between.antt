-- Words over allowed steps from one window to another (section A of the specification). First what the answer is,
-- then a definition of it.
use Rattle.std.specs.Prelude.{◌≡◌, Bool, true, false, List, ℕ, ℤ}
use Rattle.coxeter.specs.declared.Kind.{Kind}
use Rattle.coxeter.specs.Windows.{window_from, window, product, inverse}
use Rattle.coxeter.specs.Dictionary.{shortlex}
use Rattle.coxeter.specs.Checks.{wrong_letter}
use Rattle.coxeter.specs.NormalForm.{normal_form, IsNormalForm}
use Rattle.shortest_words.specs.Allowed.{over, Over}

-- A2: a word over the allowed steps leads from v to w
pub record Leads (allowed : ℕ → Bool) (k : Kind) (n : ℕ) (v w : List ℤ) (u : List ℕ) : Type 0 where
  -- K6: the letters are steps
  pub steps : wrong_letter n u ≡ false
  -- S2
  pub over : Over allowed u
  -- A2
  pub arrives : window_from k n v u ≡ w

-- A6: some word of any length leads there; 19 is for none
abbrev pub Reachable : (ℕ → Bool) → Kind → ℕ → List ℤ → List ℤ → Type 0
Reachable allowed k n v w = (u : List ℕ) × Leads allowed k n v w u

-- A3, A4: the word of the answer
pub record IsBetween (allowed : ℕ → Bool) (k : Kind) (n : ℕ) (v w : List ℤ) (u : List ℕ) : Type 0 where
  -- A3
  pub leads : Leads allowed k n v w u
  -- A3, N1: it is a normal form
  pub normal : IsNormalForm k n (window k n u) u
  -- A4: among words of any length
  pub least : (x : List ℕ) → Leads allowed k n v w x → (x ≡ u → ⊥) → shortlex u x ≡ true

-- A3: the normal form of inverse v · w, the window that leads from v to w. That it is the word of A3 and A4 is
-- `between_is` of proofs/Between.antt.
unfoldable pub between : Kind → ℕ → List ℤ → List ℤ → List ℕ
between k n v w = normal_form k n (product (inverse v) w)

-- A6: whether a word leads there: all letters of that normal form are allowed
unfoldable pub reachable : (ℕ → Bool) → Kind → ℕ → List ℤ → List ℤ → Bool
reachable allowed k n v w = over allowed (between k n v w)
