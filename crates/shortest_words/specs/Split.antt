-- Splits over allowed steps, in the field's words the parabolic decomposition (section S of the specification).
-- First what the two words are, then a definition of them, which nobody has to believe: they have the properties
-- (`splits` of proofs/Splits.antt), and no other two words have (`splits_only`).
use Rattle.std.specs.Prelude.{◌≡◌, Bool, true, ◌&&◌, List, ◌∷◌, ℕ, zero, suc, ◌+◌, ℤ, length}
use Rattle.std.proofs.Math.Option.{Option, none, some}
use Rattle.coxeter.specs.declared.Kind.{Kind}
use Rattle.coxeter.specs.Kinds.{pick}
use Rattle.coxeter.specs.Windows.{act, window, product, inverse}
use Rattle.coxeter.specs.Length.{window_length}
use Rattle.coxeter.specs.NormalForm.{normal_form, IsNormalForm}
use Rattle.shortest_words.specs.OneLetter.{Shortest}
use Rattle.shortest_words.specs.Descents.{is_descent}
use Rattle.shortest_words.specs.Allowed.{Over}

-- S3: no shortest word with the window w, of any length, begins with an allowed step
abbrev pub NoneBegins : (ℕ → Bool) → Kind → ℕ → List ℤ → Type 0
NoneBegins allowed k n w = (s : ℕ) (u : List ℕ) → allowed s ≡ true → Shortest k n (s ∷ u) → window k n (s ∷ u) ≡ w → ⊥

-- S2 to S6: the two words of a split of a preset with the window w
pub record IsSplit (allowed : ℕ → Bool) (k : Kind) (n : ℕ) (w : List ℤ) (first second : List ℕ) : Type 0 where
  -- S2
  pub over : Over allowed first
  -- S3
  pub none_begins : NoneBegins allowed k n (window k n second)
  -- S4
  pub first_normal : IsNormalForm k n (window k n first) first
  -- S4
  pub second_normal : IsNormalForm k n (window k n second) second
  -- S5
  pub joins : product (window k n first) (window k n second) ≡ w
  -- S6
  pub lengths : length first + length second ≡ window_length k w

-- Helper of S7: the lowest of the t steps from s on that is allowed and makes the window x
-- shorter.
unfoldable pub lowest : (ℕ → Bool) → Kind → ℕ → ℕ → ℕ → List ℤ → Option ℕ
lowest allowed k n zero s x = none
lowest allowed k n (suc t) s x = pick (allowed s && is_descent k n s x) (some s) (lowest allowed k n t (suc s) x)

-- Helper of S7: x after the lowest allowed step that makes it shorter, again and again, at most t
-- times.
unfoldable pub stripped : (ℕ → Bool) → Kind → ℕ → ℕ → List ℤ → List ℤ
stripped allowed k n zero x = x
stripped allowed k n (suc t) x = elim (lowest allowed k n n 1 x) [ none ↦ x | some s ↦ stripped allowed k n t (act k n s x) ]

-- S3: a step taken off the front of w is a step at the end of its inverse, so this is the inverse of what is left
-- of w when no allowed step makes it shorter from the front. Each step lowers the length by one, so that as many
-- steps as the length are enough.
unfoldable pub rest_inverse : (ℕ → Bool) → Kind → ℕ → List ℤ → List ℤ
rest_inverse allowed k n w = stripped allowed k n (window_length k w) (inverse w)

-- S2, S7: the first word: what was taken off w
unfoldable pub first_word : (ℕ → Bool) → Kind → ℕ → List ℤ → List ℕ
first_word allowed k n w = normal_form k n (product w (rest_inverse allowed k n w))

-- S3, S7: the second word: what is left
unfoldable pub second_word : (ℕ → Bool) → Kind → ℕ → List ℤ → List ℕ
second_word allowed k n w = normal_form k n (inverse (rest_inverse allowed k n w))
