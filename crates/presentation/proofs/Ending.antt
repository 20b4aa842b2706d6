-- Reductions end by any list whose rules are made of steps and lead to earlier words: an earlier word of steps has a
-- smaller value, as a number whose digits are n + 1 − letter.
-- Assumes nothing.
use mathlib.Core.Path.{◌≡◌, refl, sym, ap, ◌∙◌}
use mathlib.Core.Bool.{true, false}
use mathlib.Core.Logic.{inl, inr}
use mathlib.Core.List.Memᴰ
use mathlib.Core.List.{List, [], ◌∷◌, ◌++◌, Memᴰ}
use Prim.Native.Nat.{ℕ, zero, suc, ◌+◌, ◌-◌, ◌*◌, ◌≤◌, ◌<◌}
use native.Mathlib.Decide.{ℕ_discrete}
use native.Mathlib.Omega.{arith}
use lib.ListN.{length, length-append}
use Rattle.coxeter.specs.Checks.{wrong_letter}
use Rattle.coxeter.specs.Dictionary.{shortlex}
use Rattle.coxeter.proofs.LetterLaws.{letter_within_cons}
use Rattle.coxeter.proofs.Order.{shortlex_cases}
use Rattle.coxeter.proofs.Orders.{before_exactly}
use Rattle.coxeter.proofs.Relations.{letters-append}
use Rattle.rules.specs.Rules.{Rule}
use Rattle.rules.proofs.Ending.{letters_of_accepted, accepted_of_letters, value_from, value, value_from-append, value_from_lt}
use Rattle.presentation.specs.Reductions.{Reduces, within, Reductions, stays, step}
use Rattle.presentation.proofs.Reducing.{shortlex_within}

-- ---- the value of an earlier word

module _ (n : ℕ) where
  shorter_value : (u v : List ℕ) → wrong_letter n u ≡ false → wrong_letter n v ≡ false → length v < length u → value n v < value n u
  unfolding value value_from
  shorter_value [] v e f h = absurd (omega arith)
  shorter_value (s ∷ u) v e f h =
      let (o, l, g) = letter_within_cons n s u e in
      let d : ℕ = 0 * (n + 1) + (n + 1 - s) in
      let above : value_from n 0 u < value_from n d u = value_from_lt n 0 d u u refl (λ x m. (letters_of_accepted n u g x m).0) (omega arith) in
      elim (ℕ_discrete (length v) (length u)) [
        | yes q ↦ value_from_lt n 0 d v u (sym q) (λ x m. (letters_of_accepted n v f x m).0) (omega arith)
        | no q ↦ omega (arith, shorter_value u v g f (omega arith))
      ]

  higher_value : (x y z : List ℕ) (a b : ℕ) → b < a → length y ≡ length z → wrong_letter n (x ++ (a ∷ y)) ≡ false
      → value n (x ++ (a ∷ y)) < value n (x ++ (b ∷ z))
  unfolding value value_from
  higher_value x y z a b l q e =
      let t = letters_of_accepted n (x ++ (a ∷ y)) e in
      let g = t a (Memᴰ.append_right x (Memᴰ.head refl)) in
      rw (value_from-append n 0 x (a ∷ y), value_from-append n 0 x (b ∷ z))
      (value_from_lt n (value_from n 0 x * (n + 1) + (n + 1 - a)) (value_from n 0 x * (n + 1) + (n + 1 - b)) y z (sym q)
      (λ c m. (t c (Memᴰ.append_right x (Memᴰ.tail m))).0) (omega arith))

  earlier_value : (u v : List ℕ) → wrong_letter n u ≡ false → wrong_letter n v ≡ false → shortlex v u ≡ true → value n v < value n u
  earlier_value u v e f h = elim (shortlex_cases v u h) [
    | inl l ↦ shorter_value u v e f l
    | inr (l, b) ↦ elim ((before_exactly v u).0 b) [
      | inl (x, y, z, a, c, g, p, q) ↦
          let m : length y ≡ length z =
          omega (arith, simp length-append at (ap length p), simp length-append at (ap length q)) in
          rw (p, q) (higher_value x y z a c g m (sym (ap (wrong_letter n) p) ∙ f))
      | inr (a, z, q) ↦ absurd (omega (arith, simp length-append at (ap length q)))
    ]
  ]

-- ---- the end

module _ (n : ℕ) (rs : List Rule) (steps : (x : Rule) → Memᴰ x rs → wrong_letter n x.right ≡ false)
    (descending : (x : Rule) → Memᴰ x rs → shortlex x.right x.left ≡ true) where
  -- a reduction leads from a word of steps to an earlier one
  reduced_word : {u v : List ℕ} → Reduces rs u v → wrong_letter n u ≡ false → (wrong_letter n v ≡ false) × (shortlex v u ≡ true)
  reduced_word (within b a x m) e =
      let all = letters_of_accepted n (b ++ (x.left ++ a)) e in
      let front = accepted_of_letters n b (λ c q. all c (Memᴰ.append_left (x.left ++ a) q)) in
      let rest = accepted_of_letters n a (λ c q. all c (Memᴰ.append_right b (Memᴰ.append_right x.left q))) in (
        letters-append n b (x.right ++ a) front (letters-append n x.right a (steps x m) rest),
        shortlex_within b x.right x.left a (descending x m),
      )

  reductions_value : {t : ℕ} {u v : List ℕ} → Reductions rs t u v → wrong_letter n u ≡ false → t + value n v ≤ value n u
  reductions_value stays e = omega arith
  reductions_value (step {u = u} {v = v} r p) e =
      let (f, s) = reduced_word r e in
      omega (arith, earlier_value n u v e f s, reductions_value p f)

  -- U2: one number for each word of steps, which no chain of its reductions exceeds
  pub descending_bounded : (u : List ℕ) → wrong_letter n u ≡ false → (most : ℕ) × ((t : ℕ) (v : List ℕ) → Reductions rs t u v → t ≤ most)
  descending_bounded u e = (value n u, λ t v p. omega (arith, reductions_value p e))

  -- U2: no chain of reductions of a word of steps goes on for ever
  pub descending_terminating : (f : ℕ → List ℕ) → wrong_letter n (f 0) ≡ false → ((t : ℕ) → Reduces rs (f t) (f (suc t))) → ⊥
  descending_terminating f e r =
      let (most, h) = descending_bounded (f 0) e in
      omega (arith, h (suc most) (f (suc most)) (chain (suc most) f r))
    where
      chain : (t : ℕ) (f : ℕ → List ℕ) → ((t : ℕ) → Reduces rs (f t) (f (suc t))) → Reductions rs t (f 0) (f t)
      chain zero f r = stays
      chain (suc t) f r = step (r 0) (chain t (λ s. f (suc s)) (λ s. r (suc s)))
