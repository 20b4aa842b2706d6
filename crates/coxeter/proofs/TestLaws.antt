-- What a test that holds says, and a place in a list: the first, or one of the others. For the laws that say when a
-- check fails.
-- Assumes nothing.
use mathlib.Core.Path.{◌≡◌, refl}
use mathlib.Core.Bool.{Bool, true, false, false≢true, ◌||◌}
use mathlib.Core.Logic.{◌↔◌, ◌⊎◌, inl, inr, ⊎_elim}
use Prim.Native.Nat.{ℕ, zero, suc, ◌<◌}
use native.Mathlib.Omega.{arith}
use lib.Dec.{eqb, ltb}
use borrow.Author.Tests.{eqb-true, eq-eqb, ltb-true, lt-ltb}

-- A case that cannot be: from two different constructors that are said to be equal `cc` proves every equation, and
-- nothing but equations; so this one stands for it.
pub impossible : {X : Type 0} → (◌≡◌ {A = ℕ} 0 1) → X
impossible z = absurd (omega arith)

-- a and b are not the same, in the form in which `cc` proves it of two constructors
abbrev pub Apart : {X : Type 0} → X → X → Type 0
Apart a b = a ≡ b → ◌≡◌ {A = ℕ} 0 1

pub not_true_false : (t : Bool) → (t ≡ true → ⊥) → t ≡ false
not_true_false true f = absurd (f refl)
not_true_false false f = refl

pub eqb_exactly : (a b : ℕ) → (eqb a b ≡ true) ↔ (a ≡ b)
eqb_exactly a b = (eqb-true a b, eq-eqb a b)

pub ltb_exactly : (a b : ℕ) → (ltb a b ≡ true) ↔ (a < b)
ltb_exactly a b = (ltb-true a b, lt-ltb a b)

pub or_exactly : {P Q : Type 0} (a b : Bool) → (a ≡ true) ↔ P → (b ≡ true) ↔ Q → ((a || b) ≡ true) ↔ (P ⊎ Q)
or_exactly true b p q = (λ e. inl (p.0 refl), λ s. refl)
or_exactly false b p q = (λ e. inr (q.0 e), ⊎_elim (λ x. absurd (false≢true (p.1 x))) q.1)

-- a place below one more than m
pub some_place : (P : ℕ → Type 0) (m : ℕ) → ((i : ℕ) × (i < suc m) × P i) ↔ (P 0 ⊎ ((i : ℕ) × (i < m) × P (suc i)))
some_place P m = (λ h. split h.0 h.1 h.2, ⊎_elim (λ p. (0, omega arith, p)) (λ h. (suc h.0, omega (arith, h.1), h.2)))
  where
    split : (i : ℕ) → i < suc m → P i → P 0 ⊎ ((i : ℕ) × (i < m) × P (suc i))
    split zero l p = inl p
    split (suc i) l p = inr (i, omega arith, p)
