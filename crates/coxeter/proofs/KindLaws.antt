-- The kinds by their numbers, and bounds that every kind shares.
-- Assumes nothing.
use mathlib.Core.Path.{◌≡◌}
use mathlib.Core.Logic.{◌⊎◌, inl, inr}
use Prim.Native.Nat.{ℕ, suc, ◌+◌, ◌≤◌, ◌<◌}
use native.Mathlib.Decide.{ℕ_discrete}
use native.Mathlib.Omega.{arith}
use borrow.Author.Tests.{eq-eqb, ne_eqb}
use Rattle.coxeter.specs.declared.Kind.{Kind}
use Rattle.coxeter.specs.declared.Kind.TheVariants.{A, B, D}
use Rattle.coxeter.specs.Kinds.{kind_of, lanes, least}
use Rattle.coxeter.specs.NormalForm.{levels}
use Rattle.coxeter.proofs.TestLaws.{impossible}

-- ---- kinds and ranks

pub A≢B : A ≡ B → ⊥
A≢B e = impossible (cc)

pub A≢D : A ≡ D → ⊥
A≢D e = impossible (cc)

pub B≢D : B ≡ D → ⊥
B≢D e = impossible (cc)

pub kind_of-one : (k : ℕ) → k ≡ 1 → kind_of k ≡ A
unfolding kind_of
kind_of-one k e = rw (eq-eqb k 1 e)

pub kind_of-two : (k : ℕ) → k ≡ 2 → kind_of k ≡ B
unfolding kind_of
kind_of-two k e = rw (ne_eqb k 1 (omega arith), eq-eqb k 2 e)

pub kind_of_three : (k : ℕ) → (k ≡ 1 → ⊥) → (k ≡ 2 → ⊥) → kind_of k ≡ D
unfolding kind_of
kind_of_three k f g = rw (ne_eqb k 1 f, ne_eqb k 2 g)

-- a match on `1 | 2` tests for the numbers from 1 up to 2
pub kind_of-one_or_two : (k : ℕ) → 1 ≤ k → k < 3 → (kind_of k ≡ A) ⊎ (kind_of k ≡ B)
kind_of-one_or_two k l h = elim (ℕ_discrete k 1) [ yes e ↦ inl (kind_of-one k e) | no f ↦ inr (kind_of-two k (omega arith)) ]

-- and leaves 0 and the numbers from 3 on
pub kind_of-below : (k : ℕ) → k < 1 → kind_of k ≡ D
kind_of-below k h = kind_of_three k (λ e. omega arith) (λ e. omega arith)

pub kind_of-above : (k : ℕ) → 3 ≤ k → kind_of k ≡ D
kind_of-above k h = kind_of_three k (λ e. omega arith) (λ e. omega arith)

-- a kind other than A is B or D
pub by_kind_else : (P : Kind → Type 0) (k : ℕ) → (k ≡ 1 → ⊥) → P B → P D → P (kind_of k)
by_kind_else P k f b d = elim (ℕ_discrete k 2) [ yes e ↦ rw (kind_of-two k e) b | no g ↦ rw (kind_of_three k f g) d ]

-- ---- tests and cases

pub lanes_le_add_one : (k : Kind) (n : ℕ) → lanes k n ≤ n + 1
lanes_le_add_one A n = omega arith
lanes_le_add_one B n = omega arith
lanes_le_add_one D n = omega arith

-- ---- the levels that are left

pub one_le : (k : Kind) (n : ℕ) → least k ≤ n → 1 ≤ n
one_le A n h = h
one_le B n h = omega arith
one_le D n h = omega arith

pub one_le_levels : (k : Kind) (n : ℕ) → least k ≤ n → 1 ≤ levels k n
one_le_levels A n h = h
one_le_levels B n h = omega arith
one_le_levels D n h = omega arith

pub levels_le : (k : Kind) (n : ℕ) → levels k n ≤ n
levels_le A n = omega arith
levels_le B n = omega arith
levels_le D n = omega arith

pub le_levels : (k : Kind) (n : ℕ) → n ≤ suc (levels k n)
le_levels A n = omega arith
le_levels B n = omega arith
le_levels D n = omega arith
