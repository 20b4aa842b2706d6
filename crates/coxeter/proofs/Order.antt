-- The dictionary's order and the order by length and dictionary are strict and total, and the test of two windows
-- is their equality; by recursion on the words.
-- Assumes nothing.
use mathlib.Core.Path.{◌≡◌, refl, sym, ap, ◌∙◌}
use mathlib.Core.Logic.{◌⊎◌, inl, inr}
use mathlib.Core.Bool.{Bool, true, false, false≢true, and-eq-true_iff}
use mathlib.Core.List.{List, [], ◌∷◌, ◌++◌}
use Prim.Native.Nat.{ℕ, ◌<◌}
use native.Mathlib.Omega.{arith}
use borrow.Author.Tests.{ltb-true, ltb-false, eqb-true, eqb-false, lt-ltb, le-ltb, eq-eqb, ne_eqb}
use lib.Dec.{eqb, ltb}
use lib.IntN.{ℤ, pos, negsuc}
use lib.ListN.{length}
use Rattle.coxeter.specs.Dictionary.{before, shortlex}
use Rattle.coxeter.specs.Calls.{same_entry, same_window}

-- ---- two numbers

pub data Compared (a b : ℕ) : Type 0 where
  less : a < b → Compared a b
  same : a ≡ b → Compared a b
  more : b < a → Compared a b

pub compared : (a b : ℕ) → Compared a b
compared a b = compared_by_cases (eqb a b) (ltb a b) refl refl
  where
    compared_by_cases : (s t : Bool) → eqb a b ≡ s → ltb a b ≡ t → Compared a b
    compared_by_cases true t e l = same (eqb-true a b e)
    compared_by_cases false true e l = less (ltb-true a b l)
    compared_by_cases false false e l = more (let ne = eqb-false a b e in omega (arith, ltb-false a b l))

-- ---- the dictionary

-- where the first letters are equal the rest decides
before_same : (a b : ℕ) (u v : List ℕ) → a ≡ b → before (a ∷ u) (b ∷ v) ≡ before u v
unfolding before
before_same a b u v e = rw (eq-eqb a b e)

-- else the higher first letter
before-other : (a b : ℕ) (u v : List ℕ) → (a ≡ b → ⊥) → before (a ∷ u) (b ∷ v) ≡ ltb b a
unfolding before
before-other a b u v e = rw (ne_eqb a b e)

pub before_higher : (a b : ℕ) (u v : List ℕ) → b < a → before (a ∷ u) (b ∷ v) ≡ true
before_higher a b u v h = before-other a b u v (omega arith) ∙ lt-ltb b a h

pub before_cons : (a : ℕ) (u v : List ℕ) → before (a ∷ u) (a ∷ v) ≡ before u v
before_cons a u v = before_same a a u v refl

-- O2
pub before_continuation : (u : List ℕ) (a : ℕ) (v : List ℕ) → before u (u ++ (a ∷ v)) ≡ true
unfolding before
before_continuation [] a v = refl
before_continuation (b ∷ u) a v = before_cons b u (u ++ (a ∷ v)) ∙ before_continuation u a v

-- what an earlier word is: a higher first letter, or the same and an earlier rest
pub before_cases : (a b : ℕ) (u v : List ℕ) → before (a ∷ u) (b ∷ v) ≡ true → (b < a) ⊎ ((a ≡ b) × (before u v ≡ true))
before_cases a b u v h =
    elim (compared a b) [
      | less l ↦ absurd (false≢true (sym (before-other a b u v (omega arith) ∙ le-ltb b a (omega arith)) ∙ h))
      | same e ↦ inr (e, (sym (before_same a b u v e) ∙ h))
      | more l ↦ inl l
    ]

pub before_irrefl : (u : List ℕ) → before u u ≡ false
unfolding before
before_irrefl [] = refl
before_irrefl (a ∷ u) = before_cons a u u ∙ before_irrefl u

pub before_trans : (u v w : List ℕ) → before u v ≡ true → before v w ≡ true → before u w ≡ true
unfolding before
before_trans [] [] w h g = g
before_trans [] (b ∷ v) [] h g = g
before_trans [] (b ∷ v) (c ∷ w) h g = refl
before_trans (a ∷ u) [] w h g = let z : false ≡ true = h in cc
before_trans (a ∷ u) (b ∷ v) [] h g = let z : false ≡ true = g in cc
before_trans (a ∷ u) (b ∷ v) (c ∷ w) h g =
    elim (before_cases a b u v h) [
      | inl p ↦
          elim (before_cases b c v w g) [ inl q ↦ before_higher a c u w (omega arith) | inr q ↦ before_higher a c u w (omega (arith, q.0)) ]
      | inr p ↦
          elim (before_cases b c v w g) [
            | inl q ↦ before_higher a c u w (omega (arith, p.0))
            | inr q ↦ before_same a c u w (p.0 ∙ q.0) ∙ before_trans u v w p.1 q.1
          ]
    ]

-- equal, or one is before the other
pub before-total : (u v : List ℕ) → (u ≡ v) ⊎ ((before u v ≡ true) ⊎ (before v u ≡ true))
unfolding before
before-total [] [] = inl refl
before-total [] (b ∷ v) = inr (inl refl)
before-total (a ∷ u) [] = inr (inr refl)
before-total (a ∷ u) (b ∷ v) =
    elim (compared a b) [
      | less l ↦ inr (inr (before_higher b a v u l))
      | more l ↦ inr (inl (before_higher a b u v l))
      | same e ↦
          elim (before-total u v) [
            | inl p ↦ inl (cc)
            | inr p ↦ elim p [ inl q ↦ inr (inl (before_same a b u v e ∙ q)) | inr q ↦ inr (inr (before_same b a v u (sym e) ∙ q)) ]
          ]
    ]

-- ---- by length, then by the dictionary

pub shortlex_of_eq : (u v : List ℕ) → length u ≡ length v → shortlex u v ≡ before u v
unfolding shortlex
shortlex_of_eq u v e = rw (eq-eqb (length u) (length v) e)

pub shortlex_of_ne : (u v : List ℕ) → (length u ≡ length v → ⊥) → shortlex u v ≡ ltb (length u) (length v)
unfolding shortlex
shortlex_of_ne u v e = rw (ne_eqb (length u) (length v) e)

pub shortlex_shorter : (u v : List ℕ) → length u < length v → shortlex u v ≡ true
shortlex_shorter u v h = shortlex_of_ne u v (omega arith) ∙ lt-ltb (length u) (length v) h

pub shortlex-before : (u v : List ℕ) → length u ≡ length v → before u v ≡ true → shortlex u v ≡ true
shortlex-before u v e h = shortlex_of_eq u v e ∙ h

pub shortlex_cases : (u v : List ℕ) → shortlex u v ≡ true → (length u < length v) ⊎ ((length u ≡ length v) × (before u v ≡ true))
shortlex_cases u v h =
    elim (compared (length u) (length v)) [
      | less l ↦ inl l
      | same e ↦ inr (e, (sym (shortlex_of_eq u v e) ∙ h))
      | more l ↦ absurd (false≢true (sym (shortlex_of_ne u v (omega arith) ∙ le-ltb (length u) (length v) (omega arith)) ∙ h))
    ]

pub shortlex_irrefl : (u : List ℕ) → shortlex u u ≡ false
shortlex_irrefl u = shortlex_of_eq u u refl ∙ before_irrefl u

pub shortlex_trans : (u v w : List ℕ) → shortlex u v ≡ true → shortlex v w ≡ true → shortlex u w ≡ true
shortlex_trans u v w h g =
    elim (shortlex_cases u v h) [
      | inl p ↦
          elim (shortlex_cases v w g) [ inl q ↦ shortlex_shorter u w (omega arith) | inr q ↦ shortlex_shorter u w (omega (arith, q.0)) ]
      | inr p ↦
          elim (shortlex_cases v w g) [
            | inl q ↦ shortlex_shorter u w (omega (arith, p.0))
            | inr q ↦ shortlex-before u w (p.0 ∙ q.0) (before_trans u v w p.1 q.1)
          ]
    ]

pub shortlex-total : (u v : List ℕ) → (u ≡ v) ⊎ ((shortlex u v ≡ true) ⊎ (shortlex v u ≡ true))
shortlex-total u v =
    elim (compared (length u) (length v)) [
      | less l ↦ inr (inl (shortlex_shorter u v l))
      | more l ↦ inr (inr (shortlex_shorter v u l))
      | same e ↦
          elim (before-total u v) [
            | inl p ↦ inl p
            | inr p ↦ elim p [ inl q ↦ inr (inl (shortlex-before u v e q)) | inr q ↦ inr (inr (shortlex-before v u (sym e) q)) ]
          ]
    ]

-- of two different words exactly one comes first
pub shortlex_asymm : (u v : List ℕ) → shortlex u v ≡ true → shortlex v u ≡ false
shortlex_asymm u v h = shortlex_asymm_by_cases (shortlex v u) refl
  where
    shortlex_asymm_by_cases : (t : Bool) → shortlex v u ≡ t → shortlex v u ≡ false
    shortlex_asymm_by_cases true e = let z : true ≡ false = sym (shortlex_trans u v u h e) ∙ shortlex_irrefl u in cc
    shortlex_asymm_by_cases false e = e

-- ---- the test of two windows

same_entry_true : (x y : ℤ) → same_entry x y ≡ true → x ≡ y
unfolding same_entry
same_entry_true (pos a) (pos b) h = ap pos (eqb-true a b h)
same_entry_true (pos a) (negsuc b) h = let z : false ≡ true = h in cc
same_entry_true (negsuc a) (pos b) h = let z : false ≡ true = h in cc
same_entry_true (negsuc a) (negsuc b) h = ap negsuc (eqb-true a b h)

pub same_entry_refl : (x : ℤ) → same_entry x x ≡ true
unfolding same_entry
same_entry_refl (pos a) = eq-eqb a a refl
same_entry_refl (negsuc a) = eq-eqb a a refl

pub same_window_true : (u v : List ℤ) → same_window u v ≡ true → u ≡ v
unfolding same_window
same_window_true [] [] h = refl
same_window_true [] (y ∷ v) h = let z : false ≡ true = h in cc
same_window_true (x ∷ u) [] h = let z : false ≡ true = h in cc
same_window_true (x ∷ u) (y ∷ v) h =
    let b = (and-eq-true_iff (same_entry x y) (same_window u v)).0 h in
    let e = same_entry_true x y b.0 in
    let d = same_window_true u v b.1 in
    cc

same_window_refl : (u : List ℤ) → same_window u u ≡ true
unfolding same_window
same_window_refl [] = refl
same_window_refl (x ∷ u) = rw (same_entry_refl x) (same_window_refl u)

pub same_window_of_eq : (u v : List ℤ) → u ≡ v → same_window u v ≡ true
same_window_of_eq u v e = rw e (same_window_refl v)
