-- The letters of a word that passes check 8.
-- Assumes nothing.
use mathlib.Core.Path.{◌≡◌}
use mathlib.Core.Bool.{false, ◌||◌}
use mathlib.Core.List.{List, [], ◌∷◌}
use Prim.Native.Nat.{ℕ, zero, suc, ◌+◌, ◌≤◌, ◌<◌}
use native.Mathlib.Omega.{arith}
use lib.Dec.{eqb, ltb}
use lib.ListN.{length, get_or, drop}
use borrow.Author.Tests.{eqb-false, ltb-false}
use Rattle.coxeter.proofs.Basics.{or_false_left, or_false_right}
use Rattle.coxeter.specs.Checks.{wrong_letter}
use Rattle.coxeter.proofs.Lists.{drop_next}

-- ---- letters

-- the first letter of a word that passes check 8, and the others
pub letter_within_cons : (n s : ℕ) (u : List ℕ) → wrong_letter n (s ∷ u) ≡ false → (1 ≤ s) × (s ≤ n) × (wrong_letter n u ≡ false)
unfolding wrong_letter
letter_within_cons n s u e =
    let a : (eqb s 0 || ltb n s) ≡ false = or_false_left (eqb s 0 || ltb n s) (wrong_letter n u) e in
    let z : s ≡ 0 → ⊥ = eqb-false s 0 (or_false_left (eqb s 0) (ltb n s) a) in
    (omega arith, ltb-false n s (or_false_right (eqb s 0) (ltb n s) a), or_false_right (eqb s 0 || ltb n s) (wrong_letter n u) e)

-- ---- the letters of a word

pub letter_within : (n : ℕ) (u : List ℕ) (i : ℕ) → i < length u → wrong_letter n (drop i u) ≡ false → (1 ≤ get_or u i 0) × (get_or u i 0 ≤ n)
letter_within n u i h e =
    let a = letter_within_cons n (get_or u i 0) (drop (i + 1) u) (rw (drop_next u i 0 h) at e) in
    (a.0, a.1)

pub wrong_letter_next : (n : ℕ) (u : List ℕ) (i : ℕ) → i < length u → wrong_letter n (drop i u) ≡ false → wrong_letter n (drop (i + 1) u) ≡ false
wrong_letter_next n u i h e = (letter_within_cons n (get_or u i 0) (drop (i + 1) u) (rw (drop_next u i 0 h) at e)).2

pub wrong_letter-drop : (n p : ℕ) (u : List ℕ) → wrong_letter n u ≡ false → wrong_letter n (drop p u) ≡ false
wrong_letter-drop n zero u w = w
wrong_letter-drop n (suc p) [] w = w
wrong_letter-drop n (suc p) (s ∷ u) w = wrong_letter-drop n p u (letter_within_cons n s u w).2

pub letter_at : (n : ℕ) (u : List ℕ) (i : ℕ) → i < length u → wrong_letter n u ≡ false → (1 ≤ get_or u i 0) × (get_or u i 0 ≤ n)
letter_at n u i h e = letter_within n u i h (wrong_letter-drop n i u e)
