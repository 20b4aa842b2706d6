-- Squares, as room for every normal form of a rank.
-- Assumes nothing.
use mathlib.Core.Path.{◌≡◌, sym}
use mathlib.Core.Bool.{false}
use mathlib.Core.List.{List}
use Prim.Native.Nat.{ℕ, zero, suc, ◌*◌, ◌≤◌}
use native.Mathlib.Nat.{le_refl, suc-mul, mul-add, mul-le-mul, mul-le-mul_left}
use native.Mathlib.Omega.{arith}
use lib.Dec.{ltb}
use lib.IntN.{ℤ}
use lib.ListN.{length}
use borrow.Author.Tests.{le-ltb}
use Rattle.coxeter.specs.declared.Kind.{Kind}
use Rattle.coxeter.specs.declared.Kind.TheVariants.{A, B, D}
use Rattle.coxeter.specs.Length.{window_length, greatest_length}
use Rattle.coxeter.specs.Checks.{WindowOf}
use Rattle.coxeter.specs.NormalForm.{normal_form}
use Rattle.coxeter.proofs.Levels.{Accepted, accepted_of_refusal}
use Rattle.coxeter.proofs.Lengths.{length-normal_form}
use Rattle.coxeter.proofs.GreatestLengths.{window_length_le}

pub square_le : (n : ℕ) → n ≤ n * n
square_le zero = omega arith
square_le (suc n) = omega (arith, suc-mul n (suc n))

pub square_le_4096 : (n : ℕ) → n ≤ 64 → n * n ≤ 4096
square_le_4096 n h = mul-le-mul {n₁ = n} {m₁ = n} {n₂ = 64} {m₂ = 64} h h

greatest_le : (k : Kind) (n : ℕ) → greatest_length k n ≤ n * n
greatest_le A n = omega (arith, square_le n, mul-add n n 1)
greatest_le B n = le_refl (n * n)
greatest_le D n = mul-le-mul_left n (omega arith)

-- no normal form has more than n × n letters
pub form_le_square : (k : Kind) (n : ℕ) (w : List ℤ) → Accepted k n w → length (normal_form k n w) ≤ n * n
form_le_square k n w a = omega (arith, length-normal_form k n w a, window_length_le k n w a, greatest_le k n)

-- check 14: n × n letters are room for every normal form
pub square_room : (k : Kind) (n room : ℕ) (w : List ℤ) → WindowOf k n w → n * n ≤ room → false ≡ ltb room (window_length k w)
square_room k n room w g s =
    sym (le-ltb room (window_length k w) (omega (arith, s, greatest_le k n, window_length_le k n w (accepted_of_refusal k n w g))))
