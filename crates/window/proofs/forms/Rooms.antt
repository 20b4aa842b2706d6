-- Check 14 of the calls that write normal forms, against the length that the sums give.
-- Assumes nothing.
use mathlib.Core.Path.{◌≡◌, refl, sym, ◌∙◌}
use mathlib.Core.Bool.{Bool, true, false}
use mathlib.Core.List.{List}
use Prim.Native.Nat.{ℕ, ◌≤◌}
use native.Mathlib.Omega.{arith}
use lib.Dec.{ltb}
use lib.IntN.{ℤ}
use lib.ListN.{length}
use borrow.Author.Tests.{ltb-true, ltb-false}
use Rattle.coxeter.specs.answers.Answer.{Length, Refused}
use Rattle.coxeter.proofs.Levels.{accepted_of_refusal}
use Rattle.coxeter.proofs.Outcomes.{writes_short, writes-written}
use Rattle.coxeter.proofs.Lengths.{length-normal_form}
use Rattle.coxeter.specs.declared.Kind.{Kind}
use Rattle.coxeter.specs.Length.{window_length}
use Rattle.coxeter.specs.Checks.{WindowOf}
use Rattle.coxeter.specs.NormalForm.{normal_form}
use Rattle.coxeter.specs.Calls.{Yields, front, writes}

-- t says whether there is too little room
module _ (k : Kind) (n : ℕ) (w : List ℤ) (out : List ℕ) {t : Bool} (g : WindowOf k n w) (e : t ≡ ltb (length out) (window_length k w)) where
  -- the sums are the normal form's length
  sums : length (normal_form k n w) ≡ window_length k w
  sums = length-normal_form k n w (accepted_of_refusal k n w g)

  pub checked_short : t ≡ true → Yields (writes 0 (normal_form k n w) out) (Refused 14) out
  checked_short y =
      writes_short _ 0 0 (normal_form k n w) out refl refl (window_length k w) refl sums (ltb-true (length out) (window_length k w) (sym e ∙ y))

  pub checked_room : t ≡ false → length (normal_form k n w) ≤ length out
  checked_room y = omega (arith, sums, ltb-false (length out) (window_length k w) (sym e ∙ y))

  pub checked_written : {r : ℕ} {v : List ℕ} → t ≡ false → r ≡ length (normal_form k n w) → v ≡ front (normal_form k n w) out
      → Yields (writes 0 (normal_form k n w) out) (Length r) v
  checked_written {r} {v} y a b = writes-written _ 0 0 (normal_form k n w) out refl refl r v refl (sym a) (omega (arith, a, checked_room y)) b
