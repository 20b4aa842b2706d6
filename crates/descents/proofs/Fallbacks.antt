-- What a word of a group shows fits its work array, and so does its normal form, which is a word of the group.
-- Assumes nothing.
use mathlib.Core.List.{List}
use Prim.Native.Nat.{ℕ, ◌≤◌}
use lib.ListN.{length}
use Rattle.coxeter.specs.declared.Kind.{Kind}
use Rattle.coxeter.specs.Windows.{window}
use Rattle.coxeter.specs.Checks.{WordOf}
use Rattle.coxeter.specs.NormalForm.{word_normal_form}
use Rattle.coxeter.proofs.Fronts.{length-window_le, length_form_le}
use Rattle.coxeter.proofs.Groups.{InRange, by_number}
use Rattle.coxeter.proofs.Theorems.{window_passes, normal_form-fits}

module _ (u : List ℕ) (k : Kind) (n : ℕ) (h : InRange k n) where
  pub window_small : length (window k n u) ≤ 64
  window_small = by_number (λ k n. length (window k n u) ≤ 64) (λ j n r. length-window_le j n u r) k n h

  pub form_small : length (word_normal_form k n u) ≤ 4096
  form_small = by_number (λ k n. length (word_normal_form k n u) ≤ 4096) (λ j n r. length_form_le j n u r) k n h

  pub form_accepted : WordOf n (word_normal_form k n u)
  form_accepted =
      by_number (λ k n. WordOf n (word_normal_form k n u)) (λ j n r. normal_form-fits j n _ r (window_passes _ n u)) k n h
