-- One turn of each loop of `counting`: what is read, that it fits 64 bits, and what is then filled.
-- Sections: sums from the start; 1, 0, 0, ...
-- Assumes nothing.
use mathlib.Core.Path.{◌≡◌, sym, ap, ◌∙◌}
use mathlib.Core.List.{List}
use Prim.Native.Nat.{ℕ, ◌+◌, ◌^◌, ◌≤◌, ◌<◌}
use native.Mathlib.Omega.{arith}
use native.Mathlib.Decide.{ℕ_discrete}
use native.Mathlib.Numerals.{add-one}
use borrow.Author.Tests.{ne_eqb}
use lib.ListN.{get_or, set, length-set, replicate, length-replicate, get_or-replicate}
use lib.Seq.{get_or-set_same, get_or-set_other}
use Rattle.coxeter.specs.declared.Kind.{Kind}
use Rattle.coxeter.specs.Length.{one}
use Rattle.distribution.proofs.Sums.{below, below_le}
use Rattle.distribution.proofs.Factors.{sum_to}
use Rattle.distribution.proofs.Products.{product}
use Rattle.distribution.proofs.Values.{values, values_eq}
use Rattle.delay.proofs.counting.Filling.{Filled, filled_next}

-- ---- sums from the start

module _ {f : ℕ → ℕ} {m : ℕ} {w : List ℕ} {l sum : ℕ} (h : Filled l (sum_to f) f m w) (s : sum ≡ below f l) (o : l < m) where
  pub sum_next : sum + get_or w l 0 ≡ below f (l + 1)
  unfolding below
  sum_next = rw (add-one l) (omega (arith, h.rest l o (omega arith)))

  pub sum_fits : below f m < 2 ^ 64 → sum + get_or w l 0 < 2 ^ 64
  sum_fits b = omega (arith, sum_next, below_le f (l + 1) m (omega arith))

  pub sum_filled : Filled (l + 1) (sum_to f) f m (set w l (sum + get_or w l 0))
  sum_filled = filled_next h o (sum_next ∙ ap (below f) (add-one l))

-- ---- 1, 0, 0, ..

pub one_start : (k : Kind) (m : ℕ) → 1 ≤ m → set (replicate m 0) 0 1 ≡ values (product k 0) m
unfolding product one
one_start k m o =
    let zeros = replicate m 0 in
    let size = length-replicate m 0 in
    values_eq (set zeros 0 1) (product k 0) m (length-set zeros 0 1 ∙ size)
    (λ i p. elim (ℕ_discrete i 0) [
      | yes e ↦ rw e (get_or-set_same zeros 0 1 0 (omega (arith, size)))
      | no f ↦ get_or-set_other zeros 0 i 1 0 f ∙ get_or-replicate m i 0 0 p ∙ rw (ne_eqb 0 i (λ e. f (sym e)))
    ])
