-- The numbers of windows by their lengths are the product of one factor a level, the same for every rank with as
-- many levels. Where such a product ends, and that its entries and their sums fit 64 bits at the ranks that have a
-- table.
-- Sections: the product; where it ends; 64 bits.
-- Assumes nothing.
use mathlib.Core.Path.{◌≡◌, refl, sym, ap₂, ◌∙◌}
use mathlib.Core.List.{[], ◌∷◌}
use Prim.Native.Nat.{ℕ, zero, suc, ◌+◌, ◌-◌, ◌*◌, ◌^◌, ◌≤◌, ◌<◌}
use native.Mathlib.Omega.{arith}
use native.Mathlib.Decide.{le_ind}
use native.Mathlib.Nat.{le_refl, lt_of_le_of_lt, add-zero}
use borrow.Author.Tests.{le-ltb, ne_eqb}
use lib.Dec.{eqb}
use Rattle.coxeter.specs.declared.Kind.{Kind}
use Rattle.coxeter.specs.declared.Kind.TheVariants.{A, B, D}
use Rattle.coxeter.specs.Kinds.{lanes, least, up}
use Rattle.coxeter.specs.Length.{one, greatest_length}
use Rattle.coxeter.specs.NormalForm.{levels, last_index}
use Rattle.coxeter.proofs.Lengths.{block_length}
use Rattle.coxeter.proofs.GreatestLengths.{greatest_indices}
use Rattle.coxeter.proofs.FormLaws.{block_lengths}
use Rattle.distribution.specs.AllWindows.{keep}
use Rattle.distribution.specs.Distribution.{of_length}
use Rattle.distribution.specs.Calls.{greatest_tabled}
use Rattle.distribution.proofs.Sums.{below, below_same, le_below, times_of, times_of_cons}
use Rattle.distribution.proofs.IndexLists.{index_lists, count_indices, of_length-indices}
use Rattle.distribution.proofs.Factors.{shifted_le, running, running_zero, running-suc, factor, count_level, factor_same}
use Rattle.distribution.proofs.Orders.{below-count_indices-fits}
use Rattle.distribution.proofs.BothEnds.{last_indices, block_lengths-greatest}

-- ---- the product

-- how many greater sizes the last level has; each level before it has one more
abbrev pub fewest : Kind → ℕ
fewest A = 1
fewest B = 0
fewest D = 1

-- the product of the factors of the last t levels
unfoldable pub product : Kind → ℕ → ℕ → ℕ
product k zero l = one (eqb 0 l)
product k (suc t) l = factor k (t + fewest k) (product k t) l

fewest-lanes : (k : Kind) (n t i : ℕ) → 1 ≤ i → suc t + i ≡ suc (levels k n) → i + (t + fewest k) ≡ lanes k n
fewest-lanes A n t i o e = omega arith
fewest-lanes B n t i o e = omega arith
fewest-lanes D n t i o e = omega arith

pub lanes-levels : (k : Kind) (n : ℕ) → least k ≤ n → lanes k n ≡ levels k n + fewest k
lanes-levels A n h = refl
lanes-levels B n h = omega arith
lanes-levels D n h = omega arith

count-product : (k : Kind) (n t i l : ℕ) → 1 ≤ i → t + i ≡ suc (levels k n) → count_indices k n t i l ≡ product k t l
unfolding product
count-product k n zero i l o e = unfold index_lists block_lengths in none
  where
    none : times_of (block_lengths k n i) ([] ∷ []) l ≡ one (eqb 0 l)
    none = times_of_cons (block_lengths k n i) [] [] l ∙ unfold times_of keep block_lengths in add-zero (one (eqb 0 l))
count-product k n (suc t) i l o e =
    count_level k n t i (t + fewest k) l o (omega arith) (fewest-lanes k n t i o e)
    ∙ factor_same k (t + fewest k) (count_indices k n t (suc i)) (product k t) l (λ j h. count-product k n t (suc i) j (omega arith) (omega arith))

-- the numbers of windows by their lengths are the product of the factors of all levels
pub of_length-product : (k : Kind) (n l : ℕ) → of_length k n l ≡ product k (levels k n) l
of_length-product k n l = of_length-indices k n l ∙ count-product k n (levels k n) 1 l (omega arith) (omega arith)

-- ---- where it ends

-- the greatest length of a block with c greater sizes
abbrev pub top : Kind → ℕ → ℕ
top A c = c
top B c = 2 * c + 1
top D c = 2 * c

-- the greatest length of t levels together
unfoldable pub degree : Kind → ℕ → ℕ
degree k zero = 0
degree k (suc t) = degree k t + top k (t + fewest k)

running_beyond : (c : ℕ) (f : ℕ → ℕ) (d l : ℕ) → ((i : ℕ) → d < i → f i ≡ 0) → d + c < l → running c f l ≡ 0
running_beyond zero f d l h g = running_zero f l ∙ h l (omega arith)
running_beyond (suc c) f d l h g =
    omega (arith, running-suc c f l, running_beyond c f d l h (omega arith), shifted_le (suc c) f l (omega arith), h (l - suc c) (omega arith))

factor_beyond : (k : Kind) (c : ℕ) (f : ℕ → ℕ) (d l : ℕ) → ((i : ℕ) → d < i → f i ≡ 0) → d + top k c < l → factor k c f l ≡ 0
factor_beyond A c f d l h g = running_beyond c f d l h g
factor_beyond B c f d l h g = running_beyond (2 * c + 1) f d l h g
factor_beyond D c f d l h g =
    let first = running_beyond c f d l h (omega arith) in
    let last = shifted_le c (running c f) l (omega arith) ∙ running_beyond c f d (l - c) h (omega arith) in
    omega arith

pub product_beyond : (k : Kind) (t l : ℕ) → degree k t < l → product k t l ≡ 0
unfolding product degree one
product_beyond k zero l h = rw (ne_eqb 0 l (λ e. omega arith))
product_beyond k (suc t) l h = factor_beyond k (t + fewest k) (product k t) (degree k t) l (product_beyond k t) h

pub degree_le : (k : Kind) (t m : ℕ) → t ≤ m → degree k t ≤ degree k m
unfolding degree
degree_le k t m h = le_ind (λ (x : ℕ). degree k t ≤ degree k x) (le_refl (degree k t)) (λ x g p. omega arith) m h

block_length-top : (k : Kind) (n i c : ℕ) → 1 ≤ i → i ≤ levels k n → i + c ≡ lanes k n → block_length k n i (last_index k n i) ≡ top k c
block_length-top A n i c o h e = omega arith
block_length-top B n i c o h e = omega arith
block_length-top D n i c o h e = rw (le-ltb (2 * n - i) n (omega arith)) (omega arith)

degree-blocks : (k : Kind) (n t i : ℕ) → 1 ≤ i → t + i ≡ suc (levels k n) → block_lengths k n i (last_indices k n i t) ≡ degree k t
unfolding block_lengths degree up
degree-blocks k n zero i o e = refl
degree-blocks k n (suc t) i o e =
    ap₂ (λ (x y : ℕ). x + y) (degree-blocks k n t (suc i) (omega arith) (omega arith))
    (block_length-top k n i (t + fewest k) o (omega arith) (fewest-lanes k n t i o e))

pub degree-greatest : (k : Kind) (n : ℕ) → least k ≤ n → degree k (levels k n) ≡ greatest_length k n
unfolding greatest_indices
degree-greatest k n h = sym (degree-blocks k n (levels k n) 1 (omega arith) (omega arith)) ∙ block_lengths-greatest k n h

-- ---- 64 bits

pub below-product-fits : (k : Kind) (n t m : ℕ) → n ≤ greatest_tabled k → t ≤ levels k n → below (product k t) m < 2 ^ 64
below-product-fits k n t m h g =
    let i : ℕ = suc (levels k n) - t in
    rw (below_same (product k t) (count_indices k n t i) m (λ l o. sym (count-product k n t i l (omega arith) (omega arith))))
    (below-count_indices-fits k n t i m h (omega arith) (omega arith))

pub product-fits : (k : Kind) (n t l : ℕ) → n ≤ greatest_tabled k → t ≤ levels k n → product k t l < 2 ^ 64
product-fits k n t l h g = lt_of_le_of_lt (le_below (product k t) (suc l) l (omega arith)) (below-product-fits k n t (suc l) h g)
