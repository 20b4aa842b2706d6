-- The entries of a table sum to (n + 1)! for A, 2 to the n times n! for B and half of that for D, since every
-- window has a length up to the greatest and each level of indices multiplies their number by that of its blocks.
-- So at the ranks that have a table each entry fits 64 bits.
-- Sections: how many lists of indices; the sum of the entries; 64 bits.
-- Assumes nothing.
use mathlib.Core.Path.{◌≡◌, refl, sym, ap, ap₂, ◌∙◌}
use mathlib.Core.List.{List}
use Prim.Native.Nat.{ℕ, zero, suc, ◌+◌, ◌-◌, ◌*◌, ◌^◌, ◌≤◌, ◌<◌}
use native.Mathlib.Omega.{arith}
use native.Mathlib.Decide.{le_ind}
use native.Mathlib.Nat.{le_refl, le_trans, lt_of_le_of_lt, le_of_eq, mul_assoc, mul_right_comm, mul_left_comm, mul-le-mul, mul-div_cancel, pow-suc, suc-mul}
use native.Mathlib.Numerals.{add-one}
use lib.Dec.{lit<}
use lib.ListN.{length, length-append, length-map}
use Rattle.coxeter.specs.declared.Kind.{Kind}
use Rattle.coxeter.specs.declared.Kind.TheVariants.{A, B, D}
use Rattle.coxeter.specs.Kinds.{lanes, least, up}
use Rattle.coxeter.specs.Length.{greatest_length}
use Rattle.coxeter.specs.NormalForm.{levels}
use Rattle.coxeter.proofs.Basics.{length_up}
use Rattle.coxeter.proofs.Lengths.{block_length}
use Rattle.coxeter.proofs.Levels.{window_accepted}
use Rattle.coxeter.proofs.GreatestLengths.{window_length_le}
use Rattle.coxeter.proofs.FormLaws.{block_lengths}
use Rattle.distribution.specs.AllWindows.{In}
use Rattle.distribution.specs.Distribution.{of_length, distribution, sum, factorial, order}
use Rattle.distribution.specs.Calls.{greatest_tabled}
use Rattle.distribution.proofs.Members.{length-cons_all}
use Rattle.distribution.proofs.Sums.{below, sum_below, below_same, le_below, below-times_of, below-times_of_le}
use Rattle.distribution.proofs.IndexLists.{level_indices, index_lists, count_indices, shown, of_all, window_length_shown, of_length-indices}
use Rattle.distribution.proofs.Factors.{lengths_of, level_lengths}

-- ---- how many lists of indices

-- the lists of indices of t levels
abbrev pub order_of : Kind → ℕ → ℕ
order_of A t = factorial (suc t)
order_of B t = 2 ^ t * factorial t
order_of D t = 2 ^ t * factorial (suc t)

order_of_zero : (k : Kind) → order_of k 0 ≡ 1
unfolding factorial
order_of_zero A = refl
order_of_zero B = refl
order_of_zero D = refl

-- twice as many signs, and a number m of places
signs_places : (p m f : ℕ) → p * 2 * (m * f) ≡ 2 * m * (p * f)
signs_places p m f =
    mul_assoc p 2 (m * f) ∙ mul_left_comm p 2 (m * f) ∙ ap (λ (x : ℕ). 2 * x) (mul_left_comm p m f) ∙ sym (mul_assoc 2 m (p * f))

-- one level more, with c greater sizes
order_of-suc : (k : Kind) (n t i c : ℕ) → 1 ≤ i → i ≤ levels k n → suc t + i ≡ suc (levels k n) → i + c ≡ lanes k n
    → order_of k (suc t) ≡ length (lengths_of k c) * order_of k t
unfolding factorial
order_of-suc A n t i c o h e q = ap (λ (x : ℕ). x * factorial (suc t)) (omega (arith, length_up 0 (suc c)))
order_of-suc B n t i c o h e q =
    let l : length (up 0 (suc (2 * c + 1))) ≡ 2 * suc t = length_up 0 (suc (2 * c + 1)) ∙ omega arith in
    rw (l, pow-suc 2 t) (signs_places (2 ^ t) (suc t) (factorial t))
order_of-suc D n t i c o h e q =
    let l : length (lengths_of D c) ≡ 2 * suc (suc t) =
    length-append (up 0 (suc c)) (up c (suc c)) ∙ omega (arith, length_up 0 (suc c), length_up c (suc c)) in
    rw (l, pow-suc 2 t) (signs_places (2 ^ t) (suc (suc t)) (factorial (suc t)))

le_lanes : (k : Kind) (n i : ℕ) → i ≤ levels k n → i + (lanes k n - i) ≡ lanes k n
le_lanes A n i h = omega arith
le_lanes B n i h = omega arith
le_lanes D n i h = omega arith

length-index_lists : (k : Kind) (n t i : ℕ) → 1 ≤ i → t + i ≡ suc (levels k n) → length (index_lists k n t i) ≡ order_of k t
unfolding index_lists
length-index_lists k n zero i o e = sym (order_of_zero k)
length-index_lists k n (suc t) i o e =
    let h : i ≤ levels k n = omega arith in
    let c : ℕ = lanes k n - i in
    let q : i + c ≡ lanes k n = le_lanes k n i h in
    length-cons_all (level_indices k n i) (index_lists k n t (suc i))
    ∙ ap₂ (λ (x y : ℕ). x * y)
    (sym (length-map (level_indices k n i) (block_length k n i)) ∙ ap length (level_lengths k n i c o h q))
    (length-index_lists k n t (suc i) (omega arith) (omega arith))
    ∙ sym (order_of-suc k n t i c o h e q)

-- ---- the sum of the entries

block_lengths_le : (k : Kind) (n : ℕ) (js : List ℕ) → In js (index_lists k n (levels k n) 1) → block_lengths k n 1 js < greatest_length k n + 1
block_lengths_le k n js m =
    omega (arith, window_length_shown k n js (of_all k n js m), window_length_le k n (shown k n js) (window_accepted k n _))

order-order_of : (k : Kind) (n : ℕ) → least k ≤ n → order_of k (levels k n) ≡ order k n
order-order_of A n h = ap factorial (sym (add-one n))
order-order_of B n h = refl
order-order_of D zero h = absurd (omega arith)
order-order_of D (suc m) h =
    let e : suc m - 1 ≡ m = omega arith in
    rw (e, pow-suc 2 m, mul_right_comm (2 ^ m) 2 (factorial (suc m))) (sym (mul-div_cancel (2 ^ m * factorial (suc m)) {n = 2} (omega arith)))

-- Y3
pub sum-distribution : (k : Kind) (n : ℕ) → least k ≤ n → sum (distribution k n) ≡ order k n
unfolding distribution
sum-distribution k n h =
    sum_below (of_length k n) (greatest_length k n + 1)
    ∙ below_same (of_length k n) (count_indices k n (levels k n) 1) (greatest_length k n + 1) (λ l o. of_length-indices k n l)
    ∙ below-times_of (block_lengths k n 1) (index_lists k n (levels k n) 1) (greatest_length k n + 1) (block_lengths_le k n)
    ∙ length-index_lists k n (levels k n) 1 (omega arith) (omega arith)
    ∙ order-order_of k n h

-- ---- 64 bits

factorial_le : (t : ℕ) → factorial t ≤ factorial (suc t)
unfolding factorial
factorial_le t = omega (arith, suc-mul t (factorial t))

order_of_le_suc : (k : Kind) (t : ℕ) → order_of k t ≤ order_of k (suc t)
order_of_le_suc A t = factorial_le (suc t)
order_of_le_suc B t = mul-le-mul (rw (pow-suc 2 t) (omega arith)) (factorial_le t)
order_of_le_suc D t = mul-le-mul (rw (pow-suc 2 t) (omega arith)) (factorial_le (suc t))

order_of_le : (k : Kind) (t m : ℕ) → t ≤ m → order_of k t ≤ order_of k m
order_of_le k t m h = le_ind (λ (x : ℕ). order_of k t ≤ order_of k x) (le_refl (order_of k t)) (λ x g p. le_trans p (order_of_le_suc k x)) m h

greatest-fits : (k : Kind) → order_of k (levels k (greatest_tabled k)) < 2 ^ 64
unfolding factorial
greatest-fits A = lit< tt
greatest-fits B = lit< tt
greatest-fits D = lit< tt

levels_le : (k : Kind) (n m : ℕ) → n ≤ m → levels k n ≤ levels k m
levels_le A n m h = h
levels_le B n m h = h
levels_le D n m h = omega arith

-- as many lists of indices as fit 64 bits, of all levels and of fewer
order_of-fits : (k : Kind) (n t : ℕ) → n ≤ greatest_tabled k → t ≤ levels k n → order_of k t < 2 ^ 64
order_of-fits k n t h g =
    lt_of_le_of_lt (order_of_le k t (levels k (greatest_tabled k)) (le_trans g (levels_le k n (greatest_tabled k) h))) (greatest-fits k)

-- sums of numbers of lists of indices
pub below-count_indices-fits : (k : Kind) (n t i m : ℕ) → n ≤ greatest_tabled k → 1 ≤ i → t + i ≡ suc (levels k n)
    → below (count_indices k n t i) m < 2 ^ 64
below-count_indices-fits k n t i m h o e =
    lt_of_le_of_lt (le_trans (below-times_of_le (block_lengths k n i) (index_lists k n t i) m) (le_of_eq (length-index_lists k n t i o e)))
    (order_of-fits k n t h (omega arith))

-- each entry fits
pub of_length-fits : (k : Kind) (n l : ℕ) → n ≤ greatest_tabled k → of_length k n l < 2 ^ 64
of_length-fits k n l h =
    rw (of_length-indices k n l)
    (lt_of_le_of_lt (le_below (count_indices k n (levels k n) 1) (suc l) l (omega arith))
    (below-count_indices-fits k n (levels k n) 1 (suc l) h (omega arith) (omega arith)))
