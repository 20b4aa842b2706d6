-- The greatest lengths of the kinds, n (n + 1) / 2 for A, n n for B and n (n − 1) for D: no window is longer, by
-- the bounds of the weights, and the blocks of the greatest indices are as long, level by level.
-- Assumes nothing.
use mathlib.Core.Path.{◌≡◌, refl, sym, ap, ◌∙◌}
use mathlib.Core.Bool.{Bool, true, false}
use mathlib.Core.List.{List, [], ◌∷◌, map}
use Prim.Native.Nat.{ℕ, zero, suc, ◌+◌, ◌-◌, ◌*◌, ◌/◌, ◌≤◌}
use native.Mathlib.Nat.{mul-suc, suc-mul, mul_comm, add-mul}
use native.Mathlib.Omega.{arith}
use borrow.Author.Tests.{le-ltb}
use lib.Dec.{ltb}
use lib.IntN.{ℤ, nat_abs}
use lib.ListN.{length, length-append}
use Rattle.coxeter.specs.declared.Kind.{Kind}
use Rattle.coxeter.specs.declared.Kind.TheVariants.{A, B, D}
use Rattle.coxeter.specs.Kinds.{pick, least, up}
use Rattle.coxeter.specs.Length.{negative, one, negatives, window_length, greatest_length}
use Rattle.coxeter.specs.NormalForm.{block, levels, last_index, blocks, Indices, none, level, normal_form}
use Rattle.coxeter.proofs.Levels.{Accepted}
use Rattle.coxeter.proofs.PairWeights.{weight, weights, pair_weights, sign_weight, length_by_weights, negatives_le, pair_weights_add_length_le}
use Rattle.coxeter.proofs.Lengths.{length-block, length-normal_form}

-- ---- no window is longer

weight_le_one : (x y : ℤ) → one (negative x) ≡ 0 → weight x y ≤ 1
unfolding weight one
weight_le_one x y h = bound (ltb (nat_abs y) (nat_abs x)) (negative x) h
  where
    bound : (s t : Bool) → one t ≡ 0 → pick s 1 (pick t 2 0) ≤ 1
    bound true t h = omega arith
    bound false true h = absurd (omega arith)
    bound false false h = omega arith

weights_le_length : (x : ℤ) (w : List ℤ) → one (negative x) ≡ 0 → weights x w ≤ length w
unfolding weights
weights_le_length x [] h = omega arith
weights_le_length x (y ∷ w) h = omega (arith, weight_le_one x y h, weights_le_length x w h)

-- without negative entries
twice_pair_weights_le : (w : List ℤ) → negatives w ≡ 0 → 2 * pair_weights w + length w ≤ length w * length w
unfolding pair_weights negatives
twice_pair_weights_le [] h = omega arith
twice_pair_weights_le (x ∷ w) h =
    omega (arith, weights_le_length x w (omega arith), twice_pair_weights_le w (omega arith), suc-mul (length w) (suc (length w)), mul-suc (length w) (length w))

mul_pred_add : (n : ℕ) → n * (n - 1) + n ≡ n * n
mul_pred_add zero = refl
mul_pred_add (suc n) = let e : suc n - 1 ≡ n = omega arith in rw e (sym (mul-suc (suc n) n))

half_le : (l n m : ℕ) → m ≡ n + 1 → 2 * l + m ≤ m * m → l ≤ n * (n + 1) / 2
half_le l n m e h = omega (arith, rw e at h, add-mul n 1 (n + 1))

pub window_length_le : (k : Kind) (n : ℕ) (w : List ℤ) → Accepted k n w → window_length k w ≤ greatest_length k n
unfolding sign_weight
window_length_le A n w h =
    half_le (window_length A w) n (length w) h.size (omega (arith, length_by_weights A n w h, twice_pair_weights_le w h.signs))
window_length_le B n w h =
    omega (arith, length_by_weights B n w h, rw h.size at (pair_weights_add_length_le w), negatives_le w, h.size)
window_length_le D n w h =
    omega (arith, length_by_weights D n w h, rw h.size at (pair_weights_add_length_le w), mul_pred_add n)

-- ---- the blocks of the greatest indices

unfoldable pub greatest_indices : Kind → ℕ → List ℕ
greatest_indices k n = map (last_index k n) (up 1 (levels k n))

le_last_index : (k : Kind) (n i : ℕ) → i ≤ levels k n → i ≤ suc (last_index k n i)
le_last_index A n i h = omega arith
le_last_index B n i h = omega arith
le_last_index D n i h = omega arith

indices-up : (k : Kind) (n t i : ℕ) → t + i ≡ suc (levels k n) → Indices k n i (map (last_index k n) (up i t))
unfolding up
indices-up k n zero i h = none {i = i} (omega arith)
indices-up k n (suc t) i h =
    level {i = i} {j = last_index k n i} (omega arith) (le_last_index k n i (omega arith)) (omega arith) (indices-up k n t (suc i) (omega arith))

pub indices-greatest : (k : Kind) (n : ℕ) → Indices k n 1 (greatest_indices k n)
unfolding greatest_indices
indices-greatest k n = indices-up k n (levels k n) 1 (omega arith)

-- l is the sum of the greatest block lengths of the last t levels
abbrev Stairs : Kind → ℕ → ℕ → Type 0
Stairs A t l = 2 * l ≡ t * suc t
Stairs B t l = l ≡ t * t
Stairs D t l = l ≡ t * suc t

stairs_zero : (k : Kind) → Stairs k 0 0
stairs_zero A = refl
stairs_zero B = refl
stairs_zero D = refl

stairs_suc : (k : Kind) (n t i l : ℕ) → 1 ≤ i → suc t + i ≡ suc (levels k n) → Stairs k t l → Stairs k (suc t) (l + length (block k n i (last_index k n i)))
stairs_suc A n t i l o h s =
    let b : length (block A n i n) ≡ suc t = length-block A n i n o (omega arith) (omega arith) ∙ omega arith in
    omega (arith, suc-mul t (suc (suc t)), mul-suc t (suc t))
stairs_suc B n t i l o h s =
    let b : length (block B n i (2 * n - i)) ≡ 2 * t + 1 = length-block B n i (2 * n - i) o (omega arith) (omega arith) ∙ omega arith in
    omega (arith, suc-mul t (suc t), mul-suc t t)
stairs_suc D n t i l o h s =
    let b : length (block D n i (2 * n - i)) ≡ 2 * t + 2 =
    length-block D n i (2 * n - i) o (omega arith) (omega arith) ∙ rw (le-ltb (2 * n - i) n (omega arith)) (omega arith) in
    omega (arith, suc-mul t (suc (suc t)), mul-suc t (suc t))

stairs_blocks : (k : Kind) (n t i : ℕ) → 1 ≤ i → t + i ≡ suc (levels k n) → Stairs k t (length (blocks k n i (map (last_index k n) (up i t))))
unfolding blocks up
stairs_blocks k n zero i o h = stairs_zero k
stairs_blocks k n (suc t) i o h = rw length-append (stairs_suc k n t i _ o h (stairs_blocks k n t (suc i) (omega arith) (omega arith)))

half_eq : (l n : ℕ) → 2 * l ≡ n * suc n → l ≡ n * (n + 1) / 2
half_eq l n h = let e : n + 1 ≡ suc n = omega arith in rw e (omega arith)

pub length-blocks-greatest : (k : Kind) (n : ℕ) → least k ≤ n → length (blocks k n 1 (greatest_indices k n)) ≡ greatest_length k n
unfolding greatest_indices
length-blocks-greatest A n r = half_eq (length (blocks A n 1 (map (last_index A n) (up 1 n)))) n (stairs_blocks A n n 1 (omega arith) (omega arith))
length-blocks-greatest B n r = stairs_blocks B n n 1 (omega arith) (omega arith)
length-blocks-greatest D n r =
    let e : suc (n - 1) ≡ n = omega arith in
    stairs_blocks D n (n - 1) 1 (omega arith) (omega arith) ∙ rw (e, mul_comm (n - 1) n)

-- a window with these blocks has the greatest length
pub window_length_of_greatest : (k : Kind) (n : ℕ) (w : List ℤ) → least k ≤ n → Accepted k n w → normal_form k n w ≡ blocks k n 1 (greatest_indices k n)
    → window_length k w ≡ greatest_length k n
window_length_of_greatest k n w r h e = sym (length-normal_form k n w h) ∙ ap length e ∙ length-blocks-greatest k n r
