-- The length of a window as one sum over its pairs, the way that code counts it: an entry x before an entry y
-- weighs 1 if it is the larger in size, and else 2 if it is negative. By cases on the two signs. And bounds of
-- these sums.
-- Assumes nothing.
use mathlib.Core.Path.{◌≡◌, refl, ◌∙◌}
use mathlib.Core.Bool.{Bool, true, false}
use mathlib.Core.List.{List, [], ◌∷◌, map}
use Prim.Native.Nat.{ℕ, zero, suc, ◌+◌, ◌*◌, ◌≤◌}
use native.Mathlib.Nat.{add_comm, mul-suc, suc-mul, mul-le-mul}
use native.Mathlib.Omega.{arith}
use borrow.Author.Tests.{ltb-true, ltb-false, eqb-false, lt-ltb, le-ltb}
use lib.Dec.{ltb}
use lib.IntN.{ℤ, pos, negsuc, neg_ℤ, nat_abs}
use lib.ListN.{length}
use Rattle.coxeter.specs.declared.Kind.{Kind}
use Rattle.coxeter.specs.declared.Kind.TheVariants.{A, B, D}
use Rattle.coxeter.specs.Kinds.{pick}
use Rattle.coxeter.specs.Length.{later, negative, one, later_than, inversions, negative_sum_pairs, negatives, crossings, total, window_length}
use Rattle.coxeter.specs.Checks.{has_size}
use Rattle.coxeter.proofs.Levels.{Between, Distinct, Accepted, has_size-below}
use Rattle.coxeter.proofs.Sizes.{has_size-tail, has_size-head}

-- ---- the sums

-- what an entry x before an entry y adds to the length
unfoldable pub weight : ℤ → ℤ → ℕ
weight x y = pick (ltb (nat_abs y) (nat_abs x)) 1 (pick (negative x) 2 0)

unfoldable pub weights : ℤ → List ℤ → ℕ
weights x [] = 0
weights x (y ∷ w) = weight x y + weights x w

unfoldable pub pair_weights : List ℤ → ℕ
pair_weights [] = 0
pair_weights (x ∷ w) = weights x w + pair_weights w

-- what the negative entries of a window add by themselves
unfoldable pub sign_weight : Kind → List ℤ → ℕ
sign_weight A w = 0
sign_weight B w = negatives w
sign_weight D w = 0

-- ---- one pair

one_add_zero : (t : Bool) → one t + 0 ≡ pick t 1 0
unfolding one
one_add_zero true = refl
one_add_zero false = refl

zero_add_one : (t : Bool) → 0 + one t ≡ pick t 1 0
unfolding one
zero_add_one true = refl
zero_add_one false = refl

-- two negative entries of different sizes
negative_pair : (a b : ℕ) (t : Bool) → ltb a b ≡ t → (suc b ≡ suc a → ⊥) → 1 + one t ≡ pick (ltb (suc b) (suc a)) 1 2
unfolding one
negative_pair a b true e d = rw (le-ltb (suc b) (suc a) (omega (arith, ltb-true a b e)))
negative_pair a b false e d = rw (lt-ltb (suc b) (suc a) (omega (arith, ltb-false a b e)))

-- an entry before another, and before its negative
one-later_add : (x y : ℤ) → 1 ≤ nat_abs y → (nat_abs y ≡ nat_abs x → ⊥) → one (later x y) + one (later x (neg_ℤ y)) ≡ weight x y
unfolding later weight negative one
one-later_add (pos a) (pos zero) h d = absurd (omega arith)
one-later_add (pos a) (pos (suc b)) h d = one_add_zero (ltb (suc b) a)
one-later_add (pos a) (negsuc b) h d = zero_add_one (ltb (suc b) a)
one-later_add (negsuc a) (pos zero) h d = absurd (omega arith)
one-later_add (negsuc a) (pos (suc b)) h d = negative_pair a b (ltb a b) refl d
one-later_add (negsuc a) (negsuc b) h d = add_comm (one (ltb a b)) 1 ∙ negative_pair a b (ltb a b) refl d

-- two entries that are not negative
one-later_pos : (x y : ℤ) → negative x ≡ false → negative y ≡ false → one (later x y) ≡ weight x y
unfolding later weight negative one
one-later_pos (pos a) (pos b) h g = refl
one-later_pos (pos a) (negsuc b) h g = let z : true ≡ false = g in cc
one-later_pos (negsuc a) y h g = let z : true ≡ false = h in cc

-- ---- all pairs

-- both sorts of pairs of an entry, where no other entry has its size and none is 0
pub later_than_add : (x : ℤ) (w : List ℤ) → has_size 0 w ≡ false → has_size (nat_abs x) w ≡ false
    → later_than x w + later_than x (map neg_ℤ w) ≡ weights x w
unfolding later_than weights
later_than_add x [] z h = refl
later_than_add x (y ∷ w) z h =
    let nonzero : nat_abs y ≡ 0 → ⊥ = eqb-false (nat_abs y) 0 (has_size-head 0 y w z) in
    let apart : nat_abs y ≡ nat_abs x → ⊥ = eqb-false (nat_abs y) (nat_abs x) (has_size-head (nat_abs x) y w h) in
    let first = one-later_add x y (omega arith) apart in
    let rest = later_than_add x w (has_size-tail 0 y w z) (has_size-tail (nat_abs x) y w h) in
    omega arith

-- both sorts of pairs together
pub inversions_add_negative_sum_pairs : (c : ℕ) (w : List ℤ) → Between 1 c w → Distinct w → inversions w + negative_sum_pairs w ≡ pair_weights w
unfolding inversions negative_sum_pairs pair_weights
inversions_add_negative_sum_pairs c [] b d = refl
inversions_add_negative_sum_pairs c (x ∷ w) b d =
    let first = later_than_add x w (has_size-below 1 c 0 w (omega arith) b.2) d.0 in
    let rest = inversions_add_negative_sum_pairs c w b.2 d.1 in
    omega arith

one-negative_zero : (x : ℤ) → one (negative x) ≡ 0 → negative x ≡ false
unfolding one negative
one-negative_zero (pos a) h = refl
one-negative_zero (negsuc a) h = absurd (omega arith)

later_than_pos : (x : ℤ) (w : List ℤ) → negative x ≡ false → negatives w ≡ 0 → later_than x w ≡ weights x w
unfolding later_than weights negatives
later_than_pos x [] h g = refl
later_than_pos x (y ∷ w) h g =
    let first = one-later_pos x y h (one-negative_zero y (omega arith)) in
    let rest = later_than_pos x w h (omega arith) in
    omega arith

-- without a negative entry the inversions are enough
inversions_of_negatives_zero : (w : List ℤ) → negatives w ≡ 0 → inversions w ≡ pair_weights w
unfolding inversions pair_weights negatives
inversions_of_negatives_zero [] h = refl
inversions_of_negatives_zero (x ∷ w) h =
    let first = later_than_pos x w (one-negative_zero x (omega arith)) (omega arith) in
    let rest = inversions_of_negatives_zero w (omega arith) in
    omega arith

-- and there is no negative sum pair
pub negative_sum_pairs_of_negatives_zero : (c : ℕ) (w : List ℤ) → Between 1 c w → Distinct w → negatives w ≡ 0 → negative_sum_pairs w ≡ 0
negative_sum_pairs_of_negatives_zero c w b d h =
    omega (arith, inversions_add_negative_sum_pairs c w b d, inversions_of_negatives_zero w h)

-- the length of a window by one sum over its pairs
pub length_by_weights : (k : Kind) (n : ℕ) (w : List ℤ) → Accepted k n w → window_length k w ≡ pair_weights w + sign_weight k w
unfolding window_length total crossings sign_weight
length_by_weights A n w h = omega (arith, inversions_of_negatives_zero w h.signs)
length_by_weights B n w h =
    let pairs = inversions_add_negative_sum_pairs (1 + length w) w h.level.between h.level.distinct in
    omega arith
length_by_weights D n w h =
    omega (arith, inversions_add_negative_sum_pairs (1 + length w) w h.level.between h.level.distinct)

-- ---- bounds

weight_le : (x y : ℤ) → weight x y ≤ 2
unfolding weight
weight_le x y = bound (ltb (nat_abs y) (nat_abs x)) (negative x)
  where
    bound : (s t : Bool) → pick s 1 (pick t 2 0) ≤ 2
    bound true t = omega arith
    bound false true = omega arith
    bound false false = omega arith

weights_le : (x : ℤ) (w : List ℤ) → weights x w ≤ 2 * length w
unfolding weights
weights_le x [] = omega arith
weights_le x (y ∷ w) = omega (arith, weight_le x y, weights_le x w)

pub one_le : (t : Bool) → one t ≤ 1
unfolding one
one_le true = omega arith
one_le false = omega arith

pub negatives_le : (w : List ℤ) → negatives w ≤ length w
unfolding negatives
negatives_le [] = omega arith
negatives_le (x ∷ w) = omega (arith, one_le (negative x), negatives_le w)

pub pair_weights_add_length_le : (w : List ℤ) → pair_weights w + length w ≤ length w * length w
unfolding pair_weights
pair_weights_add_length_le [] = omega arith
pair_weights_add_length_le (x ∷ w) =
    omega (arith, weights_le x w, pair_weights_add_length_le w, suc-mul (length w) (suc (length w)), mul-suc (length w) (length w))

pub pair_weights_le : (w : List ℤ) → pair_weights w ≤ length w * length w
pair_weights_le w = omega (arith, pair_weights_add_length_le w)

sign_weight_le : (k : Kind) (w : List ℤ) → sign_weight k w ≤ length w
unfolding sign_weight
sign_weight_le A w = omega arith
sign_weight_le B w = negatives_le w
sign_weight_le D w = omega arith

window_length_le_square : (k : Kind) (n : ℕ) (w : List ℤ) → Accepted k n w → window_length k w ≤ length w * length w
window_length_le_square k n w h = omega (arith, length_by_weights k n w h, pair_weights_add_length_le w, sign_weight_le k w)

-- a window of at most 64 entries: its length is below the bound of a word
pub window_length_le_4096 : (k : Kind) (n : ℕ) (w : List ℤ) → Accepted k n w → length w ≤ 64 → window_length k w ≤ 4096
window_length_le_4096 k n w h l = omega (arith, window_length_le_square k n w h, mul-le-mul {n₁ = length w} {m₁ = length w} {n₂ = 64} {m₂ = 64} l l)
