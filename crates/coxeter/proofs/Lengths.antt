-- The length of a window is the length of its normal form, one level at a time: taking out the entry of the least
-- size lowers the sum of the weights by the length of its block.
-- Sections: blocks; taking out an entry; one level; all levels.
-- Assumes nothing.
use mathlib.Core.Path.{◌≡◌, refl, sym, ap, ◌∙◌}
use mathlib.Core.Bool.{Bool, true, false}
use mathlib.Core.List.{List, [], ◌∷◌, ◌++◌}
use Prim.Native.Nat.{ℕ, zero, suc, ◌+◌, ◌-◌, ◌*◌, ◌≤◌, ◌<◌}
use native.Mathlib.Nat.{mul-suc, mul-zero}
use native.Mathlib.Omega.{arith}
use borrow.Author.Tests.{ltb-false, leb-false, lt-ltb, le-ltb}
use lib.Dec.{leb, ltb}
use lib.IntN.{ℤ, pos, negsuc, nat_abs}
use lib.ListN.{length, length-append}
use Rattle.coxeter.specs.declared.Kind.{Kind}
use Rattle.coxeter.specs.declared.Kind.TheVariants.{A, B, D}
use Rattle.coxeter.specs.Kinds.{pick, lanes}
use Rattle.coxeter.specs.Windows.{from, negate_first, signed}
use Rattle.coxeter.specs.Length.{negative, one, negatives, window_length}
use Rattle.coxeter.specs.Checks.{has_size, negative_in_A}
use Rattle.coxeter.specs.NormalForm.{rise, fall, block, levels, last_index, index_of, rest_of, normal_from, normal_form}
use Rattle.coxeter.proofs.Sizes.{nat_abs-neg_ℤ}
use Rattle.coxeter.proofs.Levels.{Between, Accepted}
use Rattle.coxeter.proofs.LetterRuns.{length-span, length-slide, rise-span, fall-slide}
use Rattle.coxeter.proofs.Peeling.{place_from_peeled, index_of_positive, index_of-negative, rest_of_peeled, rest_of-rest_of, between-rest_of}
use Rattle.coxeter.proofs.Peeling.{AtLevel, at_level_of_accepted, peeled, at_level_rest, at_level_negative_in_A, negatives_middle}
use Rattle.coxeter.proofs.PairWeights.{weight, weights, pair_weights, sign_weight, length_by_weights}

-- ---- blocks

-- how many steps a block has
abbrev pub block_length : Kind → ℕ → ℕ → ℕ → ℕ
block_length A n i j = suc j - i
block_length B n i j = suc j - i
block_length D n i j = pick (ltb j n) (suc j - i) (j - i)

length-rise : (i j : ℕ) → length (rise i j) ≡ suc j - i
length-rise i j = ap length (rise-span i j) ∙ length-span i (suc j)

length-fall : (i j : ℕ) → length (fall i j) ≡ suc i - j
length-fall i j = ap length (fall-slide i j) ∙ length-slide (suc i) j

-- D's two ways, to the turn and behind it
way_up : (n i : ℕ) → 2 ≤ n → suc (n - 2) - i ≡ n - suc i
way_up n i h = omega arith

way_down : (n j : ℕ) → 1 ≤ n → n ≤ j → j ≤ 2 * n → suc (n - 1) - (2 * n - j) ≡ j - n
way_down n j h g l = omega arith

both_ways : (n i j : ℕ) → i < n → n ≤ j → n - suc i + suc (j - n) ≡ j - i
both_ways n i j h g = omega arith

pub length-block : (k : Kind) (n i j : ℕ) → 1 ≤ i → i ≤ levels k n → j ≤ last_index k n i → length (block k n i j) ≡ block_length k n i j
unfolding block
length-block A n i j o h l = length-rise i j
length-block B n i j o h l = length-block_by_cases (leb j n) refl
  where
    length-block_by_cases : (t : Bool) → leb j n ≡ t → length (pick t (rise i j) (rise i n ++ fall (n - 1) (2 * n - j))) ≡ suc j - i
    length-block_by_cases true e = length-rise i j
    length-block_by_cases false e = simp (length-append, length-rise, length-fall) (omega (arith, leb-false j n e))
length-block D n i j o h l = length-block_by_cases (ltb j n) refl
  where
    length-block_by_cases : (t : Bool) → ltb j n ≡ t
        → length (pick t (rise i j) (rise i (n - 2) ++ (n ∷ fall (n - 1) (2 * n - j)))) ≡ pick t (suc j - i) (j - i)
    length-block_by_cases true e = length-rise i j
    length-block_by_cases false e =
        let turn = ltb-false j n e in
        simp (length-append, length-rise, length-fall, way_up n i (omega arith), way_down n j (omega arith) turn (omega arith))
        (both_ways n i j (omega arith) turn)

-- ---- taking out an entry

-- what an entry of less than all other sizes adds before each of them
abbrev ahead : ℤ → ℕ
ahead e = pick (negative e) 2 0

weight-smaller : (x e : ℤ) → nat_abs e < nat_abs x → weight x e ≡ 1
unfolding weight
weight-smaller x e h = rw (lt-ltb (nat_abs e) (nat_abs x) h)

weight-larger : (e y : ℤ) → nat_abs e ≤ nat_abs y → weight e y ≡ ahead e
unfolding weight
weight-larger e y h = rw (le-ltb (nat_abs y) (nat_abs e) h)

weights_insert : (x e : ℤ) (u v : List ℤ) → nat_abs e < nat_abs x → weights x (u ++ (e ∷ v)) ≡ suc (weights x (u ++ v))
unfolding weights
weights_insert x e [] v h = omega (arith, weight-smaller x e h)
weights_insert x e (y ∷ u) v h = omega (arith, weights_insert x e u v h)

weights-least : (e : ℤ) (c : ℕ) (v : List ℤ) → Between (suc (nat_abs e)) c v → weights e v ≡ ahead e * length v
unfolding weights
weights-least e c [] b = sym (mul-zero (ahead e))
weights-least e c (y ∷ v) b = omega (arith, weight-larger e y (omega arith), weights-least e c v b.2, mul-suc (ahead e) (length v))

-- an entry of less than all other sizes stands first if it is positive, and last if not
pair_weights_insert : (e : ℤ) (c : ℕ) (u v : List ℤ) → Between (suc (nat_abs e)) c (u ++ v)
    → pair_weights (u ++ (e ∷ v)) ≡ pair_weights (u ++ v) + (length u + ahead e * length v)
unfolding pair_weights
pair_weights_insert e c [] v b = omega (arith, weights-least e c v b)
pair_weights_insert e c (x ∷ u) v b = omega (arith, weights_insert x e u v b.0, pair_weights_insert e c u v b.2)

weights-negate_first : (x : ℤ) (p : ℕ) (w : List ℤ) → weights x (from p negate_first w) ≡ weights x w
unfolding weights weight from negate_first
weights-negate_first x zero [] = refl
weights-negate_first x zero (y ∷ w) = rw (nat_abs-neg_ℤ y)
weights-negate_first x (suc p) [] = refl
weights-negate_first x (suc p) (y ∷ w) = ap (λ (s : ℕ). weight x y + s) (weights-negate_first x p w)

-- the sign of the last entry weighs nothing
pub pair_weights_negate_last : (w : List ℤ) → pair_weights (from (length w - 1) negate_first w) ≡ pair_weights w
unfolding pair_weights weights from negate_first
pair_weights_negate_last [] = refl
pair_weights_negate_last (x ∷ []) = refl
pair_weights_negate_last (x ∷ y ∷ w) =
    let e : suc (suc (length w)) - 1 ≡ suc (suc (length w) - 1) = omega arith in
    let rest = pair_weights_negate_last (y ∷ w) in
    rw (e, weights-negate_first x (suc (length w) - 1) (y ∷ w), rest)

-- ---- one level

-- what a level of the kind weighs
abbrev total : Kind → List ℤ → ℕ
total k w = pair_weights w + sign_weight k w

total-rest_of : (k : Kind) (e : ℤ) (w : List ℤ) → total k (rest_of k e w) ≡ total k w
unfolding rest_of sign_weight
total-rest_of A e w = refl
total-rest_of B e w = refl
total-rest_of D (pos x) w = refl
total-rest_of D (negsuc x) w = ap (λ (s : ℕ). s + 0) (pair_weights_negate_last w)

sign_weight_insert : (k : Kind) (e : ℤ) (u v : List ℤ) → sign_weight k (u ++ (e ∷ v)) ≡ sign_weight k (e ∷ []) + sign_weight k (u ++ v)
unfolding sign_weight negatives
sign_weight_insert A e u v = refl
sign_weight_insert B e u v = omega (arith, negatives_middle u e v)
sign_weight_insert D e u v = refl

-- the block of an entry with a entries before it and b behind
length-block-index_of : (k : Kind) (n : ℕ) {i : ℕ} (a b : ℕ) (e : ℤ) → negative_in_A k e ≡ false → 1 ≤ i → i ≤ levels k n → a + b + i ≡ lanes k n
    → length (block k n i (index_of n (signed e (i + a)))) ≡ a + ahead e * b + sign_weight k (e ∷ [])
unfolding negative_in_A sign_weight negatives negative one
length-block-index_of A n {i} a b (pos x) g o h s = rw (index_of_positive n x (i + a)) (length-block A n i (i + a - 1) o h (omega arith) ∙ omega arith)
length-block-index_of A n {i} a b (negsuc x) g o h s = let z : true ≡ false = g in cc
length-block-index_of B n {i} a b (pos x) g o h s = rw (index_of_positive n x (i + a)) (length-block B n i (i + a - 1) o h (omega arith) ∙ omega arith)
length-block-index_of B n {i} a b (negsuc x) g o h s =
    rw (index_of-negative n x (i + a) (omega arith)) (length-block B n i (2 * n - (i + a)) o h (omega arith) ∙ omega arith)
length-block-index_of D n {i} a b (pos x) g o h s =
    rw (index_of_positive n x (i + a))
    (length-block D n i (i + a - 1) o h (omega arith) ∙ rw (lt-ltb (i + a - 1) n (omega arith)) (omega arith))
length-block-index_of D n {i} a b (negsuc x) g o h s =
    rw (index_of-negative n x (i + a) (omega arith))
    (length-block D n i (2 * n - (i + a)) o h (omega arith) ∙ rw (le-ltb (2 * n - (i + a)) n (omega arith)) (omega arith))

-- the entry of size i taken out, and its block
total_insert : {k : Kind} {n i : ℕ} (u : List ℤ) (e : ℤ) (v : List ℤ) → 1 ≤ i → i ≤ levels k n → nat_abs e ≡ i → AtLevel k n i (u ++ (e ∷ v))
    → total k (rest_of k e (u ++ v)) + length (block k n i (index_of n (signed e (i + length u)))) ≡ total k (u ++ (e ∷ v))
total_insert {k} {n} {i} u e v o l q h =
    let below = at_level_rest u e v o l q h in
    let c : ℕ = suc i + length (rest_of k e (u ++ v)) in
    let twice = between-rest_of k e (suc i) c (rest_of k e (u ++ v)) below.level.between in
    let b : Between (suc i) c (u ++ v) = rw (rest_of-rest_of k e (u ++ v)) at twice in
    let pairs = pair_weights_insert e c u v (rw q b) in
    let s : length u + length v + i ≡ lanes k n = omega (arith, h.size, length-append u (e ∷ v)) in
    let single = length-block-index_of k n (length u) (length v) e (at_level_negative_in_A k n i u e v h) o l s in
    omega (arith, total-rest_of k e (u ++ v), sign_weight_insert k e u v)

-- ---- all levels

-- at the end of the levels at most one entry is left, in B none
total_last : (k : Kind) (n i : ℕ) (w : List ℤ) → i ≡ suc (levels k n) → length w + i ≡ suc (lanes k n) → 0 ≡ total k w
unfolding pair_weights weights sign_weight negatives
total_last A n i [] t s = refl
total_last A n i (x ∷ []) t s = refl
total_last A n i (x ∷ y ∷ w) t s = absurd (omega arith)
total_last B n i [] t s = refl
total_last B n i (x ∷ w) t s = absurd (omega arith)
total_last D n i [] t s = refl
total_last D n i (x ∷ []) t s = refl
total_last D n i (x ∷ y ∷ w) t s = absurd (omega arith)

length-normal_from-suc : {k : Kind} {n : ℕ} (t : ℕ) {i : ℕ} (u : List ℤ) (e : ℤ) (v : List ℤ) → 1 ≤ i → i ≤ levels k n → nat_abs e ≡ i → has_size i u ≡ false
    → AtLevel k n i (u ++ (e ∷ v))
    → length (normal_from k n t (suc i) (rest_of k e (u ++ v))) ≡ total k (rest_of k e (u ++ v))
    → length (normal_from k n (suc t) i (u ++ (e ∷ v))) ≡ total k (u ++ (e ∷ v))
unfolding normal_from
length-normal_from-suc {k} {n} t {i} u e v o l q f h below =
    rw (rest_of_peeled k i u e v o q f, place_from_peeled i i u e v q f, length-append, below) (total_insert u e v o l q h)

length-normal_from : (k : Kind) (n t i : ℕ) (w : List ℤ) → 1 ≤ i → t + i ≡ suc (levels k n) → AtLevel k n i w
    → length (normal_from k n t i w) ≡ pair_weights w + sign_weight k w
unfolding normal_from
length-normal_from k n zero i w o t h = total_last k n i w (omega arith) h.size
length-normal_from k n (suc m) i w o t h =
    let l : i ≤ levels k n = omega arith in
    let c = peeled k n i w l h in
    let u = c.left in
    let e = c.entry in
    let v = c.right in
    let g : AtLevel k n i (u ++ (e ∷ v)) = rw c.whole at h in
    let rest = length-normal_from k n m (suc i) (rest_of k e (u ++ v)) (omega arith) (omega arith) (at_level_rest u e v o l c.size g) in
    rw (c.whole, rest_of_peeled k i u e v o c.size c.new, place_from_peeled i i u e v c.size c.new, length-append, rest)
    (total_insert u e v o l c.size g)

-- the length of the normal form, counted from the window
pub length-normal_form : (k : Kind) (n : ℕ) (w : List ℤ) → Accepted k n w → length (normal_form k n w) ≡ window_length k w
unfolding normal_form
length-normal_form k n w h =
    length-normal_from k n (levels k n) 1 w (omega arith) (omega arith) (at_level_of_accepted k n w h) ∙ sym (length_by_weights k n w h)
