-- Products and inverses of windows, one entry at a time, in the form in which the code meets them.
--
-- Sections: entries by size and sign; the product; the inverse.
-- Assumes nothing.
use mathlib.Core.Path.{◌≡◌, refl, sym, ap, ◌∙◌}
use mathlib.Core.Bool.{true, false}
use mathlib.Core.List.{List, [], ◌∷◌}
use Prim.Native.Nat.{ℕ, zero, suc, ◌+◌, ◌-◌, ◌≤◌, ◌<◌}
use native.Mathlib.Numerals.{add-one, sub-one}
use native.Mathlib.Omega.{arith}
use lib.IntN.{ℤ, pos, negsuc, neg_ℤ, nat_abs}
use lib.Dec.{T}
use lib.Signed.{mag, lt_z, non_neg}
use lib.ListN.{length, get_or, drop, set, drop_of_length-le}
use lib.Seq.{sets}
use mir.Syntax.{w8, w64}
use mir.Val.{Fits, SFits}
use Rattle.coxeter.specs.declared.Kind.{Kind}
use Rattle.coxeter.specs.declared.Kind.TheVariants.{A, B, D}
use Rattle.coxeter.specs.Kinds.{pick}
use Rattle.coxeter.specs.Windows.{at, product, signed, inverse}
use Rattle.coxeter.specs.Length.{negative}
use Rattle.coxeter.specs.Checks.{WindowOf, negative_in_A}
use Rattle.coxeter.specs.Calls.{front}
use Rattle.coxeter.proofs.Lists.{drop_next}
use Rattle.coxeter.proofs.Products.{length-product}
use Rattle.coxeter.proofs.Inverses.{length-inverse}
use Rattle.coxeter.proofs.Sizes.{nat_abs-neg_ℤ, PositiveInA, positive_in_A_head, positive_in_A_tail}
use Rattle.coxeter.proofs.Levels.{accepted_of_refusal}
use Rattle.coxeter.proofs.Places.{between-get_or}
use Rattle.window.proofs.length.Sums.{length_le_of_refusal}
use Rattle.window.proofs.product.Scatter.{scatter, scatter-inverse}
use Rattle.refusals.proofs.Bytes.{held, byte_back, element_back, negative_is_test, size_of_positive}
use Rattle.coxeter.proofs.FrontLaws.{sets-front, front_parts}

-- ---- entries by size and sign

at_by_sign : (u : List ℤ) (e : ℤ) → 1 ≤ nat_abs e
    → at u e ≡ pick (negative e) (neg_ℤ (get_or u (nat_abs e - 1) (pos 0))) (get_or u (nat_abs e - 1) (pos 0))
unfolding at negative
at_by_sign u (pos zero) h = absurd (omega arith)
at_by_sign u (pos (suc a)) h = rw sub-one
at_by_sign u (negsuc a) h = rw sub-one

nat_abs-at_by_size : (u : List ℤ) (e : ℤ) → 1 ≤ nat_abs e → nat_abs (at u e) ≡ nat_abs (get_or u (nat_abs e - 1) (pos 0))
unfolding at
nat_abs-at_by_size u (pos zero) h = absurd (omega arith)
nat_abs-at_by_size u (pos (suc a)) h = rw sub-one
nat_abs-at_by_size u (negsuc a) h = rw sub-one (nat_abs-neg_ℤ (get_or u a (pos 0)))

signed_by_sign : (e : ℤ) (k : ℕ) → signed e k ≡ pick (negative e) (neg_ℤ (pos k)) (pos k)
unfolding signed negative
signed_by_sign (pos a) k = refl
signed_by_sign (negsuc a) k = refl

pub signed_minus : (e : ℤ) (k : ℕ) → negative e ≡ true → neg_ℤ (pos k) ≡ signed e k
signed_minus e k h = rw (signed_by_sign e k, h)

pub signed_plus : (e : ℤ) (k : ℕ) → negative e ≡ false → pos k ≡ signed e k
signed_plus e k h = rw (signed_by_sign e k, h)

-- the size of the entry at position i of an accepted window
pub entry_bounds : (k : Kind) (n : ℕ) (w : List ℤ) (i : ℕ) → WindowOf k n w → i < length w
    → (1 ≤ nat_abs (get_or w i (pos 0))) × (nat_abs (get_or w i (pos 0)) ≤ length w)
entry_bounds k n w i h l =
    let b = between-get_or 1 (1 + length w) w i (accepted_of_refusal k n w h).level.between l in
    (b.0, omega arith)

-- in kind A it is not negative
positive_at : (k : Kind) (w : List ℤ) (i : ℕ) → PositiveInA k w → i < length w → negative_in_A k (get_or w i (pos 0)) ≡ false
positive_at k [] i p l = absurd (omega arith)
positive_at k (e ∷ w) zero p l = positive_in_A_head k e w p
positive_at k (e ∷ w) (suc i) p l = positive_at k w i (positive_in_A_tail k e w p) (omega arith)

sign_at : (k : Kind) (n : ℕ) (w : List ℤ) (i : ℕ) → WindowOf k n w → i < length w → negative_in_A k (get_or w i (pos 0)) ≡ false
unfolding negative_in_A
sign_at A n w i g l = positive_at A w i (accepted_of_refusal A n w g).signs l
sign_at B n w i g l = refl
sign_at D n w i g l = refl

-- ---- the product

-- an entry of kind A as an index
pub positive_index : (k : Kind) (e : ℤ) → k ≡ A → negative_in_A k e ≡ false → SFits w8 e
    → (negative e ≡ false) × T (non_neg (held e)) × Fits w64 (nat_abs (held e))
unfolding negative_in_A
positive_index k e q n f =
    let s : negative e ≡ false = rw q at n in
    let p = size_of_positive e f (ap (λ (z : ℤ). lt_z z (pos 0)) (byte_back e f) ∙ negative_is_test e ∙ s) in
    (s, p.0, record { fits = omega (arith, p.1.fits) })

pub image_small : (u : List ℤ) (e : ℤ) (s : ℕ) → s ≡ nat_abs e → 1 ≤ nat_abs e → nat_abs (at u e) < 128 → mag (get_or u (s - 1) (pos 0)) < 128
    → nat_abs (held (get_or u (s - 1) (pos 0))) < 128
image_small u e s q h l f = rw (element_back (get_or u (s - 1) (pos 0)) f, q, ← nat_abs-at_by_size u e h) l

pub image_negative : (u : List ℤ) (e : ℤ) {s : ℕ} {r : ℤ} → s ≡ nat_abs e → 1 ≤ nat_abs e → negative e ≡ true
    → mag (get_or u (s - 1) (pos 0)) < 128 → mag r < 128 → r ≡ neg_ℤ (held (get_or u (s - 1) (pos 0))) → held r ≡ at u e
image_negative u e {s} {r} q h n f b g =
    let x : at u e ≡ neg_ℤ (get_or u (s - 1) (pos 0)) = rw (at_by_sign u e h, n, q) in
    element_back r b ∙ g ∙ ap neg_ℤ (element_back (get_or u (s - 1) (pos 0)) f) ∙ sym x

pub image_positive : (u : List ℤ) (e : ℤ) (s : ℕ) → s ≡ nat_abs e → 1 ≤ nat_abs e → negative e ≡ false
    → mag (get_or u (s - 1) (pos 0)) < 128 → held (get_or u (s - 1) (pos 0)) ≡ at u e
image_positive u e s q h n f =
    let x : at u e ≡ get_or u (s - 1) (pos 0) = rw (at_by_sign u e h, n, q) in
    element_back (get_or u (s - 1) (pos 0)) f ∙ sym x

same_length_of_refusals : (k : Kind) (n : ℕ) (u v : List ℤ) → WindowOf k n u → WindowOf k n v → length v ≡ length u
same_length_of_refusals k n u v h g = (accepted_of_refusal k n v g).size ∙ sym (accepted_of_refusal k n u h).size

-- what `image` asks at position i of v
pub image_asks : (k : Kind) {n : ℕ} (u v : List ℤ) {i : ℕ} → n ≤ 64 → WindowOf k n u → WindowOf k n v → i < length v
    → mag (get_or v i (pos 0)) < 128
    → (negative_in_A k (held (get_or v i (pos 0))) ≡ false) × ((1 ≤ nat_abs (held (get_or v i (pos 0))))
    × ((nat_abs (held (get_or v i (pos 0))) ≤ length u) × (nat_abs (at u (held (get_or v i (pos 0)))) < 128)))
image_asks k {n} u v {i} l h g m f =
    let e : ℤ = get_or v i (pos 0) in
    let b = entry_bounds k n v i g m in
    let s = same_length_of_refusals k n u v h g in
    let p : nat_abs e - 1 < length u = omega arith in
    let a = entry_bounds k n u (nat_abs e - 1) h p in
    rw (element_back (get_or v i (pos 0)) f) (
      sign_at k n v i g m,
      (b.0, (omega arith, rw (nat_abs-at_by_size u e b.0) (omega (arith, length_le_of_refusal k n u l h)))),
    )

pub product_step : (u v out : List ℤ) (i : ℕ) (r : ℤ) → i < length v → mag (get_or v i (pos 0)) < 128 → mag r < 128
    → r ≡ at u (held (get_or v i (pos 0)))
    → sets out i (product u (drop i v)) ≡ sets (set out i (held r)) (i + 1) (product u (drop (i + 1) v))
unfolding product
product_step u v out i r h f b e =
    let q : r ≡ at u (get_or v i (pos 0)) = e ∙ ap (at u) (element_back (get_or v i (pos 0)) f) in
    rw (element_back r b, q, drop_next v i (pos 0) h, add-one i)

pub product_end : (u v out : List ℤ) (i : ℕ) → length v ≤ i → sets out i (product u (drop i v)) ≡ out
unfolding product
product_end u v out i h = rw (drop_of_length-le v h)

pub product-written : (u v out : List ℤ) → length v ≤ length out → sets out 0 (product u v) ≡ front (product u v) out
product-written u v out h = sets-front (product u v) out (omega (arith, length-product u v))

-- ---- the inverse

-- the position i + 1, with the sign of the entry at i, stored at that entry's size
pub scatter_step : (w out : List ℤ) (i : ℕ) {s : ℕ} {r : ℤ} → i < length w → mag (get_or w i (pos 0)) < 128 → mag r < 128
    → s ≡ nat_abs (get_or w i (pos 0)) → r ≡ signed (held (get_or w i (pos 0))) (i + 1)
    → scatter out (i + 1) (drop i w) ≡ scatter (set out (s - 1) (held r)) (i + 1 + 1) (drop (i + 1) w)
unfolding scatter
scatter_step w out i {r} h f b q e =
    let g : r ≡ signed (get_or w i (pos 0)) (i + 1) = e ∙ ap (λ (x : ℤ). signed x (i + 1)) (element_back (get_or w i (pos 0)) f) in
    rw (element_back r b, g, q, add-one (i + 1), drop_next w i (pos 0) h)

pub scatter_end : (w out : List ℤ) (k i : ℕ) → length w ≤ i → scatter out k (drop i w) ≡ out
unfolding scatter
scatter_end w out k i h = rw (drop_of_length-le w h)

pub scatter-written : (k : Kind) (n : ℕ) (w out : List ℤ) → WindowOf k n w → length w ≤ length out
    → scatter out 1 w ≡ front (inverse w) out
scatter-written k n w out h l =
    scatter-inverse w out (accepted_of_refusal k n w h).level l ∙ front_parts (inverse w) out (length w) (inverse w) (length-inverse w) refl
