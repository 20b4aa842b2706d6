-- The inverse of an accepted window: it cancels on both sides, is accepted, is the only one that cancels, and is
-- the window of the reversed word. By the laws on the places of entries (Places) and the associativity of the
-- product (Products).
--
-- Sections: elements; cancelling; acceptance; uniqueness; reversed words.
-- Assumes nothing.
use mathlib.Core.Path.{◌≡◌, refl, sym, ap, ◌∙◌}
use mathlib.Core.Bool.{true}
use mathlib.Core.List.{List, [], ◌∷◌, ◌++◌, map-map, append_assoc, reverse, reverse-cons}
use Prim.Native.Nat.{ℕ, zero, suc, ◌+◌, ◌≤◌, ◌<◌}
use native.Mathlib.Omega.{arith}
use lib.IntN.{ℤ, pos, negsuc, neg_ℤ, nat_abs, neg_ℤ-neg_ℤ}
use lib.ListN.{length, get_or, length-map}
use lib.Seq.{ext_get_or}
use Rattle.coxeter.specs.declared.Kind.{Kind}
use Rattle.coxeter.specs.declared.Kind.TheVariants.{A, B, D}
use Rattle.coxeter.specs.Kinds.{lanes, up}
use Rattle.coxeter.specs.Windows.{act, window_from, identity, window, at, product, signed, place_from, inverse}
use Rattle.coxeter.specs.Length.{negatives}
use Rattle.coxeter.specs.Checks.{has_size, odd}
use Rattle.coxeter.proofs.Basics.{length_up, length-identity, window_from-append}
use Rattle.coxeter.proofs.Levels.{Between, Level, Signs, Accepted, level_has_size, window_accepted}
use Rattle.coxeter.proofs.Steps.{act_involution}
use Rattle.coxeter.proofs.Places.{between_mono, between-get_or, nat_abs-at, at-place_from, place_from-get_or}
use Rattle.coxeter.proofs.Places.{nat_abs-place_from, between-map-up, distinct_map-up, negatives-place_from}
use Rattle.coxeter.proofs.Products.{get_or-up, get_d_map, map-up, get_or-identity, length-product}
use Rattle.coxeter.proofs.Products.{get_or-product, product_assoc, product-identity, identity-product, window-append}

-- ---- elements

pub length-inverse : (w : List ℤ) → length (inverse w) ≡ length w
unfolding inverse
length-inverse w = length-map (up 1 (length w)) (place_from 1 w) ∙ length_up 1 (length w)

pub get_or-inverse : (w : List ℤ) (p : ℕ) → p < length w → get_or (inverse w) p (pos 0) ≡ place_from 1 w (suc p)
unfolding inverse
get_or-inverse w p h =
    get_d_map (place_from 1 w) (up 1 (length w)) p (pos 0) 0 (rw length_up h)
    ∙ ap (place_from 1 w) (get_or-up 1 (length w) p 0 h ∙ omega arith)

-- ---- cancelling

pub product-inverse : (k : Kind) (n : ℕ) (w : List ℤ) → Accepted k n w → product w (inverse w) ≡ identity (lanes k n)
unfolding product inverse identity
product-inverse k n w h =
    rw (← h.size)
    (map-map (at w) (place_from 1 w) (up 1 (length w))
    ∙ map-up (λ i. at w (place_from 1 w i)) pos 1 (length w) (λ i a b. at-place_from w i (level_has_size 1 i w h.level a b)))

at-inverse : (w : List ℤ) (e : ℤ) (j : ℕ) → 1 ≤ nat_abs e → nat_abs e ≤ length w → place_from 1 w (nat_abs e) ≡ signed e j → at (inverse w) e ≡ pos j
unfolding at signed
at-inverse w (pos zero) j a b h = absurd (omega arith)
at-inverse w (pos (suc p)) j a b h = get_or-inverse w p b ∙ h
at-inverse w (negsuc p) j a b h = ap neg_ℤ (get_or-inverse w p b ∙ h) ∙ neg_ℤ-neg_ℤ (pos j)

inverse-product_level : (w : List ℤ) → Level 1 w → product (inverse w) w ≡ identity (length w)
inverse-product_level w h =
    ext_get_or (pos 0) (product (inverse w) w) (identity (length w)) (length-product (inverse w) w ∙ sym (length-identity (length w)))
    (λ p l. entry p (rw length-product at l))
  where
    entry : (p : ℕ) → p < length w → get_or (product (inverse w) w) p (pos 0) ≡ get_or (identity (length w)) p (pos 0)
    entry p l =
        let b : (1 ≤ nat_abs (get_or w p (pos 0))) × (nat_abs (get_or w p (pos 0)) < 1 + length w) = between-get_or 1 (1 + length w) w p h.between l in
        get_or-product (inverse w) w p
        ∙ at-inverse w (get_or w p (pos 0)) (suc p) b.0 (omega arith)
        (place_from-get_or 1 w p h.distinct l ∙ ap (signed (get_or w p (pos 0))) (omega arith))
        ∙ sym (get_or-identity (length w) p l)

pub inverse-product : (k : Kind) (n : ℕ) (w : List ℤ) → Accepted k n w → product (inverse w) w ≡ identity (lanes k n)
inverse-product k n w h = rw (← h.size) (inverse-product_level w h.level)

-- ---- acceptance

inverse_level : (w : List ℤ) → Level 1 w → Level 1 (inverse w)
unfolding inverse
inverse_level w h =
    record {
      between = rw (length-inverse w) (between-map-up 1 (1 + length w) (place_from 1 w) 1 (length w) (λ j a b. nat_abs-place_from 1 w j (there j a b)));
      distinct = distinct_map-up (λ s. nat_abs (at w (pos s))) (place_from 1 w) 1 (length w)
          (λ j a b. nat_abs-at w (place_from 1 w j) ∙ ap nat_abs (at-place_from w j (there j a b)));
    }
  where
    there : (j : ℕ) → 1 ≤ j → j < 1 + length w → has_size j w ≡ true
    there j a b = level_has_size 1 j w h a b

-- each negative entry of w is one negative entry of its inverse
negatives-inverse : (w : List ℤ) → Level 1 w → negatives (inverse w) ≡ negatives w
unfolding inverse
negatives-inverse w h = negatives-place_from (length w) 0 w h.between h.distinct

signs_of_negatives : (k : Kind) (v w : List ℤ) → negatives v ≡ negatives w → Signs k w → Signs k v
signs_of_negatives A v w e h = e ∙ h
signs_of_negatives B v w e h = tt
signs_of_negatives D v w e h = ap odd e ∙ h

pub inverse_accepted : (k : Kind) (n : ℕ) (w : List ℤ) → Accepted k n w → Accepted k n (inverse w)
inverse_accepted k n w h =
    record {
      size = length-inverse w ∙ h.size;
      level = inverse_level w h.level;
      signs = signs_of_negatives k (inverse w) w (negatives-inverse w h.level) h.signs;
    }

-- ---- uniqueness

pub accepted_between : (k : Kind) (n : ℕ) (w : List ℤ) → Accepted k n w → Between 0 (suc (lanes k n)) w
accepted_between k n w h =
    let e : length w ≡ lanes k n = h.size in
    between_mono 1 (1 + length w) 0 (suc (lanes k n)) w (omega arith) (omega arith) h.level.between

inverse_unique : (k : Kind) (n : ℕ) (w v : List ℤ) → Accepted k n w → Accepted k n v → product w v ≡ identity (lanes k n) → v ≡ inverse w
inverse_unique k n w v h g e =
    sym (identity-product (lanes k n) v (accepted_between k n v g))
    ∙ ap (λ (l : List ℤ). product l v) (sym (inverse-product k n w h))
    ∙ product_assoc (inverse w) w v
    ∙ ap (product (inverse w)) e
    ∙ ap (λ (m : ℕ). product (inverse w) (identity m)) (sym (length-inverse w ∙ h.size))
    ∙ product-identity (inverse w)

pub inverse-inverse : (k : Kind) (n : ℕ) (w : List ℤ) → Accepted k n w → inverse (inverse w) ≡ w
inverse-inverse k n w h = sym (inverse_unique k n (inverse w) w (inverse_accepted k n w h) h (inverse-product k n w h))

-- ---- reversed words

-- a word and then its reversal change nothing
pub window_from-reverse : (k : Kind) (n : ℕ) (w : List ℤ) (u : List ℕ) → window_from k n w (u ++ reverse u) ≡ w
unfolding window_from
window_from-reverse k n w [] = refl
window_from-reverse k n w (s ∷ u) =
    ap (λ (l : List ℕ). window_from k n (act k n s w) l) (ap (λ (l : List ℕ). u ++ l) (reverse-cons s u) ∙ sym (append_assoc u (reverse u) (s ∷ [])))
    ∙ window_from-append k n (act k n s w) (u ++ reverse u) (s ∷ [])
    ∙ ap (act k n s) (window_from-reverse k n (act k n s w) u)
    ∙ act_involution k n s w

pub window-reverse : (k : Kind) (n : ℕ) (u : List ℕ) → window k n (reverse u) ≡ inverse (window k n u)
window-reverse k n u =
    inverse_unique k n (window k n u) (window k n (reverse u)) (window_accepted k n u) (window_accepted k n (reverse u))
    (sym (window-append k n u (reverse u)) ∙ unfold window in window_from-reverse k n (identity (lanes k n)) u)
