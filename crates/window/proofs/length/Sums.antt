-- The sums of the length by the sizes of the entries, what keeps them small, and what they are in each kind.
--
-- Sections: one entry against those behind it; all entries; the three kinds; crossings.
-- Assumes nothing.
use mathlib.Core.Path.{◌≡◌, refl, sym, ap, ◌∙◌}
use mathlib.Core.Bool.{Bool, true, false}
use mathlib.Core.Logic.{◌⊎◌, ⊎_elim}
use mathlib.Core.List.{List, [], ◌∷◌, map}
use Prim.Native.Nat.{ℕ, zero, suc, ◌+◌, ◌-◌, ◌*◌, ◌≤◌}
use native.Mathlib.Nat.{add-zero}
use native.Mathlib.Omega.{arith}
use lib.Dec.{ltb}
use lib.IntN.{ℤ, pos, nat_abs}
use lib.ListN.{length, length-map, drop}
use Rattle.coxeter.specs.declared.Kind.{Kind}
use Rattle.coxeter.specs.declared.Kind.TheVariants.{A, B, D}
use Rattle.coxeter.specs.Kinds.{pick, lanes}
use Rattle.coxeter.specs.Length.{later, negative, one, later_than, inversions, negative_sum_pairs, negatives, crossings, window_length}
use Rattle.coxeter.specs.Checks.{WindowOf}
use Rattle.coxeter.proofs.KindLaws.{lanes_le_add_one}
use Rattle.coxeter.proofs.Levels.{Between, Distinct, accepted_of_refusal, refusal_of_accepted}
use Rattle.coxeter.proofs.PairWeights.{weight, weights, pair_weights, sign_weight, pair_weights_le}
use Rattle.coxeter.proofs.PairWeights.{inversions_add_negative_sum_pairs, length_by_weights, negative_sum_pairs_of_negatives_zero}
use Rattle.coxeter.specs.Calls.{counted_of}
use Rattle.coxeter.specs.answers.Counted as counted
use Rattle.window.proofs.Squares.{square_le, square_le_4096}

-- ---- one entry against those behind it

-- how many of the sizes are smaller than a
unfoldable pub smaller : ℕ → List ℕ → ℕ
smaller a l = later_than (pos a) (map pos l)

one_or_two : (t : Bool) (r s l : ℕ) → r + s ≡ 2 * l → pick t 1 2 + r + (pick t 1 0 + s) ≡ 2 * suc l
one_or_two true r s l e = omega arith
one_or_two false r s l e = omega arith

weights_of_negative : (x : ℤ) (w : List ℤ) → negative x ≡ true → weights x w + smaller (nat_abs x) (map nat_abs w) ≡ 2 * length w
unfolding weights weight smaller later_than later one
weights_of_negative x [] e = refl
weights_of_negative x (y ∷ w) e =
    rw e (one_or_two (ltb (nat_abs y) (nat_abs x)) (weights x w) (smaller (nat_abs x) (map nat_abs w)) (length w) (weights_of_negative x w e))

weights_of_positive : (x : ℤ) (w : List ℤ) → negative x ≡ false → weights x w ≡ smaller (nat_abs x) (map nat_abs w)
unfolding weights weight smaller later_than later one
weights_of_positive x [] e = refl
weights_of_positive x (y ∷ w) e =
    rw e (ap (λ (r : ℕ). pick (ltb (nat_abs y) (nat_abs x)) 1 0 + r) (weights_of_positive x w e))

-- the pairs of an entry of size a with those behind it, of the sizes l; t says whether it is negative
unfoldable pub behind : Bool → ℕ → List ℕ → ℕ
behind t a l = pick t (2 * length l - smaller a l) (smaller a l)

pub weights-behind : (x : ℤ) (w : List ℤ) → weights x w ≡ behind (negative x) (nat_abs x) (map nat_abs w)
unfolding behind
weights-behind x w = rw (length-map w nat_abs) (weights-behind_by_sign (negative x) refl)
  where
    weights-behind_by_sign : (t : Bool) → negative x ≡ t
        → weights x w ≡ pick t (2 * length w - smaller (nat_abs x) (map nat_abs w)) (smaller (nat_abs x) (map nat_abs w))
    weights-behind_by_sign true e = omega (arith, weights_of_negative x w e)
    weights-behind_by_sign false e = weights_of_positive x w e

-- ---- all entries

pub between-drop : (a c i : ℕ) (w : List ℤ) → Between a c w → Between a c (drop i w)
between-drop a c zero w b = b
between-drop a c (suc i) [] b = tt
between-drop a c (suc i) (e ∷ w) b = between-drop a c i w b.2

pub distinct_drop : (i : ℕ) (w : List ℤ) → Distinct w → Distinct (drop i w)
distinct_drop zero w d = d
distinct_drop (suc i) [] d = tt
distinct_drop (suc i) (e ∷ w) d = distinct_drop i w d.1

-- an accepted window of any kind, as one of kind B
pub refusal-B : (k : Kind) (n : ℕ) (w : List ℤ) → WindowOf k n w → WindowOf B (length w) w
refusal-B k n w h =
    refusal_of_accepted B (length w) w (record { size = refl; level = (accepted_of_refusal k n w h).level; signs = tt })

-- both sorts of pairs
unfoldable pub both_pairs : List ℤ → ℕ
both_pairs w = inversions w + negative_sum_pairs w

pub both_pairs_is_pair_weights : (w : List ℤ) → WindowOf B (length w) w → both_pairs w ≡ pair_weights w
unfolding both_pairs
both_pairs_is_pair_weights w h =
    let a = (accepted_of_refusal B (length w) w h).level in
    inversions_add_negative_sum_pairs (1 + length w) w a.between a.distinct

-- a square of at most 64 lanes fits
pub square_fits : (m : ℕ) → m ≤ 64 → (m * m ≤ 4096) × (m ≤ m * m)
square_fits m few = (square_le_4096 m few, square_le m)

pub both_pairs_le : (w : List ℤ) → WindowOf B (length w) w → length w ≤ 64 → both_pairs w ≤ 4096
both_pairs_le w h l =
    omega (arith, both_pairs_is_pair_weights w h, pair_weights_le w, (square_fits (length w) l).0)

-- ---- the three kinds

pub length_le_of_lanes : (k : Kind) (n : ℕ) (w : List ℤ) → lanes k n ≤ 64 → WindowOf k n w → length w ≤ 64
length_le_of_lanes k n w l h = omega (arith, (accepted_of_refusal k n w h).size)

pub length_le_of_refusal : (k : Kind) (n : ℕ) (w : List ℤ) → n ≤ 64 → WindowOf k n w → length w ≤ 65
length_le_of_refusal k n w l h = omega (arith, (accepted_of_refusal k n w h).size, lanes_le_add_one k n)

window_length_is_add : (k : Kind) (n : ℕ) (w : List ℤ) → WindowOf k n w → window_length k w ≡ both_pairs w + sign_weight k w
window_length_is_add k n w h =
    length_by_weights k n w (accepted_of_refusal k n w h)
    ∙ ap (λ (x : ℕ). x + sign_weight k w) (sym (both_pairs_is_pair_weights w (refusal-B k n w h)))

pub window_length-B : (k : Kind) (n : ℕ) (w : List ℤ) → WindowOf k n w → k ≡ B → window_length k w ≡ inversions w + negative_sum_pairs w + negatives w
unfolding both_pairs sign_weight
window_length-B k n w h e = rw e (window_length_is_add B n w (rw e at h))

pub window_length_else : (k : Kind) (n : ℕ) (w : List ℤ) → WindowOf k n w → (k ≡ A) ⊎ (k ≡ D) → window_length k w ≡ inversions w + negative_sum_pairs w
unfolding both_pairs sign_weight
window_length_else k n w h d =
    ⊎_elim (λ e. rw e (window_length_is_add A n w (rw e at h) ∙ add-zero _)) (λ e. rw e (window_length_is_add D n w (rw e at h) ∙ add-zero _)) d

-- ---- crossings

-- p are the pairs of both sorts, s the negative sum pairs, t the negative entries
module _ (k : Kind) (n : ℕ) (w : List ℤ) (h : WindowOf k n w) {p s : ℕ} (e : p ≡ inversions w + negative_sum_pairs w)
    (q : s ≡ negative_sum_pairs w) where
  first : p - s ≡ inversions w
  first = omega arith

  pub counted-B : {t : ℕ} → k ≡ B → t ≡ negatives w → counted.Crossings (p - s) s t ≡ counted_of 0 (crossings k w)
  unfolding counted_of crossings
  counted-B b z = rw (b, first, q, z)

  none_in_A : k ≡ A → negative_sum_pairs w ≡ 0
  none_in_A a =
      let f = accepted_of_refusal A n w (rw a at h) in
      negative_sum_pairs_of_negatives_zero (1 + length w) w f.level.between f.level.distinct f.signs

  counted-A : {t : ℕ} → k ≡ A → t ≡ 0 → counted.Crossings (p - s) s t ≡ counted_of 0 (crossings k w)
  unfolding counted_of crossings
  counted-A a z = rw (z, a, first, q, none_in_A a)

  counted-D : {t : ℕ} → k ≡ D → t ≡ 0 → counted.Crossings (p - s) s t ≡ counted_of 0 (crossings k w)
  unfolding counted_of crossings
  counted-D d z = rw (z, d, first, q)

  pub counted_else : {t : ℕ} → (k ≡ A) ⊎ (k ≡ D) → t ≡ 0 → counted.Crossings (p - s) s t ≡ counted_of 0 (crossings k w)
  counted_else h z = ⊎_elim (λ a. counted-A a z) (λ d. counted-D d z) h
