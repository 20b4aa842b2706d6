-- One level of a window: the entry of size i taken out, what `place_from`, `without` and `rest_of` then are, and that
-- what is left stands at the next level. By induction on the entries before the one of size i.
-- Assumes nothing.
use mathlib.Core.Path.{◌≡◌, refl, sym, ap, ◌∙◌}
use mathlib.Core.Bool.{Bool, true, false, not, false≢true, not-not}
use mathlib.Core.List.{List, [], ◌∷◌, ◌++◌, map}
use Prim.Native.Nat.{ℕ, zero, suc, ◌+◌, ◌-◌, ◌*◌, ◌≤◌, ◌<◌}
use native.Mathlib.Nat.{suc-add, add-suc, add-zero}
use native.Mathlib.Omega.{arith}
use lib.Dec.{eqb}
use lib.IntN.{ℤ, pos, negsuc, nat_abs}
use lib.ListN.{length, length-append}
use borrow.Author.Tests.{eqb-true, eqb-false, eq-eqb, ne_eqb}
use Rattle.coxeter.specs.declared.Kind.{Kind}
use Rattle.coxeter.specs.declared.Kind.TheVariants.{A, B, D}
use Rattle.coxeter.specs.Kinds.{lanes, up}
use Rattle.coxeter.specs.Windows.{from, negate_first, act, signed, place_from}
use Rattle.coxeter.specs.Length.{negative, negatives, one}
use Rattle.coxeter.specs.Checks.{has_size, negative_in_A, odd}
use Rattle.coxeter.specs.NormalForm.{levels, without, index_of, rest_of}
use Rattle.coxeter.proofs.Basics.{length_from, length-negate_first}
use Rattle.coxeter.proofs.Steps.{from_involution, negate_first_involution}
use Rattle.coxeter.proofs.Levels.{Between, Distinct, Level, Signs, Accepted, SameSizes, same_sizes_refl, same_sizes_act, level_has_size}
use Rattle.coxeter.proofs.Sizes.{has_size-head, has_size-tail, odd-one_add}

-- ---- the entry of size i

-- w with its first entry of size i set apart
pub record Peeled (i : ℕ) (w : List ℤ) : Type 0 where
  pub left : List ℤ
  pub entry : ℤ
  pub right : List ℤ
  pub whole : w ≡ left ++ (entry ∷ right)
  pub size : nat_abs entry ≡ i
  pub new : has_size i left ≡ false

pub peeled_of_has_size : (i : ℕ) (w : List ℤ) → has_size i w ≡ true → Peeled i w
unfolding has_size
peeled_of_has_size i [] h = absurd (false≢true h)
peeled_of_has_size i (e ∷ w) h = peeled_of_has_size_by_cases (eqb (nat_abs e) i) refl (peeled_of_has_size i w)
  where
    peeled_of_has_size_by_cases : (t : Bool) → eqb (nat_abs e) i ≡ t → (has_size i w ≡ true → Peeled i w) → Peeled i (e ∷ w)
    peeled_of_has_size_by_cases true q f = record { left = []; entry = e; right = w; whole = refl; size = eqb-true _ _ q; new = refl }
    peeled_of_has_size_by_cases false q f =
        let p : Peeled i w = f (rw q at h) in
        record { left = e ∷ p.left; entry = p.entry; right = p.right; whole = ap (λ (l : List ℤ). e ∷ l) p.whole; size = p.size; new = rw q p.new }

pub place_from_peeled : (k i : ℕ) (u : List ℤ) (e : ℤ) (v : List ℤ) → nat_abs e ≡ i → has_size i u ≡ false → place_from k (u ++ (e ∷ v)) i ≡ signed e (k + length u)
unfolding place_from
place_from_peeled k i [] e v h n = rw (eq-eqb _ _ h, add-zero)
place_from_peeled k i (x ∷ u) e v h n =
    rw (has_size-head i x u n, add-suc, ← suc-add) (place_from_peeled (suc k) i u e v h (has_size-tail i x u n))

without_peeled : (i : ℕ) (u : List ℤ) (e : ℤ) (v : List ℤ) → nat_abs e ≡ i → has_size i u ≡ false → without i (u ++ (e ∷ v)) ≡ u ++ v
unfolding without
without_peeled i [] e v h n = rw (eq-eqb _ _ h)
without_peeled i (x ∷ u) e v h n = rw (has_size-head i x u n) (ap (λ (l : List ℤ). x ∷ l) (without_peeled i u e v h (has_size-tail i x u n)))

-- ---- the index and the rest depend on the sign of the entry

rest_of-signed : (k : Kind) (e : ℤ) (q : ℕ) (w : List ℤ) → 1 ≤ q → rest_of k (signed e q) w ≡ rest_of k e w
unfolding rest_of signed
rest_of-signed A e q w h = refl
rest_of-signed B e q w h = refl
rest_of-signed D (pos x) q w h = refl
rest_of-signed D (negsuc x) zero w h = absurd (omega arith)
rest_of-signed D (negsuc x) (suc q) w h = refl

pub rest_of_positive : (k : Kind) (x : ℕ) (w : List ℤ) → rest_of k (pos x) w ≡ w
unfolding rest_of
rest_of_positive A x w = refl
rest_of_positive B x w = refl
rest_of_positive D x w = refl

pub index_of_positive : (n x q : ℕ) → index_of n (signed (pos x) q) ≡ q - 1
unfolding index_of signed
index_of_positive n x q = refl

pub index_of-negative : (n x q : ℕ) → 1 ≤ q → index_of n (signed (negsuc x) q) ≡ 2 * n - q
unfolding index_of signed
index_of-negative n x zero h = absurd (omega arith)
index_of-negative n x (suc q) h = refl

-- what peeling leaves
pub rest_of_peeled : (k : Kind) (i : ℕ) (u : List ℤ) (e : ℤ) (v : List ℤ) → 1 ≤ i → nat_abs e ≡ i → has_size i u ≡ false
    → rest_of k (place_from i (u ++ (e ∷ v)) i) (without i (u ++ (e ∷ v))) ≡ rest_of k e (u ++ v)
rest_of_peeled k i u e v o h n =
    rw (place_from_peeled i i u e v h n, without_peeled i u e v h n) (rest_of-signed k e (i + length u) (u ++ v) (omega arith))

-- ---- sizes without one entry

has_size_out : (s : ℕ) (u : List ℤ) (e : ℤ) (v : List ℤ) → has_size s (u ++ (e ∷ v)) ≡ false → (eqb (nat_abs e) s ≡ false) × (has_size s (u ++ v) ≡ false)
unfolding has_size
has_size_out s [] e v h = (has_size-head s e v h, has_size-tail s e v h)
has_size_out s (x ∷ u) e v h =
    let r : (eqb (nat_abs e) s ≡ false) × (has_size s (u ++ v) ≡ false) = has_size_out s u e v (has_size-tail s x (u ++ (e ∷ v)) h) in
    (r.0, rw (has_size-head s x (u ++ (e ∷ v)) h) r.1)

distinct_out : (u : List ℤ) (e : ℤ) (v : List ℤ) → Distinct (u ++ (e ∷ v)) → (has_size (nat_abs e) (u ++ v) ≡ false) × Distinct (u ++ v)
unfolding has_size
distinct_out [] e v h = h
distinct_out (x ∷ u) e v h =
    let r : (has_size (nat_abs e) (u ++ v) ≡ false) × Distinct (u ++ v) = distinct_out u e v h.1 in
    let s : (eqb (nat_abs e) (nat_abs x) ≡ false) × (has_size (nat_abs x) (u ++ v) ≡ false) = has_size_out (nat_abs x) u e v h.0 in
    (rw (ne_eqb (nat_abs x) (nat_abs e) (λ q. eqb-false _ _ s.0 (sym q))) r.0, (s.1, r.1))

between_out : (i c : ℕ) (u : List ℤ) (e : ℤ) (v : List ℤ) → Between i c (u ++ (e ∷ v)) → Between i c (u ++ v)
between_out i c [] e v h = h.2
between_out i c (x ∷ u) e v h = (h.0, h.1, between_out i c u e v h.2)

between-suc : (i c : ℕ) (w : List ℤ) → Between i c w → has_size i w ≡ false → Between (suc i) c w
between-suc i c [] h n = tt
between-suc i c (x ∷ w) h n =
    let q : nat_abs x ≡ i → ⊥ = eqb-false (nat_abs x) i (has_size-head i x w n) in
    (omega arith, h.1, between-suc i c w h.2 (has_size-tail i x w n))

-- ---- the sign of one entry changed

odd-one_add_not : (t : Bool) (a b : ℕ) → odd a ≡ not (odd b) → odd (one t + a) ≡ not (odd (one t + b))
odd-one_add_not true a b h = rw (odd-one_add true a, odd-one_add true b, h)
odd-one_add_not false a b h = rw (odd-one_add false a, odd-one_add false b, h)

-- the parity of the number of negative entries changes, 0 not being among them
odd_negated : (i c p : ℕ) (w : List ℤ) → 1 ≤ i → Between i c w → p < length w → odd (negatives (from p negate_first w)) ≡ not (odd (negatives w))
unfolding from negate_first negatives negative
odd_negated i c p [] o h l = absurd (omega arith)
odd_negated i c zero (pos zero ∷ w) o h l = absurd (omega arith)
odd_negated i c zero (pos (suc x) ∷ w) o h l = rw (odd-one_add true (negatives w), odd-one_add false (negatives w))
odd_negated i c zero (negsuc x ∷ w) o h l = rw (odd-one_add true (negatives w), odd-one_add false (negatives w), not-not)
odd_negated i c (suc p) (x ∷ w) o h l =
    odd-one_add_not (negative x) (negatives (from p negate_first w)) (negatives w) (odd_negated i c p w o h.2 (omega arith))

-- ---- what is left when one level is peeled off

-- in D the last entry changes its sign, as under the last step of B
same_sizes_rest_of : (k : Kind) (e : ℤ) (w : List ℤ) → SameSizes (rest_of k e w) w
unfolding rest_of act
same_sizes_rest_of A e w = same_sizes_refl w
same_sizes_rest_of B e w = same_sizes_refl w
same_sizes_rest_of D (pos x) w = same_sizes_refl w
same_sizes_rest_of D (negsuc x) w = rw (eq-eqb (length w) (length w) refl) at (same_sizes_act B (length w) (length w) w)

pub length-rest_of : (k : Kind) (e : ℤ) (w : List ℤ) → length (rest_of k e w) ≡ length w
length-rest_of k e w = (same_sizes_rest_of k e w).count

pub between-rest_of : (k : Kind) (e : ℤ) (i c : ℕ) (w : List ℤ) → Between i c w → Between i c (rest_of k e w)
between-rest_of k e i c w = (same_sizes_rest_of k e w).between i c

pub rest_of-rest_of : (k : Kind) (e : ℤ) (w : List ℤ) → rest_of k e (rest_of k e w) ≡ w
unfolding rest_of
rest_of-rest_of A e w = refl
rest_of-rest_of B e w = refl
rest_of-rest_of D (pos x) w = refl
rest_of-rest_of D (negsuc x) w =
    rw (length_from negate_first length-negate_first (length w - 1) w) (from_involution negate_first negate_first_involution (length w - 1) w)

pub negatives_middle : (u : List ℤ) (e : ℤ) (v : List ℤ) → negatives (u ++ (e ∷ v)) ≡ one (negative e) + negatives (u ++ v)
unfolding negatives
negatives_middle [] e v = refl
negatives_middle (x ∷ u) e v = rw (negatives_middle u e v) (omega arith)

-- w stands at positions i, i + 1, .. of a window whose entries 1, .., i − 1 stand still
pub record AtLevel (k : Kind) (n i : ℕ) (w : List ℤ) : Type 0 where
  pub size : length w + i ≡ suc (lanes k n)
  pub level : Level i w
  pub signs : Signs k w

pub at_level_of_accepted : (k : Kind) (n : ℕ) (w : List ℤ) → Accepted k n w → AtLevel k n 1 w
at_level_of_accepted k n w h = record { size = omega arith; level = h.level; signs = h.signs }

pub levels_le_lanes : (k : Kind) (n : ℕ) → levels k n ≤ lanes k n
levels_le_lanes A n = omega arith
levels_le_lanes B n = omega arith
levels_le_lanes D n = omega arith

-- each level has an entry of its size
pub peeled : (k : Kind) (n i : ℕ) (w : List ℤ) → i ≤ levels k n → AtLevel k n i w → Peeled i w
peeled k n i w l h = peeled_of_has_size i w (level_has_size i i w h.level (omega arith) (omega (arith, h.size, levels_le_lanes k n)))

signs_rest : (k : Kind) (n i : ℕ) (u : List ℤ) (e : ℤ) (v : List ℤ) → 1 ≤ i → i ≤ levels k n → AtLevel k n i (u ++ (e ∷ v)) → Signs k (rest_of k e (u ++ v))
unfolding rest_of negative
signs_rest A n i u e v o l h = let q : one (negative e) + negatives (u ++ v) ≡ 0 = rw negatives_middle at h.signs in omega arith
signs_rest B n i u e v o l h = tt
signs_rest D n i u (pos x) v o l h = rw (negatives_middle u (pos x) v, odd-one_add false (negatives (u ++ v))) at h.signs
signs_rest D n i u (negsuc x) v o l h =
    let q : odd (one true + negatives (u ++ v)) ≡ false = rw (negatives_middle u (negsuc x) v) at h.signs in
    let b : Between i (i + length (u ++ (negsuc x ∷ v))) (u ++ v) = between_out i _ u (negsuc x) v h.level.between in
    odd_negated i _ (length (u ++ v) - 1) (u ++ v) o b (omega (arith, h.size, length-append u (negsuc x ∷ v), length-append u v))
    ∙ (sym (odd-one_add true (negatives (u ++ v))) ∙ q)

-- what is left stands at the next level
pub at_level_rest : {k : Kind} {n i : ℕ} (u : List ℤ) (e : ℤ) (v : List ℤ) → 1 ≤ i → i ≤ levels k n → nat_abs e ≡ i → AtLevel k n i (u ++ (e ∷ v))
    → AtLevel k n (suc i) (rest_of k e (u ++ v))
at_level_rest {k} {n} {i} u e v o l q h =
    let c : i + length (u ++ (e ∷ v)) ≡ suc i + length (rest_of k e (u ++ v)) =
    omega (arith, length-rest_of k e (u ++ v), length-append u (e ∷ v), length-append u v) in
    let b : Between i (suc i + length (rest_of k e (u ++ v))) (u ++ v) = rw c at (between_out i _ u e v h.level.between) in
    let d : (has_size (nat_abs e) (u ++ v) ≡ false) × Distinct (u ++ v) = distinct_out u e v h.level.distinct in
    record {
      size = omega (arith, h.size);
      level = record {
        between = between-rest_of k e (suc i) _ (u ++ v) (between-suc i _ (u ++ v) b (rw q at d.0));
        distinct = (same_sizes_rest_of k e (u ++ v)).distinct d.1;
      };
      signs = signs_rest k n i u e v o l h;
    }

-- no entry of A is negative
pub at_level_negative_in_A : (k : Kind) (n i : ℕ) (u : List ℤ) (e : ℤ) (v : List ℤ) → AtLevel k n i (u ++ (e ∷ v)) → negative_in_A k e ≡ false
unfolding negative_in_A one
at_level_negative_in_A A n i u e v h = at_level_negative_in_A_by_cases (negative e) (rw negatives_middle at h.signs)
  where
    at_level_negative_in_A_by_cases : (t : Bool) → one t + negatives (u ++ v) ≡ 0 → t ≡ false
    at_level_negative_in_A_by_cases true q = absurd (omega arith)
    at_level_negative_in_A_by_cases false q = refl
at_level_negative_in_A B n i u e v h = refl
at_level_negative_in_A D n i u e v h = refl

last_positive : (k : Kind) (n i : ℕ) (e : ℤ) → i ≡ suc (levels k n) → AtLevel k n i (e ∷ []) → e ≡ pos (nat_abs e)
unfolding negatives negative one odd
last_positive k n i (pos x) l h = refl
last_positive A n i (negsuc x) l h = absurd (omega (arith, h.signs))
last_positive B n i (negsuc x) l h = absurd (omega (arith, h.size))
last_positive D n i (negsuc x) l h = let q : true ≡ false = h.signs in cc

-- past the last level all entries stand still
pub at_level_last : (k : Kind) (n i : ℕ) (w : List ℤ) → i ≡ suc (levels k n) → AtLevel k n i w → w ≡ map pos (up i (length w))
unfolding up
at_level_last k n i [] l h = refl
at_level_last k n i (e ∷ []) l h =
    let q : nat_abs e ≡ i = omega (arith, h.level.between) in
    ap (λ (x : ℤ). x ∷ []) (last_positive k n i e l h ∙ ap pos q)
at_level_last k n i (e ∷ (f ∷ w)) l h = absurd (no k l h.size)
  where
    no : (k : Kind) → i ≡ suc (levels k n) → suc (suc (length w)) + i ≡ suc (lanes k n) → ⊥
    no A l q = omega arith
    no B l q = omega arith
    no D l q = omega arith
