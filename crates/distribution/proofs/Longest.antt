-- The longest window: a window has the greatest length only if the index of each level is the last one, so there is
-- at most one; and the window that is defined as the longest has that length, by the weights of its pairs.
-- Sections: at most one; entries that fall; negative entries; the longest window.
-- Assumes nothing.
use mathlib.Core.Path.{◌≡◌, refl, sym, ap, ap₂, ◌∙◌}
use mathlib.Core.Bool.{Bool, true, false}
use mathlib.Core.List.{List, [], ◌∷◌, map}
use Prim.Native.Nat.{ℕ, zero, suc, ◌+◌, ◌-◌, ◌*◌, ◌≤◌, ◌<◌}
use native.Mathlib.Omega.{arith}
use native.Mathlib.Nat.{suc-mul, mul-suc, add-mul, mul-sub}
use native.Mathlib.Numerals.{lt_of_le_of_ne}
use borrow.Author.Tests.{lt-ltb, le-ltb, ltb-true, ltb-false, not-true}
use lib.Dec.{ltb}
use lib.IntN.{ℤ, pos, negsuc, nat_abs}
use lib.ListN.{length, length-map}
use Rattle.coxeter.specs.declared.Kind.{Kind}
use Rattle.coxeter.specs.declared.Kind.TheVariants.{A, B, D}
use Rattle.coxeter.specs.Kinds.{pick, least, up}
use Rattle.coxeter.specs.Windows.{from, negate_first}
use Rattle.coxeter.specs.Length.{negative, one, negatives, window_length, greatest_length}
use Rattle.coxeter.specs.Checks.{odd}
use Rattle.coxeter.specs.NormalForm.{down, levels, last_index, Indices, none, level, normal_form}
use Rattle.coxeter.proofs.Basics.{length_up}
use Rattle.coxeter.proofs.Sizes.{negatives-map_pos}
use Rattle.coxeter.proofs.Levels.{Between, Distinct, Level, Accepted, accepted_of_refusal, refusal_of_accepted}
use Rattle.coxeter.proofs.Levels.{has_size-below, SameSizes, same_sizes_from, same_sizes_negate_first, level_of_same_sizes}
use Rattle.coxeter.proofs.Places.{has_size_beyond}
use Rattle.coxeter.proofs.PairWeights.{weight, weights, pair_weights, sign_weight, length_by_weights}
use Rattle.coxeter.proofs.Lengths.{block_length, length-normal_form, pair_weights_negate_last}
use Rattle.coxeter.proofs.Indices.{length_of_indices, window-indices, indices_in_range}
use Rattle.coxeter.proofs.GreatestLengths.{greatest_indices, window_length_le}
use Rattle.coxeter.proofs.FormLaws.{block_lengths, window_length-blocks}
use Rattle.distribution.specs.Longest.{IsLongest, all_negative, longest}
use Rattle.distribution.proofs.IndexLists.{shown, indices_of}
use Rattle.distribution.proofs.BothEnds.{last_indices, block_length-opposite, block_lengths-opposite, block_lengths-greatest}

-- ---- at most one

last_of_length : (k : Kind) (n i j : ℕ) → 1 ≤ i → i ≤ levels k n → i ≤ suc j → j ≤ last_index k n i
    → block_length k n i (last_index k n i) ≤ block_length k n i j → j ≡ last_index k n i
last_of_length A n i j o h a b l = omega arith
last_of_length B n i j o h a b l = omega arith
last_of_length D n i j o h a b l = last_of_length_by_cases (ltb j n) refl (rw (le-ltb (2 * n - i) n (omega arith)) at l)
  where
    last_of_length_by_cases : (t : Bool) → ltb j n ≡ t → 2 * n - i - i ≤ block_length D n i j → j ≡ 2 * n - i
    last_of_length_by_cases true e q = let g = ltb-true j n e in absurd (omega (arith, rw (lt-ltb j n g) at q))
    last_of_length_by_cases false e q = let g = ltb-false j n e in omega (arith, rw (le-ltb j n g) at q)

last-indices : (k : Kind) (n : ℕ) {i : ℕ} {js : List ℕ} → 1 ≤ i → Indices k n i js
    → block_lengths k n i (last_indices k n i (length js)) ≤ block_lengths k n i js → js ≡ last_indices k n i (length js)
unfolding block_lengths up
last-indices k n o (none e) l = refl
last-indices k n {i} o (level {j = j} {js = js} a b c d) l =
    let first = block_length-opposite k n i j o a b c in
    let rest = block_lengths-opposite k n {i = suc i} {js = js} (omega arith) d in
    ap₂ (λ (x : ℕ) (xs : List ℕ). x ∷ xs) (last_of_length k n i j o a b c (omega arith)) (last-indices k n (omega arith) d (omega arith))

greatest-indices : (k : Kind) (n : ℕ) (w : List ℤ) → least k ≤ n → Accepted k n w → window_length k w ≡ greatest_length k n
    → indices_of k n w ≡ greatest_indices k n
unfolding greatest_indices
greatest-indices k n w h a e =
    let d = indices_in_range k n w a in
    let l : length (indices_of k n w) ≡ levels k n = omega (arith, length_of_indices k n d) in
    last-indices k n (omega arith) d (rw l (omega (arith, block_lengths-greatest k n h, window_length-blocks k n w a)))
    ∙ ap (last_indices k n 1) l

pub longest_unique : (k : Kind) (n : ℕ) (v w : List ℤ) → least k ≤ n → Accepted k n v → Accepted k n w
    → window_length k v ≡ greatest_length k n → window_length k w ≡ greatest_length k n → v ≡ w
longest_unique k n v w h a b p q =
    sym (window-indices k n v a)
    ∙ ap (shown k n) (greatest-indices k n v h a p ∙ sym (greatest-indices k n w h b q))
    ∙ window-indices k n w b

-- ---- entries that fall

pub falling_suc : (m : ℕ) → map pos (down (suc m) (suc m)) ≡ pos (suc m) ∷ map pos (down m m)
unfolding down
falling_suc m = let e : suc m - 1 ≡ m = omega arith in rw e

pub length_falling : (m : ℕ) → length (map pos (down m m)) ≡ m
length_falling zero = unfold down in refl
length_falling (suc m) = ap length (falling_suc m) ∙ ap suc (length_falling m)

between_falling : (m c : ℕ) → m < c → Between 1 c (map pos (down m m))
between_falling zero c h = unfold down in tt
between_falling (suc m) c h = rw (falling_suc m) (omega arith, h, between_falling m c (omega arith))

distinct_falling : (m : ℕ) → Distinct (map pos (down m m))
distinct_falling zero = unfold down in tt
distinct_falling (suc m) =
    rw (falling_suc m)
    (has_size_beyond 1 (suc m) (suc m) (map pos (down m m)) (omega arith) (between_falling m (suc m) (omega arith)), distinct_falling m)

weights-smaller : (i : ℕ) (x : ℤ) (w : List ℤ) → Between i (nat_abs x) w → weights x w ≡ length w
unfolding weights weight
weights-smaller i x [] b = refl
weights-smaller i x (y ∷ w) b = rw (lt-ltb (nat_abs y) (nat_abs x) b.1) (omega (arith, weights-smaller i x w b.2))

pair_weights_falling : (m : ℕ) → 2 * pair_weights (map pos (down m m)) + m ≡ m * m
unfolding pair_weights
pair_weights_falling zero = unfold down in refl
pair_weights_falling (suc m) =
    let first = weights-smaller 1 (pos (suc m)) (map pos (down m m)) (between_falling m (suc m) (omega arith)) in
    rw (falling_suc m, first, length_falling m) (omega (arith, pair_weights_falling m, suc-mul m (suc m), mul-suc m m))

-- ---- negative entries

between-negative : (i m j c : ℕ) → j ≤ suc i → i + m < c → Between j c (map negsuc (up i m))
unfolding up
between-negative i zero j c h g = tt
between-negative i (suc m) j c h g = (h, omega arith, between-negative (suc i) m j c (omega arith) (omega arith))

distinct_negative : (i m : ℕ) → Distinct (map negsuc (up i m))
unfolding up
distinct_negative i zero = tt
distinct_negative i (suc m) = (
  has_size-below (suc (suc i)) (suc (suc i + m)) (suc i) (map negsuc (up (suc i) m)) (omega arith)
      (between-negative (suc i) m (suc (suc i)) (suc (suc i + m)) (omega arith) (omega arith)),
  distinct_negative (suc i) m,
)

negatives-negative : (i m : ℕ) → negatives (map negsuc (up i m)) ≡ m
unfolding up negatives negative one
negatives-negative i zero = refl
negatives-negative i (suc m) = omega (arith, negatives-negative (suc i) m)

-- with the sign of the last one changed
negatives-turned : (i m : ℕ) → negatives (from m negate_first (map negsuc (up i (suc m)))) ≡ m
unfolding up from negate_first negatives negative one
negatives-turned i zero = refl
negatives-turned i (suc m) = omega (arith, negatives-turned (suc i) m)

weights-negative : (i j m : ℕ) → i ≤ j → weights (negsuc i) (map negsuc (up j m)) ≡ 2 * m
unfolding up weights weight negative
weights-negative i j zero h = refl
weights-negative i j (suc m) h = rw (le-ltb (suc j) (suc i) (omega arith)) (omega (arith, weights-negative i (suc j) m (omega arith)))

pair_weights-negative : (i m : ℕ) → pair_weights (map negsuc (up i m)) + m ≡ m * m
unfolding up pair_weights
pair_weights-negative i zero = refl
pair_weights-negative i (suc m) =
    omega (arith, weights-negative i (suc i) m (omega arith), pair_weights-negative (suc i) m, suc-mul m (suc m), mul-suc m m)

pub length-all_negative : (n : ℕ) → length (all_negative n) ≡ n
unfolding all_negative
length-all_negative n = length-map (up 0 n) negsuc ∙ length_up 0 n

level_all_negative : (n : ℕ) → Level 1 (all_negative n)
unfolding all_negative
level_all_negative n =
    record {
      between = between-negative 0 n 1 (1 + length (all_negative n)) (omega arith) (omega (arith, length-all_negative n));
      distinct = distinct_negative 0 n;
    }

-- the last entry turned
turned : ℕ → List ℤ
turned n = from (n - 1) negate_first (all_negative n)

same_turned : (n : ℕ) → SameSizes (turned n) (all_negative n)
unfolding turned
same_turned n = same_sizes_from negate_first same_sizes_negate_first (n - 1) (all_negative n)

-- ---- the longest window

signs_turned : (n : ℕ) → 1 ≤ n → odd n ≡ true → odd (negatives (turned n)) ≡ false
unfolding turned all_negative odd
signs_turned zero h o = absurd (omega arith)
signs_turned (suc m) h o = let e : suc m - 1 ≡ m = omega arith in rw (e, negatives-turned 0 m) (not-true (odd m) o)

accepted_turned : (n : ℕ) (t : Bool) → 1 ≤ n → odd n ≡ t → Accepted D n (pick t (turned n) (all_negative n))
accepted_turned n true h o =
    let s = same_turned n in
    record {
      size = s.count ∙ length-all_negative n;
      level = level_of_same_sizes 1 (turned n) (all_negative n) s (level_all_negative n);
      signs = signs_turned n h o;
    }
accepted_turned n false h o =
    record { size = length-all_negative n; level = level_all_negative n; signs = unfold all_negative in rw (negatives-negative 0 n) o }

pub longest_accepted : (k : Kind) (n : ℕ) → least k ≤ n → Accepted k n (longest k n)
unfolding longest
longest_accepted A n h =
    record {
      size = length_falling (n + 1);
      level = record { between = between_falling (n + 1) _ (omega (arith, length_falling (n + 1))); distinct = distinct_falling (n + 1) };
      signs = negatives-map_pos (down (n + 1) (n + 1));
    }
longest_accepted B n h = record { size = length-all_negative n; level = level_all_negative n; signs = tt }
longest_accepted D n h = unfold turned in accepted_turned n (odd n) (omega arith) refl

pair_weights-turned : (n : ℕ) (t : Bool) → pair_weights (pick t (turned n) (all_negative n)) ≡ pair_weights (all_negative n)
unfolding turned
pair_weights-turned n true =
    ap (λ (m : ℕ). pair_weights (from (m - 1) negate_first (all_negative n))) (sym (length-all_negative n)) ∙ pair_weights_negate_last (all_negative n)
pair_weights-turned n false = refl

weights-longest : (k : Kind) (n : ℕ) → least k ≤ n → pair_weights (longest k n) + sign_weight k (longest k n) ≡ greatest_length k n
unfolding longest sign_weight all_negative turned
weights-longest A n h = omega (arith, pair_weights_falling (n + 1), add-mul n 1 (n + 1))
weights-longest B n h = omega (arith, pair_weights-negative 0 n, negatives-negative 0 n)
weights-longest D n h = omega (arith, pair_weights-turned n (odd n), pair_weights-negative 0 n, mul-sub n n 1)

pub window_length-longest : (k : Kind) (n : ℕ) → least k ≤ n → window_length k (longest k n) ≡ greatest_length k n
window_length-longest k n h = length_by_weights k n (longest k n) (longest_accepted k n h) ∙ weights-longest k n h

-- Y4, at every rank
pub longest_is : (k : Kind) (n : ℕ) → least k ≤ n → IsLongest k n (longest k n)
longest_is k n h =
    record {
      passes = refusal_of_accepted k n (longest k n) a;
      greatest = window_length-longest k n h;
      form = length-normal_form k n (longest k n) a ∙ window_length-longest k n h;
      only = λ v p f. shorter v (accepted_of_refusal k n v p) f;
    }
  where
    a : Accepted k n (longest k n)
    a = longest_accepted k n h

    shorter : (v : List ℤ) → Accepted k n v → (v ≡ longest k n → ⊥) → length (normal_form k n v) < length (normal_form k n (longest k n))
    shorter v b f =
        let other : window_length k v ≡ greatest_length k n → ⊥ = λ e. f (longest_unique k n v (longest k n) h b a e (window_length-longest k n h)) in
        let l : window_length k v < greatest_length k n = lt_of_le_of_ne (window_length_le k n v b) other in
        omega (arith, length-normal_form k n v b, length-normal_form k n (longest k n) a, window_length-longest k n h)

-- it is the only such window
pub longest_only : (k : Kind) (n : ℕ) (w : List ℤ) → least k ≤ n → IsLongest k n w → w ≡ longest k n
longest_only k n w h l =
    longest_unique k n w (longest k n) h (accepted_of_refusal k n w l.passes) (longest_accepted k n h) l.greatest (window_length-longest k n h)
