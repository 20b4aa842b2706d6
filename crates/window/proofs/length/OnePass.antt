-- The pass that counts crossings: from the last entry to the first, with the set of the sizes behind and sums over
-- the entries behind, and what keeps the sums small.
--
-- Sections: one entry against those behind it; all entries; the pass.
-- Assumes nothing.
use mathlib.Core.Path.{◌≡◌, refl, sym, ap, ◌∙◌}
use mathlib.Core.Bool.{Bool, true, false}
use mathlib.Core.List.{List, [], ◌∷◌, map}
use Prim.Native.Nat.{ℕ, zero, suc, ◌+◌, ◌-◌, ◌*◌, ◌/◌, ◌^◌, ◌≤◌, ◌<◌}
use native.Mathlib.Nat.{zero-add, suc-add, add-zero, le_refl, suc-mul, mul-suc}
use native.Mathlib.Omega.{arith}
use lib.Bits.{bit_or}
use lib.Count.{ones}
use lib.IntN.{ℤ, pos, nat_abs}
use lib.ListN.{length, length-map, length-drop, get_or, drop, drop_of_length-le}
use Rattle.coxeter.specs.declared.Kind.TheVariants.{B}
use Rattle.coxeter.specs.Kinds.{pick}
use Rattle.coxeter.specs.Length.{negative, one, inversions, negative_sum_pairs, negatives}
use Rattle.coxeter.specs.Checks.{WindowOf}
use Rattle.coxeter.proofs.Levels.{Between, Distinct, accepted_of_refusal}
use Rattle.coxeter.proofs.PairWeights.{weights, pair_weights, negatives_le}
use Rattle.coxeter.proofs.NegativeSums.{lack_of_negatives, negative_sum_pairs_level}
use Rattle.window.proofs.length.Behind as back
use Rattle.window.proofs.length.Behind.{Behind}
use Rattle.window.proofs.length.SizeSets.{size_set, size_set_nil, from_size, from_size_add_smaller}
use Rattle.window.proofs.length.Sums.{smaller, behind, weights-behind, between-drop, distinct_drop, square_fits, both_pairs, both_pairs_is_pair_weights}

-- ---- one entry against those behind it

-- an entry makes as many pairs as there are entries behind, and of those that are larger in size as many more if it
-- is negative, and fewer if not
weights-from : (m : ℕ) (x : ℤ) (w : List ℤ) → 1 ≤ nat_abs x → nat_abs x ≤ m → Between 1 (1 + m) w → Distinct w
    → weights x w + pick (negative x) 0 (from_size m (nat_abs x) w) ≡ length w + pick (negative x) (from_size m (nat_abs x) w) 0
unfolding behind
weights-from m x w a c b d =
    rw (weights-behind x w, length-map w nat_abs)
    (weights-from_by_sign (negative x) (smaller (nat_abs x) (map nat_abs w)) (from_size_add_smaller m (nat_abs x) w a c b d))
  where
    weights-from_by_sign : (t : Bool) (s : ℕ) → from_size m (nat_abs x) w + s ≡ length w
        → pick t (2 * length w - s) s + pick t 0 (from_size m (nat_abs x) w) ≡ length w + pick t (from_size m (nat_abs x) w) 0
    weights-from_by_sign true s e = omega arith
    weights-from_by_sign false s e = omega arith

-- ---- all entries

-- the pairs of n things
unfoldable pub triangle : ℕ → ℕ
triangle zero = 0
triangle (suc n) = n + triangle n

triangle_square : (n : ℕ) → 2 * triangle n + n ≡ n * n
unfolding triangle
triangle_square zero = refl
triangle_square (suc n) = omega (arith, triangle_square n, suc-mul n (suc n), mul-suc n n)

triangle_le : (n d : ℕ) → triangle n ≤ triangle (d + n)
unfolding triangle
triangle_le n zero = rw (zero-add n) (le_refl (triangle n))
triangle_le n (suc d) = rw (suc-add d n) (omega (arith, triangle_le n d))

-- the entries behind that are larger in size, summed over the negative entries and over the others
unfoldable pub raised : ℕ → List ℤ → ℕ
raised m [] = 0
raised m (e ∷ w) = pick (negative e) (from_size m (nat_abs e) w) 0 + raised m w

unfoldable pub lowered : ℕ → List ℤ → ℕ
lowered m [] = 0
lowered m (e ∷ w) = pick (negative e) 0 (from_size m (nat_abs e) w) + lowered m w

pair_weights_pass : (m : ℕ) (w : List ℤ) → Between 1 (1 + m) w → Distinct w → pair_weights w + lowered m w ≡ triangle (length w) + raised m w
unfolding pair_weights raised lowered triangle
pair_weights_pass m [] b d = refl
pair_weights_pass m (x ∷ w) b d =
    omega (arith, weights-from m x w b.0 (omega (arith, b.1)) b.2 d.1, pair_weights_pass m w b.2 d.1)

-- no more pairs are taken off or added than there are
changes_le : (m : ℕ) (w : List ℤ) → Between 1 (1 + m) w → Distinct w → raised m w + lowered m w ≤ triangle (length w)
unfolding raised lowered triangle
changes_le m [] b d = omega arith
changes_le m (e ∷ w) b d =
    changes_le_by_sign (negative e) (from_size_add_smaller m (nat_abs e) w b.0 (omega (arith, b.1)) b.2 d.1) (changes_le m w b.2 d.1)
  where
    changes_le_by_sign : (t : Bool) → from_size m (nat_abs e) w + smaller (nat_abs e) (map nat_abs w) ≡ length w → raised m w + lowered m w ≤ triangle (length w)
        → pick t (from_size m (nat_abs e) w) 0 + raised m w + (pick t 0 (from_size m (nat_abs e) w) + lowered m w) ≤ length w + triangle (length w)
    changes_le_by_sign true q r = omega arith
    changes_le_by_sign false q r = omega arith

lack_le : (m : ℕ) (w : List ℤ) → m ≤ 64 → lack_of_negatives m w ≤ 64 * length w
unfolding lack_of_negatives
lack_le m [] l = omega arith
lack_le m (e ∷ w) l = lack_le_by_sign (negative e) (lack_le m w l)
  where
    lack_le_by_sign : (t : Bool) → lack_of_negatives m w ≤ 64 * length w → pick t (m - nat_abs e) 0 + lack_of_negatives m w ≤ 64 * suc (length w)
    lack_le_by_sign true r = omega arith
    lack_le_by_sign false r = omega arith

-- ---- the pass

-- the entries from j on were gone through: their sizes as a set, all pairs of entries with what they add and take
-- off, and two sums over them
pub record Gone (w : List ℤ) (set pairs lack minus j : ℕ) : Type 0 where
  pub inside : j ≤ length w
  pub set_is : set ≡ size_set (length w) 1 (drop j w)
  pub pairs_is : pairs + lowered (length w) (drop j w) ≡ triangle (length w) + raised (length w) (drop j w)
  pub lack_is : lack ≡ lack_of_negatives (length w) (drop j w)
  pub minus_is : minus ≡ negatives (drop j w)

half_square : (m : ℕ) → (m * m - m) / 2 ≡ triangle m
half_square m = omega (arith, triangle_square m)

pub gone_none : (w : List ℤ) → Gone w 0 ((length w * length w - length w) / 2) 0 0 (length w)
unfolding raised lowered lack_of_negatives negatives
gone_none w =
    let none = drop_of_length-le w (le_refl (length w)) in
    record {
      inside = le_refl (length w);
      set_is = rw none (sym (size_set_nil (length w) 1));
      pairs_is = rw (none, half_square (length w));
      lack_is = rw none;
      minus_is = rw none;
    }

-- one entry further to the front: the entry at j - 1, of size s
module _ {w : List ℤ} {set pairs lack minus j s : ℕ} (h : Gone w set pairs lack minus j) (p : 0 < j) (few : length w ≤ 64)
    (g : WindowOf B (length w) w) (q : s ≡ nat_abs (get_or w (j - 1) (pos 0))) where
  abbrev e : ℤ
  e = get_or w (j - 1) (pos 0)

  abbrev m : ℕ
  m = length w

  gone : Behind w set j
  gone = record { inside = h.inside; set_is = h.set_is }

  next : drop (j - 1) w ≡ e ∷ drop j w
  next = back.next w set j s gone p g q

  pub size_bounds : (1 ≤ s) × (s ≤ m)
  size_bounds = back.size_bounds w set j s gone p g q

  pub set_fits : set < 2 ^ m
  set_fits = back.set_fits w set j s gone p g q

  -- with this entry too no more pairs are taken off or added than there are
  changes : raised m (e ∷ drop j w) + lowered m (e ∷ drop j w) ≤ triangle m
  changes =
      let a = (accepted_of_refusal B m w g).level in
      let front : j - 1 + length (drop (j - 1) w) ≡ m = omega (arith, length-drop (j - 1) w, h.inside) in
      let u = drop (j - 1) w in
      let own = changes_le m u (between-drop 1 (1 + m) (j - 1) w a.between) (distinct_drop (j - 1) w a.distinct) in
      let all : raised m u + lowered m u ≤ triangle m = omega (arith, own, rw front at (triangle_le (length u) (j - 1))) in
      rw next at all

  triangle-fits : triangle m ≤ 4096
  triangle-fits = omega (arith, square_fits m few, triangle_square m)

  pub sums_fit : (lack ≤ 4096) × (minus ≤ 64)
  sums_fit =
      let u = drop j w in
      let l = length-drop j w in (omega (arith, h.lack_is, lack_le m u few), omega (arith, h.minus_is, negatives_le u))

  module _ {l : ℕ} (r : l ≡ ones (set / 2 ^ (s - 1))) where
    from : l ≡ from_size m (nat_abs e) (drop j w)
    from = back.larger_is w set j s gone p g q l r

    gone_next : (t : Bool) → negative e ≡ t → (o : ℕ) → o + pick t 0 l ≡ pairs + pick t l 0
        → Gone w (bit_or set (2 ^ (s - 1))) o (lack + pick t (m - s) 0) (minus + pick t 1 0) (j - 1)
    unfolding raised lowered lack_of_negatives negatives one
    gone_next t n o c =
        record {
          inside = omega (arith, h.inside);
          set_is = (back.behind_next w set j s gone p g q).set_is;
          pairs_is = rw (next, n, sym from) (omega (arith, h.pairs_is, c));
          lack_is = rw (next, n, sym q) (omega (arith, h.lack_is));
          minus_is = rw (next, n) (omega (arith, h.minus_is));
        }

    pub gone_negative : {t : Bool} → t ≡ negative e → t ≡ true
        → Gone w (bit_or set (2 ^ (s - 1))) (pairs + l) (lack + (m - s)) (minus + 1) (j - 1)
    gone_negative n y = gone_next true (sym n ∙ y) (pairs + l) (omega arith)

    module _ {t : Bool} (n : t ≡ negative e) (y : t ≡ false) where
      -- as many are left as are taken off
      pub left : l ≤ pairs
      unfolding raised lowered
      left = omega (arith, rw (sym n ∙ y, sym from) at changes, h.pairs_is)

      pub gone_positive : Gone w (bit_or set (2 ^ (s - 1))) (pairs - l) lack minus (j - 1)
      gone_positive =
          rw (add-zero lack, add-zero minus) at (gone_next false (sym n ∙ y) (pairs - l) (omega (arith, left)))

    module _ {t : Bool} (n : t ≡ negative e) (y : t ≡ true) where
      pub pairs_fit : pairs + l ≤ 8192
      unfolding raised lowered
      pairs_fit = omega (arith, rw (sym n ∙ y, sym from) at changes, h.pairs_is, triangle-fits)

-- all entries were gone through
pub parts : {w : List ℤ} {set pairs lack minus j : ℕ} → Gone w set pairs lack minus j → j ≡ 0 → length w ≤ 64 → WindowOf B (length w) w
    → (pairs ≡ inversions w + negative_sum_pairs w) × (lack ≡ negative_sum_pairs w) × (minus ≡ negatives w)
unfolding both_pairs
parts {w} {j} h z few g =
    let m = length w in
    let a = (accepted_of_refusal B m w g).level in
    let whole : drop j w ≡ w = rw z in (
      omega (arith, rw whole at h.pairs_is, both_pairs_is_pair_weights w g, pair_weights_pass m w a.between a.distinct),
      h.lack_is ∙ ap (lack_of_negatives m) whole ∙ sym (negative_sum_pairs_level w a),
      h.minus_is ∙ ap negatives whole,
    )
