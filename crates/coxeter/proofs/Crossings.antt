-- What a swap and a change of signs do to the sum over the pairs (PairWeights): of all pairs only the one that
-- is swapped weighs differently afterwards, by one. By cases on the two signs, and by recursion on the position.
--
-- Sections: one pair; all pairs; two neighbouring entries; the weights of the pair.
-- Not here: the steps of the kinds, and the length (Descents).
-- Assumes nothing.
use mathlib.Core.Path.{◌≡◌, refl, sym, ap, ◌∙◌}
use mathlib.Core.Bool.{Bool, true, false, not}
use mathlib.Core.List.{List, [], ◌∷◌}
use Prim.Native.Nat.{ℕ, zero, suc, ◌+◌, ◌≤◌, ◌<◌}
use native.Mathlib.Omega.{arith}
use lib.Dec.{ltb, leb-suc-suc}
use lib.IntN.{ℤ, pos, negsuc, neg_ℤ, nat_abs, neg_ℤ-neg_ℤ}
use lib.ListN.{length, get_or, drop}
use lib.Seq.{drop-cons}
use borrow.Author.Tests.{ne_eqb, eqb-false, ltb-true, ltb-false, lt-ltb, le-ltb}
use Rattle.coxeter.specs.declared.Kind.{Kind}
use Rattle.coxeter.specs.declared.Kind.TheVariants.{A, B, D}
use Rattle.coxeter.specs.Windows.{from, swap, negate_first, swap_negate}
use Rattle.coxeter.specs.Length.{later, negative, one, later_than, negatives}
use Rattle.coxeter.specs.Checks.{has_size}
use Rattle.coxeter.proofs.Sizes.{nat_abs-neg_ℤ, has_size-head, negatives-from-swap}
use Rattle.coxeter.proofs.Levels.{Distinct, Level}
use Rattle.coxeter.proofs.Places.{between-get_or}
use Rattle.coxeter.proofs.PairWeights.{weight, weights, pair_weights, sign_weight, later_than_add}

-- ---- one pair

ltb_flip : (a b : ℕ) → (a ≡ b → ⊥) → ltb a b ≡ not (ltb b a)
ltb_flip a b d = ltb_flip_by_cases (ltb b a) refl
  where
    ltb_flip_by_cases : (t : Bool) → ltb b a ≡ t → ltb a b ≡ not t
    ltb_flip_by_cases true e = le-ltb a b (omega (arith, ltb-true b a e))
    ltb_flip_by_cases false e = lt-ltb a b (omega (arith, ltb-false b a e))

-- of two entries of different sizes one stands later
pub later_flip : (x y : ℤ) → (nat_abs y ≡ nat_abs x → ⊥) → later y x ≡ not (later x y)
unfolding later
later_flip (pos a) (pos b) d = ltb_flip a b (λ e. d (sym e))
later_flip (pos a) (negsuc b) d = refl
later_flip (negsuc a) (pos b) d = refl
later_flip (negsuc a) (negsuc b) d = ltb_flip b a (λ e. d (ap suc e))

pub negative_flip : (x : ℤ) → 1 ≤ nat_abs x → negative (neg_ℤ x) ≡ not (negative x)
unfolding negative
negative_flip (pos zero) h = absurd (omega arith)
negative_flip (pos (suc a)) h = refl
negative_flip (negsuc a) h = refl

-- minus the entries stand the other way round
later_negate : (x y : ℤ) → 1 ≤ nat_abs x → 1 ≤ nat_abs y → later x (neg_ℤ y) ≡ later y (neg_ℤ x)
unfolding later
later_negate (pos zero) y a b = absurd (omega arith)
later_negate (pos (suc x)) (pos zero) a b = absurd (omega arith)
later_negate (pos (suc x)) (pos (suc y)) a b = refl
later_negate (pos (suc x)) (negsuc y) a b = leb-suc-suc (suc y) x
later_negate (negsuc x) (pos zero) a b = absurd (omega arith)
later_negate (negsuc x) (pos (suc y)) a b = sym (leb-suc-suc (suc x) y)
later_negate (negsuc x) (negsuc y) a b = refl

-- the two sorts of pairs of an entry before another
weight-later : (x y : ℤ) → 1 ≤ nat_abs y → (nat_abs y ≡ nat_abs x → ⊥) → weight x y ≡ one (later x y) + one (later x (neg_ℤ y))
unfolding later_than weights has_size
weight-later x y h d =
    let sums = later_than_add x (y ∷ []) (rw (ne_eqb (nat_abs y) 0 (omega arith))) (rw (ne_eqb (nat_abs y) (nat_abs x) d)) in
    omega arith

-- the pair swapped
weight-swap : (x y : ℤ) → 1 ≤ nat_abs x → 1 ≤ nat_abs y → (nat_abs y ≡ nat_abs x → ⊥)
    → weight y x + one (later x y) ≡ weight x y + one (later y x)
weight-swap x y a b d =
    let same = ap one (later_negate x y a b) in
    omega (arith, weight-later x y b d, weight-later y x a (λ e. d (sym e)))

-- the pair swapped, and both signs changed
weight-swap_negate : (x y : ℤ) → 1 ≤ nat_abs x → 1 ≤ nat_abs y → (nat_abs y ≡ nat_abs x → ⊥)
    → weight (neg_ℤ y) (neg_ℤ x) + one (later x (neg_ℤ y)) ≡ weight x y + one (later (neg_ℤ y) x)
weight-swap_negate x y a b d =
    let same : later (neg_ℤ y) (neg_ℤ x) ≡ later x y = later_negate (neg_ℤ y) x (rw nat_abs-neg_ℤ b) a ∙ ap (later x) (neg_ℤ-neg_ℤ y) in
    let flipped = weight-later (neg_ℤ y) (neg_ℤ x) (rw nat_abs-neg_ℤ a) (rw (nat_abs-neg_ℤ x, nat_abs-neg_ℤ y) (λ e. d (sym e))) in
    let counts = ap one same in
    let other = ap (λ (z : ℤ). one (later (neg_ℤ y) z)) (neg_ℤ-neg_ℤ x) in
    omega (arith, weight-later x y b d)

-- ---- all pairs

module _ (f : List ℤ → List ℤ) (same : (x : ℤ) (v : List ℤ) → weights x (f v) ≡ weights x v) where
  weights-from : (x : ℤ) (p : ℕ) (w : List ℤ) → weights x (from p f w) ≡ weights x w
  unfolding from weights
  weights-from x zero w = same x w
  weights-from x (suc p) [] = refl
  weights-from x (suc p) (y ∷ w) = ap (λ (m : ℕ). weight x y + m) (weights-from x p w)

  -- what changes from position p on is all that changes
  pair_weights-from : (a b p : ℕ) (w : List ℤ) → p ≤ length w → pair_weights (f (drop p w)) + a ≡ pair_weights (drop p w) + b
      → pair_weights (from p f w) + a ≡ pair_weights w + b
  unfolding from pair_weights
  pair_weights-from a b zero w l h = h
  pair_weights-from a b (suc p) [] l h = absurd (omega arith)
  pair_weights-from a b (suc p) (x ∷ w) l h = omega (arith, weights-from x p w, pair_weights-from a b p w (omega arith) h)

weights-swap : (x : ℤ) (v : List ℤ) → weights x (swap v) ≡ weights x v
unfolding swap weights
weights-swap x [] = refl
weights-swap x (y ∷ []) = refl
weights-swap x (y ∷ z ∷ v) = omega arith

weights-swap_negate : (x : ℤ) (v : List ℤ) → weights x (swap_negate v) ≡ weights x v
unfolding swap_negate weights weight
weights-swap_negate x [] = refl
weights-swap_negate x (y ∷ []) = refl
weights-swap_negate x (y ∷ z ∷ v) = rw (nat_abs-neg_ℤ y, nat_abs-neg_ℤ z) (omega arith)

-- the entry at position p alone
pub negatives-from-negate_first : (p : ℕ) (w : List ℤ) → p < length w
    → negatives (from p negate_first w) + one (negative (get_or w p (pos 0))) ≡ negatives w + one (negative (neg_ℤ (get_or w p (pos 0))))
unfolding from negate_first negatives
negatives-from-negate_first p [] h = absurd (omega arith)
negatives-from-negate_first zero (x ∷ w) h = omega arith
negatives-from-negate_first (suc p) (x ∷ w) h = omega (arith, negatives-from-negate_first p w (omega arith))

-- ---- two neighbouring entries

-- the entries x and y of w at positions p and p + 1, with the entries v behind them
pub record PairAt (p : ℕ) (w : List ℤ) (x y : ℤ) (v : List ℤ) : Type 0 where
  pub rest : drop p w ≡ x ∷ y ∷ v
  pub first : 1 ≤ nat_abs x
  pub second : 1 ≤ nat_abs y
  pub apart : nat_abs y ≡ nat_abs x → ⊥

neighbours_apart : (p : ℕ) (w : List ℤ) → Distinct w → suc p < length w → nat_abs (get_or w (suc p) (pos 0)) ≡ nat_abs (get_or w p (pos 0)) → ⊥
neighbours_apart p [] d h = absurd (omega arith)
neighbours_apart p (x ∷ []) d h = absurd (omega arith)
neighbours_apart zero (x ∷ y ∷ w) d h = eqb-false (nat_abs y) (nat_abs x) (has_size-head (nat_abs x) y w d.0)
neighbours_apart (suc p) (x ∷ y ∷ w) d h = neighbours_apart p (y ∷ w) d.1 (omega arith)

pub pair : (p : ℕ) (w : List ℤ) → Level 1 w → suc p < length w → PairAt p w (get_or w p (pos 0)) (get_or w (suc p) (pos 0)) (drop (suc (suc p)) w)
pair p w l h =
    record {
      rest = drop-cons w p (pos 0) (omega arith) ∙ ap (λ (v : List ℤ). get_or w p (pos 0) ∷ v) (drop-cons w (suc p) (pos 0) h);
      first = (between-get_or 1 (1 + length w) w p l.between (omega arith)).0;
      second = (between-get_or 1 (1 + length w) w (suc p) l.between h).0;
      apart = neighbours_apart p w l.distinct h;
    }

-- ---- the weights of the pair

-- before and after, with what the pair counts after and before
pub swap_weighs : (p : ℕ) (w : List ℤ) {x y : ℤ} {v : List ℤ} → p ≤ length w → PairAt p w x y v
    → pair_weights (from p swap w) + one (later x y) ≡ pair_weights w + one (later y x)
unfolding swap pair_weights weights
swap_weighs p w {x} {y} h q =
    let turn = weight-swap x y q.first q.second q.apart in
    pair_weights-from swap weights-swap (one (later x y)) (one (later y x)) p w h (rw q.rest (omega arith))

pub swap_negate_weighs : (p : ℕ) (w : List ℤ) {x y : ℤ} → p ≤ length w → PairAt p w x y []
    → pair_weights (from p swap_negate w) + one (later x (neg_ℤ y)) ≡ pair_weights w + one (later (neg_ℤ y) x)
unfolding swap_negate pair_weights weights
swap_negate_weighs p w {x} {y} h q =
    let turn = weight-swap_negate x y q.first q.second q.apart in
    pair_weights-from swap_negate weights-swap_negate (one (later x (neg_ℤ y))) (one (later (neg_ℤ y) x)) p w h (rw q.rest (omega arith))

pub sign_weight-swap : (k : Kind) (p : ℕ) (w : List ℤ) → sign_weight k (from p swap w) ≡ sign_weight k w
unfolding sign_weight
sign_weight-swap A p w = refl
sign_weight-swap B p w = negatives-from-swap p w
sign_weight-swap D p w = refl
