-- What one step does to the length of an accepted window: it changes it by one, and lowers it exactly where the
-- entries that the step acts on are crossed. By the weights of the pair that the step turns round (Crossings).
--
-- Sections: the definition; the sorts of steps; one step; the length.
-- Assumes nothing.
use mathlib.Core.Path.{◌≡◌, refl, ap}
use mathlib.Core.Bool.{Bool, true, false, not}
use mathlib.Core.List.{List, []}
use Prim.Native.Nat.{ℕ, zero, suc, ◌+◌, ◌-◌, ◌≤◌, ◌<◌}
use native.Mathlib.Decide.{ℕ_discrete}
use native.Mathlib.Omega.{arith}
use lib.Dec.{eqb}
use lib.IntN.{ℤ, pos, neg_ℤ}
use lib.ListN.{length, get_or, drop, drop_of_length-le}
use borrow.Author.Tests.{eq-eqb, ne_eqb}
use Rattle.coxeter.specs.declared.Kind.{Kind}
use Rattle.coxeter.specs.declared.Kind.TheVariants.{A, B, D}
use Rattle.coxeter.specs.Kinds.{pick, lanes, least}
use Rattle.coxeter.specs.Windows.{from, swap, negate_first, swap_negate, act, at}
use Rattle.coxeter.specs.Length.{later, negative, one, window_length}
use Rattle.coxeter.proofs.Sizes.{nat_abs-neg_ℤ}
use Rattle.coxeter.proofs.Levels.{Accepted, act_accepted}
use Rattle.coxeter.proofs.Steps.{act-swap, act-B_last, act-D_last}
use Rattle.coxeter.proofs.Places.{between-get_or}
use Rattle.coxeter.proofs.PairWeights.{pair_weights, sign_weight, length_by_weights}
use Rattle.coxeter.proofs.Lengths.{pair_weights_negate_last}
use Rattle.coxeter.proofs.Crossings.{later_flip, negative_flip, pair, swap_weighs}
use Rattle.coxeter.proofs.Crossings.{swap_negate_weighs, sign_weight-swap, negatives-from-negate_first}

-- ---- the definition

-- the entries that step s acts on are crossed: entry s stands later than entry s + 1; in B for s = n, entry n is
-- negative; in D for s = n, entry n − 1 stands later than minus entry n
unfoldable pub crossed : Kind → ℕ → ℕ → List ℤ → Bool
crossed A n s w = later (at w (pos s)) (at w (pos (suc s)))
crossed B n s w = pick (eqb s n) (negative (at w (pos n))) (later (at w (pos s)) (at w (pos (suc s))))
crossed D n s w = pick (eqb s n) (later (at w (pos (n - 1))) (neg_ℤ (at w (pos n)))) (later (at w (pos s)) (at w (pos (suc s))))

-- ---- the sorts of steps

-- step p + 1 swaps the entries at positions p and p + 1, counted from 0, or is the last step of B or of D
pub data Sort : Kind → ℕ → ℕ → Type 0 where
  swaps : (k : Kind) (n p : ℕ) → suc p < lanes k n → Sort k n (suc p)
  negates : (p : ℕ) → Sort B (suc p) (suc p)
  swaps_negates : (p : ℕ) → Sort D (suc (suc p)) (suc (suc p))

pub sort_of : (k : Kind) (n s : ℕ) → least k ≤ n → 1 ≤ s → s ≤ n → Sort k n s
sort_of k n zero r o l = absurd (omega arith)
sort_of A n (suc p) r o l = swaps A n p (omega arith)
sort_of B n (suc p) r o l = elim (ℕ_discrete (suc p) n) [ yes e ↦ rw (← e) (negates p) | no e ↦ swaps B n p (omega arith) ]
sort_of D n (suc zero) r o l = swaps D n 0 (omega arith)
sort_of D n (suc (suc p)) r o l =
    elim (ℕ_discrete (suc (suc p)) n) [ yes e ↦ rw (← e) (swaps_negates p) | no e ↦ swaps D n (suc p) (omega arith) ]

-- what each sort compares, with positions from 0
pub crossed-swap : (k : Kind) (n p : ℕ) (w : List ℤ) → suc p < lanes k n
    → crossed k n (suc p) w ≡ later (get_or w p (pos 0)) (get_or w (suc p) (pos 0))
unfolding crossed at
crossed-swap A n p w h = refl
crossed-swap B n p w h = rw (ne_eqb (suc p) n (omega arith))
crossed-swap D n p w h = rw (ne_eqb (suc p) n (omega arith))

pub crossed-B_last : (p : ℕ) (w : List ℤ) → crossed B (suc p) (suc p) w ≡ negative (get_or w p (pos 0))
unfolding crossed at
crossed-B_last p w = rw (eq-eqb (suc p) (suc p) refl)

pub crossed-D_last : (p : ℕ) (w : List ℤ)
    → crossed D (suc (suc p)) (suc (suc p)) w ≡ later (get_or w p (pos 0)) (neg_ℤ (get_or w (suc p) (pos 0)))
unfolding crossed at
crossed-D_last p w = let e : suc (suc p) - 1 ≡ suc p = omega arith in rw (eq-eqb (suc (suc p)) (suc (suc p)) refl, e)

-- ---- one step

-- a step turns round the pair that it acts on, and the sums change by what this pair counts before and after
record PairTurned (k : Kind) (n s : ℕ) (w : List ℤ) : Type 0 where
  result : List ℤ
  before : Bool
  after : Bool
  acts : act k n s w ≡ result
  was : crossed k n s w ≡ before
  flips : after ≡ not before
  weighs : pair_weights result + sign_weight k result + one before ≡ pair_weights w + sign_weight k w + one after

turned-swap : (k : Kind) (n p : ℕ) (w : List ℤ) → suc p < lanes k n → Accepted k n w → PairTurned k n (suc p) w
turned-swap k n p w h c =
    let e = c.size in
    let q = pair p w c.level (omega arith) in
    record {
      result = from p swap w;
      before = later (get_or w p (pos 0)) (get_or w (suc p) (pos 0));
      after = later (get_or w (suc p) (pos 0)) (get_or w p (pos 0));
      acts = ap (λ f. f w) (act-swap k n p h);
      was = crossed-swap k n p w h;
      flips = later_flip _ _ q.apart;
      weighs = omega (arith, swap_weighs p w (omega arith) q, sign_weight-swap k p w);
    }

turned_negate : (p : ℕ) (w : List ℤ) → Accepted B (suc p) w → PairTurned B (suc p) (suc p) w
unfolding sign_weight
turned_negate p w c =
    let e = c.size in
    let last : length w - 1 ≡ p = omega arith in
    record {
      result = from p negate_first w;
      before = negative (get_or w p (pos 0));
      after = negative (neg_ℤ (get_or w p (pos 0)));
      acts = ap (λ f. f w) (act-B_last (suc p) p (omega arith));
      was = crossed-B_last p w;
      flips = negative_flip (get_or w p (pos 0)) (between-get_or 1 (1 + length w) w p c.level.between (omega arith)).0;
      weighs = omega (arith, negatives-from-negate_first p w (omega arith), rw last at (pair_weights_negate_last w));
    }

turned-swap_negate : (p : ℕ) (w : List ℤ) → Accepted D (suc (suc p)) w → PairTurned D (suc (suc p)) (suc (suc p)) w
unfolding sign_weight
turned-swap_negate p w c =
    let e = c.size in
    let none : drop (suc (suc p)) w ≡ [] = drop_of_length-le w {i = suc (suc p)} (omega arith) in
    let q = rw none at (pair p w c.level (omega arith)) in
    record {
      result = from p swap_negate w;
      before = later (get_or w p (pos 0)) (neg_ℤ (get_or w (suc p) (pos 0)));
      after = later (neg_ℤ (get_or w (suc p) (pos 0))) (get_or w p (pos 0));
      acts = ap (λ f. f w) (act-D_last (suc (suc p)) p (omega arith));
      was = crossed-D_last p w;
      flips = later_flip _ _ (rw nat_abs-neg_ℤ q.apart);
      weighs = omega (arith, swap_negate_weighs p w (omega arith) q);
    }

turned : {k : Kind} {n s : ℕ} (w : List ℤ) → Sort k n s → Accepted k n w → PairTurned k n s w
turned w (swaps k n p h) c = turned-swap k n p w h c
turned w (negates p) c = turned_negate p w c
turned w (swaps_negates p) c = turned-swap_negate p w c

-- ---- the length

module _ (k : Kind) (n s : ℕ) (w : List ℤ) (r : least k ≤ n) (o : 1 ≤ s) (l : s ≤ n) (c : Accepted k n w) where
  turns : PairTurned k n s w
  turns = turned w (sort_of k n s r o l) c

  length-act_add : window_length k (act k n s w) + one (crossed k n s w) ≡ window_length k w + one (not (crossed k n s w))
  length-act_add =
      let before = length_by_weights k n w c in
      let after = length_by_weights k n (act k n s w) (act_accepted k n s w c) in
      rw (turns.was, ← turns.flips) (omega (arith, rw (← turns.acts) at turns.weighs))

  -- a step at a crossed pair lowers the length by one
  pub length_of_crossed : crossed k n s w ≡ true → window_length k w ≡ window_length k (act k n s w) + 1
  unfolding one
  length_of_crossed e = let q = rw e at length-act_add in omega arith

  -- a step at any other pair raises it by one
  pub length_of_uncrossed : crossed k n s w ≡ false → window_length k (act k n s w) ≡ window_length k w + 1
  unfolding one
  length_of_uncrossed e = let q = rw e at length-act_add in omega arith
