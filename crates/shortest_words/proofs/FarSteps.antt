-- A step changes nothing for the steps below its neighbours: they make the window shorter after it exactly when
-- they did before. So a search for the lowest such step need go back by one only, from step n of D by two. By the
-- entries that the steps act on.
-- Assumes nothing.
use mathlib.Core.Path.{◌≡◌, refl, sym, ap₂, ◌∙◌}
use mathlib.Core.Bool.{Bool}
use mathlib.Core.List.{List, [], ◌∷◌}
use Prim.Native.Nat.{ℕ, zero, suc, ◌+◌, ◌≤◌, ◌<◌}
use native.Mathlib.Omega.{arith}
use lib.IntN.{ℤ, pos}
use lib.ListN.{get_or}
use Rattle.coxeter.specs.declared.Kind.{Kind}
use Rattle.coxeter.specs.declared.Kind.TheVariants.{A, B, D}
use Rattle.coxeter.specs.Kinds.{least, lanes}
use Rattle.coxeter.specs.Windows.{from, swap, negate_first, swap_negate, act}
use Rattle.coxeter.specs.Length.{later}
use Rattle.coxeter.proofs.Levels.{Accepted, act_accepted}
use Rattle.coxeter.proofs.Steps.{act-swap, act-B_last, act-D_last}
use Rattle.coxeter.proofs.Descents.{Sort, swaps, negates, swaps_negates, sort_of, crossed, crossed-swap}
use Rattle.shortest_words.specs.Descents.{is_descent}
use Rattle.shortest_words.proofs.Descents.{descent_crossed}
use Rattle.shortest_words.proofs.Stripping.{NoDescent}

get_or-before : (f : List ℤ → List ℤ) (p q : ℕ) (w : List ℤ) → q < p → get_or (from p f w) q (pos 0) ≡ get_or w q (pos 0)
unfolding from
get_or-before f zero q w h = absurd (omega arith)
get_or-before f (suc p) q [] h = refl
get_or-before f (suc p) zero (x ∷ w) h = refl
get_or-before f (suc p) (suc q) (x ∷ w) h = get_or-before f p q w (omega arith)

-- j is below the neighbours of s; step n of D is a neighbour of n − 2
abbrev pub Far : Kind → ℕ → ℕ → ℕ → Type 0
Far k n j s = (j + 1 < s) × (k ≡ D → s ≡ n → j + 2 < s)

-- the entries before those that step s acts on; step n of D acts on one more
act-before : {k : Kind} {n s : ℕ} (q : ℕ) (w : List ℤ) → Sort k n s → Far k n q s → get_or (act k n s w) q (pos 0) ≡ get_or w q (pos 0)
act-before q w (swaps k n p l) h = rw (act-swap k n p l) (get_or-before swap p q w (omega (arith, h.0)))
act-before q w (negates p) h = rw (act-B_last (suc p) p (omega arith)) (get_or-before negate_first p q w (omega (arith, h.0)))
act-before q w (swaps_negates p) h =
    rw (act-D_last (suc (suc p)) p (omega arith)) (get_or-before swap_negate p q w (omega (arith, h.1 refl refl)))

far_below : (k : Kind) (n i j s : ℕ) → i ≤ j → Far k n j s → Far k n i s
far_below k n i j s l h = (omega (arith, h.0), λ d e. omega (arith, h.1 d e))

below-lanes : (k : Kind) (n j : ℕ) → suc j < n → suc j < lanes k n
below-lanes A n j h = omega arith
below-lanes B n j h = omega arith
below-lanes D n j h = omega arith

module _ (k : Kind) (n s : ℕ) (w : List ℤ) (h : least k ≤ n) (o : 1 ≤ s) (l : s ≤ n) (a : Accepted k n w) where
  crossed_far : (j : ℕ) → 1 ≤ j → Far k n j s → crossed k n j (act k n s w) ≡ crossed k n j w
  crossed_far zero i g = absurd (omega arith)
  crossed_far (suc j) i g =
      let inside = below-lanes k n j (omega (arith, g.0)) in
      let sort = sort_of k n s h o l in
      crossed-swap k n j (act k n s w) inside
      ∙ ap₂ later (act-before j w sort (far_below k n j (suc j) s (omega arith) g)) (act-before (suc j) w sort g)
      ∙ sym (crossed-swap k n j w inside)

  descent_far : (j : ℕ) → 1 ≤ j → Far k n j s → is_descent k n j (act k n s w) ≡ is_descent k n j w
  descent_far j i g =
      descent_crossed k n j (act k n s w) h i (omega (arith, g.0)) (act_accepted k n s w a)
      ∙ crossed_far j i g
      ∙ sym (descent_crossed k n j w h i (omega (arith, g.0)) a)

  -- where no allowed one of the first t steps makes w shorter, none does after step s
  pub ended_far : (allowed : ℕ → Bool) (t : ℕ) → Far k n t s → NoDescent allowed k n t 1 w → NoDescent allowed k n t 1 (act k n s w)
  ended_far allowed t g e j i m b = descent_far j i (far_below k n j t s (omega arith) g) ∙ e j i m b
