-- The turns of the loop of `stripping::strip`: what is left of the window is reached by allowed steps that make it
-- shorter, and no allowed step below the one to be tried does so any more.
--
-- Sections: one step; the loop.
-- Assumes nothing.
use mathlib.Core.Path.{◌≡◌, sym, ap, ◌∙◌}
use mathlib.Core.Bool.{Bool, true, ◌&&◌, and-eq-true_iff}
use mathlib.Core.List.{List}
use Prim.Native.Nat.{ℕ, ◌+◌, ◌-◌, ◌*◌, ◌≤◌, ◌<◌}
use native.Mathlib.Nat.{add-mul, one-mul}
use native.Mathlib.Omega.{arith}
use lib.IntN.{ℤ}
use Rattle.coxeter.specs.declared.Kind.{Kind}
use Rattle.coxeter.specs.Kinds.{least, pick}
use Rattle.coxeter.specs.Windows.{act}
use Rattle.coxeter.specs.Length.{window_length}
use Rattle.coxeter.specs.Checks.{WindowOf}
use Rattle.coxeter.proofs.Levels.{Accepted, accepted_of_refusal}
use Rattle.coxeter.proofs.Theorems.{act_passes}
use Rattle.shortest_words.specs.Descents.{is_descent}
use Rattle.shortest_words.specs.Allowed.{allows}
use Rattle.shortest_words.proofs.Descents.{length_of_descent}
use Rattle.shortest_words.proofs.Stripping.{NoDescent, Strips, strips_nothing, strips_first}
use Rattle.shortest_words.proofs.FarSteps.{Far, ended_far}

-- ---- how far back

-- what `back` ensures
abbrev pub Back : Kind → ℕ → ℕ → ℕ → Type 0
Back k n s r = (1 ≤ r) × (r ≤ s) × (2 ≤ r → Far k n (r - 1) s)

-- ---- one step

-- step s was asked for, and taken where it is allowed and makes the window shorter
abbrev pub Taken : Kind → ℕ → ℕ → ℕ → List ℤ → Bool → List ℤ → Type 0
Taken k n set s w r v = (r ≡ (allows set s && is_descent k n s w)) × (v ≡ pick r (act k n s w) w)

-- ---- the loop

one_more : (a b : ℕ) → (a + 1) * b ≡ a * b + b
one_more a b = add-mul a 1 b ∙ ap (λ (x : ℕ). a * b + x) (one-mul b)

-- w is left of w₀, and s is the step to be tried
pub record Turning (set : ℕ) (k : Kind) (n : ℕ) (w₀ w : List ℤ) (s : ℕ) : Type 0 where
  pub low : 1 ≤ s
  pub high : s ≤ n + 1
  pub passes : WindowOf k n w
  pub ended : NoDescent (allows set) k n (s - 1) 1 w
  pub reached : (y : List ℤ) → Strips (allows set) k n w y → Strips (allows set) k n w₀ y

pub turning_end : {set : ℕ} {k : Kind} {n : ℕ} {w₀ w : List ℤ} {s : ℕ} → Turning set k n w₀ w s → n < s → Strips (allows set) k n w₀ w
turning_end {set} {k} {n} {w} t l =
    t.reached w (strips_nothing (allows set) k n w (λ j g m a. t.ended j g (omega arith) a))

module _ {set : ℕ} {k : Kind} {n : ℕ} {w₀ w : List ℤ} {s : ℕ} (t : Turning set k n w₀ w s) (h : least k ≤ n) (l : s ≤ n) (r : Bool) (v : List ℤ)
    (g : Taken k n set s w r v) where
  accepted : Accepted k n w
  accepted = accepted_of_refusal k n w t.passes

  module _ (e : r ≡ true) where
    both : (allows set s ≡ true) × (is_descent k n s w ≡ true)
    both = (and-eq-true_iff (allows set s) (is_descent k n s w)).0 (sym g.0 ∙ e)

    after : v ≡ act k n s w
    after = g.1 ∙ ap (λ (b : Bool). pick b (act k n s w) w) e

    pub turning_taken : (b : ℕ) → Back k n s b → Turning set k n w₀ v b
    turning_taken b q =
        rw after
        (record { low = q.0; high = omega (arith, q.1); passes = act_passes k n s w t.passes; ended = still; reached = λ y r. t.reached y (first y r) })
      where
        still : NoDescent (allows set) k n (b - 1) 1 (act k n s w)
        still j i m a =
            let far = q.2 (omega arith) in
            ended_far k n s w h t.low l accepted (allows set) (b - 1) far (λ x y z c. t.ended x y (omega (arith, q.1)) c) j i m a

        first : (y : List ℤ) → Strips (allows set) k n (act k n s w) y → Strips (allows set) k n w y
        first y = strips_first (allows set) k n s h accepted t.low l both.0 both.1

    -- the length falls by one, and the step goes back by less than the steps there are
    pub turning_less : (b : ℕ) → 1 ≤ b → window_length k v * (n + 1) + (n + 1 - b) < window_length k w * (n + 1) + (n + 1 - s)
    turning_less b o =
        let shorter = length_of_descent k n s w h t.low l accepted both.1 in
        let whole : window_length k w ≡ window_length k v + 1 = shorter ∙ ap (λ (x : List ℤ). window_length k x + 1) (sym after) in
        rw (whole, one_more (window_length k v) (n + 1)) (omega arith)
