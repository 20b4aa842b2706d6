-- What the module `steps` computes: the order of entries by one comparison and two signs, and a step taken where it
-- makes the window shorter.
--
-- Sections: the order of entries; stores; one step.
-- Assumes nothing.
use mathlib.Core.Path.{◌≡◌, refl, sym, ap, ◌∙◌}
use mathlib.Core.Bool.{Bool, true, false, not, beq}
use mathlib.Core.List.{List}
use Prim.Native.Nat.{ℕ, suc, ◌+◌, ◌-◌, ◌≤◌, ◌<◌}
use native.Mathlib.Omega.{arith}
use lib.IntN.{ℤ, pos, negsuc, neg_ℤ, nat_abs, ◌-ℤ◌}
use lib.ListN.{length, get_or, set}
use lib.Signed.{mag, lt_z}
use mir.Syntax.{w8}
use mir.Val.{SFits}
use Rattle.coxeter.specs.declared.Kind.{Kind}
use Rattle.coxeter.specs.declared.Kind.TheVariants.{B}
use Rattle.coxeter.specs.Kinds.{pick, lanes}
use Rattle.coxeter.specs.Windows.{from, swap, negate_first, swap_negate, act}
use Rattle.coxeter.specs.Length.{later, negative}
use Rattle.coxeter.proofs.Levels.{accepted_of_refusal}
use Rattle.coxeter.proofs.Descents.{crossed, crossed-swap, crossed-B_last, crossed-D_last}
use Rattle.refusals.proofs.Bytes.{held, byte_back, element_back, minus_is_negate, minus_fits, minus_back}
use Rattle.window.proofs.ByteSteps.{StepOf, Negated, set_eq_negate_first, set_eq_swap_negate, length_of_refusal}
use Rattle.window.proofs.ByteSteps.{swap_is_act, negate_first_is_act, swap_negate_is_act, four_le, last_step, last_is_D}
use Rattle.shortest_words.specs.Descents.{is_descent}
use Rattle.shortest_words.proofs.Descents.{descent_crossed}

-- ---- the order of entries

-- the two are not the same
abbrev pub differ : Bool → Bool → Bool
differ s t = not (beq s t)

differ_false : (t : Bool) → differ (differ t false) false ≡ t
differ_false true = refl
differ_false false = refl

differ_true : (t : Bool) → differ (differ t true) true ≡ t
differ_true true = refl
differ_true false = refl

later_by_signs : (x y : ℤ) → differ (differ (lt_z y x) (negative x)) (negative y) ≡ later x y
unfolding later negative
later_by_signs (pos a) (pos b) = differ_false (lt_z (pos b) (pos a))
later_by_signs (pos a) (negsuc b) = refl
later_by_signs (negsuc a) (pos b) = refl
later_by_signs (negsuc a) (negsuc b) = differ_true (lt_z (negsuc b) (negsuc a))

-- s and t are the signs of the two bytes as they are held
pub later_of_signs : (x y : ℤ) {s t : Bool} → SFits w8 x → SFits w8 y → s ≡ negative (held x) → t ≡ negative (held y)
    → differ (differ (lt_z (held y) (held x)) s) t ≡ later x y
later_of_signs x y f g p q = rw (p, q, byte_back x f, byte_back y g) (later_by_signs x y)

-- r is what comparing two entries answered
pub later_told : (x y : ℤ) {r t : Bool} → mag x < 128 → mag y < 128 → r ≡ later (held x) (held y) → r ≡ t → t ≡ later x y
later_told x y f g e q = rw (← element_back x f, ← element_back y g) (sym q ∙ e)

pub negative_told : (x : ℤ) {r t : Bool} → mag x < 128 → r ≡ negative (held x) → r ≡ t → t ≡ negative x
negative_told x f e q = rw (← element_back x f) (sym q ∙ e)

-- the second entry is compared with its sign changed
pub later_negated_told : (x y : ℤ) {r t : Bool} → mag x < 128 → mag y < 128 → nat_abs y < 128 → r ≡ later (held x) (held (pos 0 -ℤ held y))
    → r ≡ t → t ≡ later x (neg_ℤ y)
later_negated_told x y f g h e q = rw (← element_back x f, ← minus_back y (record { sfits = g }) h) (sym q ∙ e)

-- ---- stores

pub negated_fits : (e : ℤ) → mag e < 128 → nat_abs e < 128 → SFits w8 (pos 0 -ℤ held e)
negated_fits e f h = minus_fits e (record { sfits = f }) h

negated_entry : (e : ℤ) → mag e < 128 → nat_abs e < 128 → Negated e (pos 0 -ℤ held e)
negated_entry e f h =
    record { entry = f; result = (negated_fits e f h).sfits; negation = minus_is_negate (held e) }

pub set_eq_negated : (p : ℕ) (w : List ℤ) → p < length w → mag (get_or w p (pos 0)) < 128 → nat_abs (get_or w p (pos 0)) < 128
    → set w p (held (pos 0 -ℤ held (get_or w p (pos 0)))) ≡ from p negate_first w
set_eq_negated p w h f g = set_eq_negate_first p w (pos 0 -ℤ held (get_or w p (pos 0))) h (negated_entry (get_or w p (pos 0)) f g)

pub set_eq_swapped : (p : ℕ) (w : List ℤ) → p + 1 < length w → mag (get_or w p (pos 0)) < 128 → nat_abs (get_or w p (pos 0)) < 128
    → mag (get_or w (p + 1) (pos 0)) < 128 → nat_abs (get_or w (p + 1) (pos 0)) < 128
    → set (set w p (held (pos 0 -ℤ held (get_or w (p + 1) (pos 0))))) (p + 1) (held (pos 0 -ℤ held (get_or w p (pos 0)))) ≡ from p swap_negate w
set_eq_swapped p w h f g d e =
    set_eq_swap_negate p w (pos 0 -ℤ held (get_or w p (pos 0))) (pos 0 -ℤ held (get_or w (p + 1) (pos 0))) h
    (negated_entry (get_or w p (pos 0)) f g) (negated_entry (get_or w (p + 1) (pos 0)) d e)

-- ---- one step

-- step s was tested, and taken where the test holds
abbrev pub TakenDescent : Kind → ℕ → ℕ → List ℤ → Bool → List ℤ → Type 0
TakenDescent k n s w r v = (r ≡ is_descent k n s w) × (v ≡ pick r (act k n s w) w)

module _ (k : Kind) (n s : ℕ) (w v : List ℤ) (r : Bool) (h : StepOf k n s w) where
  -- from the test of the entries and what taking the step does
  taken_descent : (x : List ℤ) → r ≡ crossed k n s w → x ≡ act k n s w → v ≡ pick r x w → TakenDescent k n s w r v
  taken_descent x t e q =
      let a = accepted_of_refusal k n w h.1.1 in
      (t ∙ sym (descent_crossed k n s w h.1.0.0 h.0.0 h.0.1 a), q ∙ ap (λ (y : List ℤ). pick r y w) e)

  pub taken_pair : s < length w → r ≡ later (get_or w (s - 1) (pos 0)) (get_or w (s - 1 + 1) (pos 0)) → v ≡ pick r (from (s - 1) swap w) w
      → TakenDescent k n s w r v
  taken_pair l t q =
      let e : suc (s - 1) ≡ s = omega (arith, h.0.0) in
      let f : s - 1 + 1 ≡ s = omega (arith, h.0.0) in
      let inside : suc (s - 1) < lanes k n = rw (e, ← length_of_refusal k n w h.1.1) l in
      let test = rw e at (crossed-swap k n (s - 1) w inside) in
      taken_descent (from (s - 1) swap w) (t ∙ rw f (sym test)) (swap_is_act k n s w h l) q

  module _ (l : length w ≤ s) where
    last : (s ≡ n) × (length w ≡ n)
    last = last_step k n s w h.0.1 l h.1.1

    pub taken_sign : k ≡ B → r ≡ negative (get_or w (n - 1) (pos 0)) → v ≡ pick r (from (n - 1) negate_first w) w → TakenDescent k n s w r v
    taken_sign b t q =
        let e : suc (n - 1) ≡ n = omega (arith, last, h.0.0) in
        let test = rw e at (crossed-B_last (n - 1) w) in
        taken_descent (from (n - 1) negate_first w) (t ∙ rw (b, last.0) (sym test)) (negate_first_is_act k n s w h l b) q

    pub taken_signs : (k ≡ B → ⊥) → r ≡ later (get_or w (n - 2) (pos 0)) (neg_ℤ (get_or w (n - 2 + 1) (pos 0)))
        → v ≡ pick r (from (n - 2) swap_negate w) w → TakenDescent k n s w r v
    taken_signs b t q =
        let e : suc (suc (n - 2)) ≡ n = omega (arith, four_le k n s w h l b) in
        let f : n - 2 + 1 ≡ suc (n - 2) = omega arith in
        let test = rw e at (crossed-D_last (n - 2) w) in
        taken_descent (from (n - 2) swap_negate w) (t ∙ rw (f, last_is_D k n s w h l b, last.0) (sym test)) (swap_negate_is_act k n s w h l b) q
