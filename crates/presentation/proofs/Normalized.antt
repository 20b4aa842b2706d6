-- The rules of a kind and rank are normalized. No left side begins with a letter and then a lower one, and a left side
-- without its first letter is irreducible (traces/proofs/LeftSides); so no rule fits into a right side, and into a left
-- side only at its first place, where that is the rule itself.
--
-- Sections: where a left side begins; right sides; left sides.
-- Assumes nothing.
use mathlib.Core.Path.{◌≡◌, refl, sym, ap, subst, ◌∙◌}
use mathlib.Core.Bool.{Bool, true, false, true≢false}
use mathlib.Core.List.{List, [], ◌∷◌, ◌++◌, append_assoc, append-nil, Memᴰ}
use Prim.Native.Nat.{ℕ, zero, suc, ◌+◌, ◌-◌, ◌≤◌, ◌<◌}
use native.Mathlib.Omega.{arith}
use lib.Dec.{ltb}
use lib.ListN.{length, get_or, drop, length-append, get_or-append}
use borrow.Author.Tests.{ltb-true, ltb-false}
use Rattle.coxeter.specs.declared.Kind.{Kind}
use Rattle.coxeter.specs.Kinds.{least}
use Rattle.coxeter.proofs.TestLaws.{not_true_false}
use Rattle.rules.specs.Rules.{Rule, rules, fits, Irreducible}
use Rattle.rules.proofs.Fits.{begins-append, begins_split}
use Rattle.rules.proofs.ScanRules.{fitting_unique}
use Rattle.traces.proofs.LeftSideShapes.{lower, Shape, left_two}
use Rattle.traces.proofs.LeftSides.{shape_of_rule, drops, moves, sides_of_rule}
use Rattle.traces.proofs.Reading.{nil_irreducible}
use Rattle.presentation.proofs.Reducing.{irreducible_part, irreducible_cons}

-- ---- where a left side begins

lower_le : (a b : ℕ) → lower a b ≤ a
lower_le a b = lower_le_by_cases (ltb b a) refl
  where
    lower_le_by_cases : (t : Bool) → ltb b a ≡ t → lower a b ≤ a
    lower_le_by_cases true e = rw e (omega (arith, ltb-true b a e))
    lower_le_by_cases false e = rw e (omega arith)

pub lower_le_right : (a b : ℕ) → lower a b ≤ b
lower_le_right a b = lower_le_right_by_cases (ltb b a) refl
  where
    lower_le_right_by_cases : (t : Bool) → ltb b a ≡ t → lower a b ≤ b
    lower_le_right_by_cases true e = rw e (omega arith)
    lower_le_right_by_cases false e = rw e (omega (arith, ltb-false b a e))

-- the second letter is not lower than the first
shape_rises : (k : Kind) (n : ℕ) (l : List ℕ) → Shape k n l → get_or l 0 0 ≤ get_or l 1 0
shape_rises k n l s = shape_rises_by_cases (length s.tail - 1) (omega (arith, s.long))
  where
    first : get_or l 0 0 ≡ s.first
    first = ap (λ (w : List ℕ). get_or w 0 0) s.is

    shape_rises_by_cases : (t : ℕ) → suc t ≡ length s.tail → get_or l 0 0 ≤ get_or l 1 0
    shape_rises_by_cases zero e = omega (arith, first, s.lowest 0 e, lower_le_right (get_or l 0 0) (get_or l 1 0))
    shape_rises_by_cases (suc zero) e = omega (arith, first, s.lowest 1 e, lower_le (get_or l 1 0) (get_or l 2 0))
    shape_rises_by_cases (suc (suc t)) e = omega (arith, first, s.higher 1 (omega arith) (omega arith))

module _ (k : Kind) (n : ℕ) (low : least k ≤ n) where
  -- ---- right sides

  -- no rule fits where a letter stands before a lower one
  falling_not_fitted : (a b : ℕ) (u : List ℕ) → b < a → (x : Rule) → Memᴰ x (rules k n) → fits x (a ∷ b ∷ u) 0 ≡ false
  unfolding fits
  falling_not_fitted a b u l x m = not_true_false _ (λ e.
      let (y, q) = begins_split x.left (a ∷ b ∷ u) e in
      let two = left_two k n low x m in
      let p : a ≡ get_or x.left 0 0 = ap (λ (w : List ℕ). get_or w 0 0) q ∙ get_or-append x.left y 0 0 (omega arith) in
      let r : b ≡ get_or x.left 1 0 = ap (λ (w : List ℕ). get_or w 1 0) q ∙ get_or-append x.left y 0 1 (omega arith) in
      absurd (omega (arith, shape_rises k n x.left (shape_of_rule k n low x m))))

  -- a rule that begins a left side is that side's rule
  begins_left : (x y : Rule) → Memᴰ x (rules k n) → Memᴰ y (rules k n) → (u : List ℕ) → x.left ≡ y.left ++ u → y ≡ x
  unfolding fits
  begins_left x y m q u e =
      fitting_unique k n x.left 0 low q m (rw e (begins-append y.left u)) (rw append-nil at (begins-append x.left []))

  -- a left side without its last letter
  front_irreducible : (x : Rule) → Memᴰ x (rules k n) → (b z : ℕ) (l : List ℕ) → x.left ≡ (b ∷ l) ++ (z ∷ [])
      → Irreducible (rules k n) (b ∷ l)
  unfolding fits
  front_irreducible x m b z l p = irreducible_cons (rules k n) b l inner (λ y q. not_true_false _ (first y q))
    where
      s : Shape k n x.left
      s = shape_of_rule k n low x m

      inner : Irreducible (rules k n) l
      inner =
          irreducible_part (rules k n) [] l (z ∷ [])
          (subst (Irreducible (rules k n)) (ap (drop 1) (sym s.is ∙ p)) s.irreducible)

      first : (y : Rule) → Memᴰ y (rules k n) → fits y (b ∷ l) 0 ≡ true → ⊥
      first y q e =
          let (v, t) = begins_split y.left (b ∷ l) e in
          let g : x.left ≡ y.left ++ (v ++ (z ∷ [])) = p ∙ ap (λ (w : List ℕ). w ++ (z ∷ [])) t ∙ append_assoc y.left v (z ∷ []) in
          let r : length x.left ≡ length y.left + length (v ++ (z ∷ [])) = ap length g ∙ length-append y.left (v ++ (z ∷ [])) in
          omega (arith, r, length-append v (z ∷ []), ap (λ (w : Rule). length w.left) (begins_left x y m q _ g))

  -- U6: no rule fits into a right side
  pub rules_right_irreducible : (x : Rule) → Memᴰ x (rules k n) → Irreducible (rules k n) x.right
  rules_right_irreducible x m = elim (sides_of_rule k n low x m) [
    | drops a f p q ↦ subst (Irreducible (rules k n)) (sym q) (nil_irreducible k n low)
    | moves z y b l f p q h ↦
        subst (Irreducible (rules k n)) (sym q)
        (irreducible_cons (rules k n) y (b ∷ l) (front_irreducible x m b z l p) (falling_not_fitted y b l h))
  ]

  -- ---- left sides

  -- into a left side no rule fits but its own, at its first place
  pub left_fits : (x y : Rule) → Memᴰ x (rules k n) → Memᴰ y (rules k n) → (p : ℕ) → fits y x.left p ≡ true → y ≡ x
  unfolding fits
  left_fits x y m q zero e = let (v, t) = begins_split y.left x.left e in begins_left x y m q v t
  left_fits x y m q (suc p) e =
      let s = shape_of_rule k n low x m in
      absurd (true≢false (sym (ap (λ (w : List ℕ). fits y w (suc p)) (sym s.is) ∙ e) ∙ s.irreducible y q p))
