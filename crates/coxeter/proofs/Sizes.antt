-- Sizes and signs of entries one by one: what the checks, the steps and a removal say of them, by cases on the
-- first entries. Not here: ranges of sizes, repeated sizes and levels (Levels).
-- Assumes nothing.
use mathlib.Core.Path.{◌≡◌, refl, sym, ap}
use mathlib.Core.Bool.{Bool, true, false, not, ◌||◌, true≢false, not-not}
use mathlib.Core.List.{List, [], ◌∷◌, map}
use Prim.Native.Nat.{ℕ, zero, suc, ◌+◌, ◌≤◌}
use native.Mathlib.Nat.{zero-add}
use native.Mathlib.Numerals.{one-add}
use native.Mathlib.Omega.{arith}
use lib.Dec.{eqb, ltb}
use lib.IntN.{ℤ, pos, negsuc, neg_ℤ, nat_abs}
use lib.ListN.{length}
use borrow.Author.Tests.{eqb-false}
use Rattle.coxeter.specs.declared.Kind.{Kind}
use Rattle.coxeter.specs.declared.Kind.TheVariants.{A, B, D}
use Rattle.coxeter.specs.Kinds.{pick}
use Rattle.coxeter.specs.Windows.{from, swap, swap_negate}
use Rattle.coxeter.specs.Length.{negative, negatives, one}
use Rattle.coxeter.specs.Checks.{has_size, wrong_at, wrong_entry, negative_in_A, odd}
use Rattle.coxeter.specs.NormalForm.{without}
use Rattle.coxeter.proofs.Basics.{or_false_left, or_false_right}

-- ---- tests

or_false_all : (a b c d q : Bool) → ((a || (b || (c || d))) || q) ≡ false
    → (a ≡ false) × (b ≡ false) × (c ≡ false) × (d ≡ false) × (q ≡ false)
or_false_all true b c d q h = absurd (true≢false h)
or_false_all false true c d q h = absurd (true≢false h)
or_false_all false false true d q h = absurd (true≢false h)
or_false_all false false false true q h = absurd (true≢false h)
or_false_all false false false false q h = (refl, refl, refl, refl, h)

pub or_left_comm : (a b c : Bool) → (a || (b || c)) ≡ (b || (a || c))
or_left_comm true true c = refl
or_left_comm true false c = refl
or_left_comm false b c = refl

-- ---- the first entry and the others

pub has_size-head : (s : ℕ) (x : ℤ) (w : List ℤ) → has_size s (x ∷ w) ≡ false → eqb (nat_abs x) s ≡ false
unfolding has_size
has_size-head s x w h = or_false_left (eqb (nat_abs x) s) (has_size s w) h

pub has_size-tail : (s : ℕ) (x : ℤ) (w : List ℤ) → has_size s (x ∷ w) ≡ false → has_size s w ≡ false
unfolding has_size
has_size-tail s x w h = or_false_right (eqb (nat_abs x) s) (has_size s w) h

-- ---- removal

pub has_size-without : (s c : ℕ) (w : List ℤ) → has_size s w ≡ false → has_size s (without c w) ≡ false
unfolding has_size without
has_size-without s c [] h = refl
has_size-without s c (e ∷ w) h = has_size-without_by_cases (eqb (nat_abs e) c) (has_size-without s c w (has_size-tail s e w h))
  where
    has_size-without_by_cases : (t : Bool) → has_size s (without c w) ≡ false → has_size s (pick t w (e ∷ without c w)) ≡ false
    has_size-without_by_cases true r = has_size-tail s e w h
    has_size-without_by_cases false r = rw (has_size-head s e w h) r

pub length_le_without : (c : ℕ) (w : List ℤ) → length w ≤ suc (length (without c w))
unfolding without
length_le_without c [] = omega arith
length_le_without c (e ∷ w) = length_le_without_by_cases (eqb (nat_abs e) c) (length_le_without c w)
  where
    length_le_without_by_cases : (t : Bool) → length w ≤ suc (length (without c w)) → suc (length w) ≤ suc (length (pick t w (e ∷ without c w)))
    length_le_without_by_cases true r = omega arith
    length_le_without_by_cases false r = omega arith

-- ---- checks

pub wrong_entry_cons : (k : Kind) (m : ℕ) (e : ℤ) (w : List ℤ) → wrong_entry k m (e ∷ w) ≡ false
    → (eqb (nat_abs e) 0 ≡ false) × (ltb m (nat_abs e) ≡ false) × (has_size (nat_abs e) w ≡ false) × (negative_in_A k e ≡ false)
    × (wrong_entry k m w ≡ false)
unfolding wrong_entry wrong_at
wrong_entry_cons k m e w h =
    or_false_all (eqb (nat_abs e) 0) (ltb m (nat_abs e)) (has_size (nat_abs e) w) (negative_in_A k e) (wrong_entry k m w) h

-- the part of check 10 that is about signs
abbrev pub PositiveInA : Kind → List ℤ → Type 0
PositiveInA A w = negatives w ≡ 0
PositiveInA B w = Unit {0}
PositiveInA D w = Unit {0}

pub positive_in_A_nil : (k : Kind) → PositiveInA k []
unfolding negatives
positive_in_A_nil A = refl
positive_in_A_nil B = tt
positive_in_A_nil D = tt

pub positive_in_A_cons : (k : Kind) (e : ℤ) (w : List ℤ) → negative_in_A k e ≡ false → PositiveInA k w → PositiveInA k (e ∷ w)
unfolding negatives negative_in_A one
positive_in_A_cons A e w h p = rw (h, p)
positive_in_A_cons B e w h p = tt
positive_in_A_cons D e w h p = tt

pub positive_in_A_head : (k : Kind) (e : ℤ) (w : List ℤ) → PositiveInA k (e ∷ w) → negative_in_A k e ≡ false
unfolding negatives negative_in_A negative one
positive_in_A_head A (pos e) w p = refl
positive_in_A_head A (negsuc e) w p = let f : ⊥ = omega arith in absurd f
positive_in_A_head B e w p = refl
positive_in_A_head D e w p = refl

pub positive_in_A_tail : (k : Kind) (e : ℤ) (w : List ℤ) → PositiveInA k (e ∷ w) → PositiveInA k w
unfolding negatives
positive_in_A_tail A e w p = omega arith
positive_in_A_tail B e w p = tt
positive_in_A_tail D e w p = tt

-- ---- steps

pub nat_abs-neg_ℤ : (x : ℤ) → nat_abs (neg_ℤ x) ≡ nat_abs x
nat_abs-neg_ℤ (pos zero) = refl
nat_abs-neg_ℤ (pos (suc x)) = refl
nat_abs-neg_ℤ (negsuc x) = refl

negative-neg_ℤ : (x : ℤ) → (nat_abs x ≡ 0 → ⊥) → negative (neg_ℤ x) ≡ not (negative x)
unfolding negative
negative-neg_ℤ (pos zero) h = absurd (h refl)
negative-neg_ℤ (pos (suc x)) h = refl
negative-neg_ℤ (negsuc x) h = refl

negatives-swap : (w : List ℤ) → negatives (swap w) ≡ negatives w
unfolding swap negatives
negatives-swap [] = refl
negatives-swap (x ∷ []) = refl
negatives-swap (x ∷ y ∷ w) = omega arith

pub negatives-from-swap : (p : ℕ) (w : List ℤ) → negatives (from p swap w) ≡ negatives w
unfolding from negatives
negatives-from-swap zero w = negatives-swap w
negatives-from-swap (suc p) [] = refl
negatives-from-swap (suc p) (x ∷ w) = ap (λ (m : ℕ). one (negative x) + m) (negatives-from-swap p w)

pub odd-one_add : (t : Bool) (m : ℕ) → odd (one t + m) ≡ pick t (not (odd m)) (odd m)
unfolding odd one
odd-one_add true m = rw one-add
odd-one_add false m = rw zero-add

odd_negate_both : (a b : Bool) (m : ℕ) → odd (one (not b) + (one (not a) + m)) ≡ odd (one a + (one b + m))
odd_negate_both a b m = simp odd-one_add (odd_negate_both_by_cases a b)
  where
    odd_negate_both_by_cases : (a b : Bool)
        → pick (not b) (not (pick (not a) (not (odd m)) (odd m))) (pick (not a) (not (odd m)) (odd m))
        ≡ pick a (not (pick b (not (odd m)) (odd m))) (pick b (not (odd m)) (odd m))
    odd_negate_both_by_cases true true = sym (not-not (odd m))
    odd_negate_both_by_cases true false = refl
    odd_negate_both_by_cases false true = refl
    odd_negate_both_by_cases false false = not-not (odd m)

nonzero : (e : ℤ) (w : List ℤ) → has_size 0 (e ∷ w) ≡ false → nat_abs e ≡ 0 → ⊥
nonzero e w h = eqb-false (nat_abs e) 0 (has_size-head 0 e w h)

odd-swap_negate : (w : List ℤ) → has_size 0 w ≡ false → odd (negatives (swap_negate w)) ≡ odd (negatives w)
unfolding swap_negate negatives
odd-swap_negate [] h = refl
odd-swap_negate (x ∷ []) h = refl
odd-swap_negate (x ∷ y ∷ w) h =
    rw (negative-neg_ℤ x (nonzero x (y ∷ w) h), negative-neg_ℤ y (nonzero y w (has_size-tail 0 x (y ∷ w) h)))
    (odd_negate_both (negative x) (negative y) (negatives w))

pub odd-from-swap_negate : (p : ℕ) (w : List ℤ) → has_size 0 w ≡ false → odd (negatives (from p swap_negate w)) ≡ odd (negatives w)
unfolding from negatives
odd-from-swap_negate zero w h = odd-swap_negate w h
odd-from-swap_negate (suc p) [] h = refl
odd-from-swap_negate (suc p) (x ∷ w) h = simp odd-one_add (rw (odd-from-swap_negate p w (has_size-tail 0 x w h)))

pub negatives-map_pos : (l : List ℕ) → negatives (map pos l) ≡ 0
unfolding negatives negative one
negatives-map_pos [] = refl
negatives-map_pos (i ∷ l) = omega (arith, negatives-map_pos l)
