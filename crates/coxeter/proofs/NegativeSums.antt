-- The negative sum pairs of a window by its negative entries alone. Of two entries the one of the smaller size
-- decides: the pair is a negative sum pair exactly when that one is negative. So a negative entry e has as many of
-- these pairs as there are larger sizes, lanes − |e|.
-- Assumes nothing.
use mathlib.Core.Path.{◌≡◌, refl, sym, ap, ◌∙◌}
use mathlib.Core.Bool.{Bool, true, false, not}
use mathlib.Core.List.{List, [], ◌∷◌, map}
use Prim.Native.Nat.{ℕ, zero, suc, ◌+◌, ◌-◌, ◌≤◌}
use native.Mathlib.Omega.{arith}
use borrow.Author.Tests.{ltb-true, ltb-false, eqb-false, lt-ltb, le-ltb}
use lib.Dec.{ltb}
use lib.IntN.{ℤ, pos, negsuc, neg_ℤ, nat_abs}
use lib.ListN.{length}
use Rattle.coxeter.specs.Kinds.{pick}
use Rattle.coxeter.specs.Length.{later, negative, one, later_than, negative_sum_pairs}
use Rattle.coxeter.specs.Checks.{has_size}
use Rattle.coxeter.proofs.Levels.{Between, Distinct, Level, length_le_of_distinct, has_size-below}
use Rattle.coxeter.proofs.Sizes.{has_size-tail, has_size-head}

-- ---- how many sizes of a level are larger

-- the entries that pass a test
unfoldable passing : (ℤ → Bool) → List ℤ → List ℤ
passing f [] = []
passing f (e ∷ w) = pick (f e) (e ∷ passing f w) (passing f w)

has_size-passing : (f : ℤ → Bool) (s : ℕ) (w : List ℤ) → has_size s w ≡ false → has_size s (passing f w) ≡ false
unfolding passing has_size
has_size-passing f s [] h = refl
has_size-passing f s (e ∷ w) h = has_size-passing_by_cases (f e) (has_size-passing f s w (has_size-tail s e w h))
  where
    has_size-passing_by_cases : (t : Bool) → has_size s (passing f w) ≡ false → has_size s (pick t (e ∷ passing f w) (passing f w)) ≡ false
    has_size-passing_by_cases true r = rw (has_size-head s e w h, r)
    has_size-passing_by_cases false r = r

distinct_passing : (f : ℤ → Bool) (w : List ℤ) → Distinct w → Distinct (passing f w)
unfolding passing
distinct_passing f [] d = tt
distinct_passing f (e ∷ w) d = distinct_passing_by_cases (f e) (distinct_passing f w d.1)
  where
    distinct_passing_by_cases : (t : Bool) → Distinct (passing f w) → Distinct (pick t (e ∷ passing f w) (passing f w))
    distinct_passing_by_cases true r = (has_size-passing f (nat_abs e) w d.0, r)
    distinct_passing_by_cases false r = r

-- a size above a, and one that is not
abbrev above : ℕ → ℤ → Bool
above a e = ltb a (nat_abs e)

abbrev up_to : ℕ → ℤ → Bool
up_to a e = not (ltb a (nat_abs e))

between-above : (a c : ℕ) (w : List ℤ) → Between 1 c w → Between (suc a) c (passing (above a) w)
unfolding passing
between-above a c [] b = tt
between-above a c (e ∷ w) b = between-above_by_cases (ltb a (nat_abs e)) refl (between-above a c w b.2)
  where
    between-above_by_cases : (t : Bool) → ltb a (nat_abs e) ≡ t → Between (suc a) c (passing (above a) w)
        → Between (suc a) c (pick t (e ∷ passing (above a) w) (passing (above a) w))
    between-above_by_cases true q r = (omega (arith, ltb-true a (nat_abs e) q), b.1, r)
    between-above_by_cases false q r = r

between-up_to : (a c : ℕ) (w : List ℤ) → Between 1 c w → Between 1 (1 + a) (passing (up_to a) w)
unfolding passing
between-up_to a c [] b = tt
between-up_to a c (e ∷ w) b = between-up_to_by_cases (ltb a (nat_abs e)) refl (between-up_to a c w b.2)
  where
    between-up_to_by_cases : (t : Bool) → ltb a (nat_abs e) ≡ t → Between 1 (1 + a) (passing (up_to a) w)
        → Between 1 (1 + a) (pick (not t) (e ∷ passing (up_to a) w) (passing (up_to a) w))
    between-up_to_by_cases true q r = r
    between-up_to_by_cases false q r = (b.0, omega (arith, ltb-false a (nat_abs e) q), r)

length-passing_add : (a : ℕ) (w : List ℤ) → length (passing (above a) w) + length (passing (up_to a) w) ≡ length w
unfolding passing
length-passing_add a [] = refl
length-passing_add a (e ∷ w) = length-passing_add_by_cases (ltb a (nat_abs e)) (length-passing_add a w)
  where
    length-passing_add_by_cases : (t : Bool) → length (passing (above a) w) + length (passing (up_to a) w) ≡ length w
        → length (pick t (e ∷ passing (above a) w) (passing (above a) w)) + length (pick (not t) (e ∷ passing (up_to a) w) (passing (up_to a) w)) ≡ suc (length w)
    length-passing_add_by_cases true r = omega arith
    length-passing_add_by_cases false r = omega arith

-- how many entries have a size above a
unfoldable larger : ℕ → List ℤ → ℕ
larger a [] = 0
larger a (e ∷ w) = one (ltb a (nat_abs e)) + larger a w

larger-passing : (a : ℕ) (w : List ℤ) → larger a w ≡ length (passing (above a) w)
unfolding larger passing one
larger-passing a [] = refl
larger-passing a (e ∷ w) = larger-passing_by_cases (ltb a (nat_abs e)) (larger-passing a w)
  where
    larger-passing_by_cases : (t : Bool) → larger a w ≡ length (passing (above a) w)
        → pick t 1 0 + larger a w ≡ length (pick t (e ∷ passing (above a) w) (passing (above a) w))
    larger-passing_by_cases true r = omega arith
    larger-passing_by_cases false r = omega arith

larger_level : (a : ℕ) (w : List ℤ) → Level 1 w → a ≤ length w → larger a w ≡ length w - a
larger_level a w h l =
    let most = length_le_of_distinct (suc a) (length w - a) (1 + length w) (passing (above a) w) (omega arith)
    (between-above a (1 + length w) w h.between) (distinct_passing (above a) w h.distinct) in
    let least = length_le_of_distinct 1 a (1 + a) (passing (up_to a) w) refl
    (between-up_to a (1 + length w) w h.between) (distinct_passing (up_to a) w h.distinct) in
    omega (arith, larger-passing a w, length-passing_add a w)

-- ---- pairs

one_split : (a b : ℕ) → (b ≡ a → ⊥) → one (ltb a b) + one (ltb b a) ≡ 1
unfolding one
one_split a b d = one_split_by_cases (ltb a b) refl
  where
    one_split_by_cases : (t : Bool) → ltb a b ≡ t → pick t 1 0 + pick (ltb b a) 1 0 ≡ 1
    one_split_by_cases true q = rw (le-ltb b a (omega (arith, ltb-true a b q)))
    one_split_by_cases false q = rw (lt-ltb b a (omega (arith, ltb-false a b q)))

ltb-suc : (a b : ℕ) → ltb a b ≡ ltb (suc a) (suc b)
ltb-suc a b = ltb-suc_by_cases (ltb a b) refl
  where
    ltb-suc_by_cases : (t : Bool) → ltb a b ≡ t → t ≡ ltb (suc a) (suc b)
    ltb-suc_by_cases true q = sym (lt-ltb (suc a) (suc b) (omega (arith, ltb-true a b q)))
    ltb-suc_by_cases false q = sym (le-ltb (suc a) (suc b) (omega (arith, ltb-false a b q)))

-- an entry before the negative of another: the smaller of the two sizes decides
one-later-neg_ℤ : (x y : ℤ) → 1 ≤ nat_abs y → (nat_abs y ≡ nat_abs x → ⊥)
    → one (later x (neg_ℤ y)) ≡ pick (negative x) (one (ltb (nat_abs x) (nat_abs y))) 0 + pick (negative y) (one (ltb (nat_abs y) (nat_abs x))) 0
unfolding later negative
one-later-neg_ℤ (pos a) (pos zero) h d = absurd (omega arith)
one-later-neg_ℤ (pos a) (pos (suc b)) h d = unfold one in refl
one-later-neg_ℤ (pos a) (negsuc b) h d = omega arith
one-later-neg_ℤ (negsuc a) (pos zero) h d = absurd (omega arith)
one-later-neg_ℤ (negsuc a) (pos (suc b)) h d = ap one (ltb-suc a b) ∙ omega arith
one-later-neg_ℤ (negsuc a) (negsuc b) h d = unfold one in sym (one_split (suc a) (suc b) d)

-- the negative entries of a size below s
unfoldable negatives_below : ℕ → List ℤ → ℕ
negatives_below s [] = 0
negatives_below s (e ∷ w) = pick (negative e) (one (ltb (nat_abs e) s)) 0 + negatives_below s w

pick_add : (t : Bool) (a b : ℕ) → pick t (a + b) 0 ≡ pick t a 0 + pick t b 0
pick_add true a b = refl
pick_add false a b = refl

later_than-map-neg_ℤ : (x : ℤ) (w : List ℤ) → has_size 0 w ≡ false → has_size (nat_abs x) w ≡ false
    → later_than x (map neg_ℤ w) ≡ pick (negative x) (larger (nat_abs x) w) 0 + negatives_below (nat_abs x) w
unfolding later_than larger negatives_below
later_than-map-neg_ℤ x [] z h = later_than-map-neg_ℤ_by_cases (negative x)
  where
    later_than-map-neg_ℤ_by_cases : (t : Bool) → 0 ≡ pick t 0 0 + 0
    later_than-map-neg_ℤ_by_cases true = refl
    later_than-map-neg_ℤ_by_cases false = refl
later_than-map-neg_ℤ x (y ∷ w) z h =
    let nonzero : nat_abs y ≡ 0 → ⊥ = eqb-false (nat_abs y) 0 (has_size-head 0 y w z) in
    let apart : nat_abs y ≡ nat_abs x → ⊥ = eqb-false (nat_abs y) (nat_abs x) (has_size-head (nat_abs x) y w h) in
    let first = one-later-neg_ℤ x y (omega arith) apart in
    let rest = later_than-map-neg_ℤ x w (has_size-tail 0 y w z) (has_size-tail (nat_abs x) y w h) in
    omega (arith, pick_add (negative x) (one (ltb (nat_abs x) (nat_abs y))) (larger (nat_abs x) w))

-- ---- all pairs

-- for each negative entry of v the entries of w that are larger in size
unfoldable larger_over : List ℤ → List ℤ → ℕ
larger_over w [] = 0
larger_over w (e ∷ v) = pick (negative e) (larger (nat_abs e) w) 0 + larger_over w v

larger_over_cons : (x : ℤ) (w v : List ℤ) → larger_over (x ∷ w) v ≡ larger_over w v + negatives_below (nat_abs x) v
unfolding larger_over negatives_below larger
larger_over_cons x w [] = refl
larger_over_cons x w (e ∷ v) =
    omega (arith, larger_over_cons x w v, pick_add (negative e) (one (ltb (nat_abs e) (nat_abs x))) (larger (nat_abs e) w))

larger_over-head : (x : ℤ) (w : List ℤ) → larger (nat_abs x) (x ∷ w) ≡ larger (nat_abs x) w
unfolding larger one
larger_over-head x w = rw (le-ltb (nat_abs x) (nat_abs x) (omega arith)) (omega arith)

negative_sum_pairs-larger : (c : ℕ) (w : List ℤ) → Between 1 c w → Distinct w → negative_sum_pairs w ≡ larger_over w w
unfolding negative_sum_pairs
negative_sum_pairs-larger c [] b d = unfold larger_over in refl
negative_sum_pairs-larger c (x ∷ w) b d =
    let first = later_than-map-neg_ℤ x w (has_size-below 1 c 0 w (omega arith) b.2) d.0 in
    let rest = negative_sum_pairs-larger c w b.2 d.1 in
    let own : larger_over (x ∷ w) (x ∷ w) ≡ pick (negative x) (larger (nat_abs x) w) 0 + larger_over (x ∷ w) w =
    unfold larger_over in rw (larger_over-head x w) in
    omega (arith, larger_over_cons x w w)

-- what the negative entries of v lack to the size m
unfoldable pub lack_of_negatives : ℕ → List ℤ → ℕ
lack_of_negatives m [] = 0
lack_of_negatives m (e ∷ v) = pick (negative e) (m - nat_abs e) 0 + lack_of_negatives m v

larger_over_level : (w v : List ℤ) → Level 1 w → Between 1 (1 + length w) v → larger_over w v ≡ lack_of_negatives (length w) v
unfolding larger_over lack_of_negatives
larger_over_level w [] h b = refl
larger_over_level w (e ∷ v) h b = rw (larger_level (nat_abs e) w h (omega arith), larger_over_level w v h b.2)

pub negative_sum_pairs_level : (w : List ℤ) → Level 1 w → negative_sum_pairs w ≡ lack_of_negatives (length w) w
negative_sum_pairs_level w h =
    negative_sum_pairs-larger (1 + length w) w h.between h.distinct ∙ larger_over_level w w h h.between
