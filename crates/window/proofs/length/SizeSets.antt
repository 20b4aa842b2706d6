-- The sizes of some entries as a set in a number, one binary digit a size. A shift drops the smaller sizes, and the
-- set digits count the others.
--
-- Sections: the set; one entry more; how many sizes; the sizes from s on.
-- Assumes nothing.
use mathlib.Core.Path.{◌≡◌, refl, sym, ap, ◌∙◌}
use mathlib.Core.Bool.{Bool, true, false, not, ◌||◌, or-true, or-false}
use mathlib.Core.List.{List, [], ◌∷◌, map}
use Prim.Native.Nat.{ℕ, zero, suc, ◌+◌, ◌-◌, ◌*◌, ◌/◌, ◌%◌, ◌^◌, ◌≤◌, ◌<◌, max}
use native.Mathlib.Nat.{add-zero, pow-zero, pow-suc, div-one}
use native.Mathlib.Omega.{arith}
use lib.Bits.{bit_or, or_step, or_zero_r}
use lib.Count.{ones, ones_step}
use lib.Dec.{ltb}
use lib.IntN.{ℤ, nat_abs}
use lib.ListN.{length}
use lib.Pow.{shr-shr}
use borrow.Author.Tests.{eq-eqb, ne_eqb, ltb-true, ltb-false}
use Rattle.coxeter.specs.Kinds.{pick}
use Rattle.coxeter.specs.Length.{one, later, later_than}
use Rattle.coxeter.specs.Checks.{has_size}
use Rattle.coxeter.proofs.Levels.{Between, Distinct}
use Rattle.coxeter.proofs.PairWeights.{one_le}
use Rattle.window.proofs.length.Sums.{smaller}

-- ---- the set

-- of d sizes from s on those that w has; s is the lowest digit
unfoldable pub size_set : ℕ → ℕ → List ℤ → ℕ
size_set zero s w = 0
size_set (suc d) s w = 2 * size_set d (suc s) w + one (has_size s w)

pub size_set_nil : (d s : ℕ) → size_set d s [] ≡ 0
unfolding size_set has_size one
size_set_nil zero s = refl
size_set_nil (suc d) s = rw (size_set_nil d (suc s))

pub size_set_lt : (d s : ℕ) (w : List ℤ) → size_set d s w < 2 ^ d
unfolding size_set
size_set_lt zero s w = omega arith
size_set_lt (suc d) s w = omega (arith, size_set_lt d (suc s) w, one_le (has_size s w), pow-suc 2 d)

pub digit_half : (t : Bool) (x : ℕ) → (2 * x + one t) / 2 ≡ x
unfolding one
digit_half true x = omega arith
digit_half false x = omega arith

pub digit_odd : (t : Bool) (x : ℕ) → (2 * x + one t) % 2 ≡ one t
unfolding one
digit_odd true x = omega arith
digit_odd false x = omega arith

-- ---- one entry more

-- an entry of the size s
there : (s : ℕ) (e : ℤ) (w : List ℤ) → nat_abs e ≡ s → has_size s (e ∷ w) ≡ true
unfolding has_size
there s e w q = rw (eq-eqb (nat_abs e) s q)

-- of another size
apart : (s : ℕ) (e : ℤ) (w : List ℤ) → (nat_abs e ≡ s → ⊥) → has_size s (e ∷ w) ≡ has_size s w
unfolding has_size
apart s e w n = rw (ne_eqb (nat_abs e) s n)

-- of a size below s
size_set-below : (d s : ℕ) (e : ℤ) (w : List ℤ) → nat_abs e < s → size_set d s (e ∷ w) ≡ size_set d s w
unfolding size_set
size_set-below zero s e w l = refl
size_set-below (suc d) s e w l = rw (size_set-below d (suc s) e w (omega arith), apart s e w (λ q. omega arith))

lowest : (t u : Bool) (z : ℕ) → z * 2 + max (one t) (one u) ≡ 2 * z + one (t || u)
unfolding one
lowest true true z = omega arith
lowest true false z = omega arith
lowest false true z = omega arith
lowest false false z = omega arith

-- digit by digit
or_digits : (t u : Bool) (x y : ℕ) → bit_or (2 * x + one t) (2 * y + one u) ≡ 2 * bit_or x y + one (t || u)
or_digits t u x y =
    or_step (2 * x + one t) (2 * y + one u) ∙ rw (digit_half t x, digit_half u y, digit_odd t x, digit_odd u y) (lowest t u (bit_or x y))

or_lowest : (t : Bool) (x : ℕ) → bit_or (2 * x + one t) 1 ≡ 2 * x + one true
unfolding one
or_lowest t x = or_digits t true x 0 ∙ rw (or-true t, or_zero_r x)

or_higher : (t : Bool) (x y : ℕ) → bit_or (2 * x + one t) (2 * y) ≡ 2 * bit_or x y + one t
unfolding one
or_higher t x y =
    ap (bit_or (2 * x + one t)) (sym (add-zero (2 * y)))
    ∙ or_digits t false x y
    ∙ ap (λ (u : Bool). 2 * bit_or x y + one u) (or-false t)

-- an entry of the size s + p
pub size_set_cons : (d s p : ℕ) (e : ℤ) (w : List ℤ) → nat_abs e ≡ s + p → p < d → size_set d s (e ∷ w) ≡ bit_or (size_set d s w) (2 ^ p)
unfolding size_set
size_set_cons zero s p e w q l = absurd (omega arith)
size_set_cons (suc d) s zero e w q l =
    rw (there s e w (omega arith), size_set-below d (suc s) e w (omega arith)) (sym (or_lowest (has_size s w) (size_set d (suc s) w)))
size_set_cons (suc d) s (suc p) e w q l =
    let twice : 2 ^ suc p ≡ 2 * 2 ^ p = omega (arith, pow-suc 2 p) in
    rw (size_set_cons d (suc s) p e w (omega arith) (omega arith), apart s e w (λ a. omega arith), twice)
    (sym (or_higher (has_size s w) (size_set d (suc s) w) (2 ^ p)))

-- ---- how many sizes

pub ones_digit : (t : Bool) (x : ℕ) → ones (2 * x + one t) ≡ one t + ones x
ones_digit t x = ones_step (2 * x + one t) ∙ rw (digit_odd t x, digit_half t x)

one_more : (t : Bool) (y : ℕ) → one true + y ≡ one (not t) + (one t + y)
unfolding one
one_more true y = omega arith
one_more false y = omega arith

-- an entry of the size s + p counts if its size is new
ones_cons : (d s p : ℕ) (e : ℤ) (w : List ℤ) → nat_abs e ≡ s + p → p < d
    → ones (size_set d s (e ∷ w)) ≡ one (not (has_size (nat_abs e) w)) + ones (size_set d s w)
unfolding size_set
ones_cons zero s p e w q l = absurd (omega arith)
ones_cons (suc d) s zero e w q l =
    let x = size_set d (suc s) w in
    let a : nat_abs e ≡ s = omega arith in
    rw (there s e w a, size_set-below d (suc s) e w (omega arith), ones_digit true x, ones_digit (has_size s w) x, a) (one_more (has_size s w) (ones x))
ones_cons (suc d) s (suc p) e w q l =
    let x = size_set d (suc s) w in
    rw (ones_digit (has_size s (e ∷ w)) (size_set d (suc s) (e ∷ w)), ones_digit (has_size s w) x, apart s e w (λ a. omega arith))
    (omega (arith, ones_cons d (suc s) p e w (omega arith) (omega arith)))

-- ---- the sizes from s on

-- the sizes below s + p are shifted out
shifted : (p d s : ℕ) (w : List ℤ) → size_set (p + d) s w / 2 ^ p ≡ size_set d (s + p) w
unfolding size_set
shifted zero d s w =
    let a : 0 + d ≡ d = omega arith in
    let b : s + 0 ≡ s = omega arith in
    rw (a, b, pow-zero 2) (div-one (size_set d s w))
shifted (suc p) d s w =
    let more : suc p + d ≡ suc (p + d) = omega arith in
    let step : suc p ≡ 1 + p = omega arith in
    rw (more, step) (sym (shr-shr (2 * size_set (p + d) (suc s) w + one (has_size s w)) 1 p))
    ∙ ap (λ (x : ℕ). x / 2 ^ p) (digit_half (has_size s w) (size_set (p + d) (suc s) w))
    ∙ shifted p d (suc s) w
    ∙ ap (λ (x : ℕ). size_set d x w) (omega arith)

-- each entry is counted by a digit, or has a size below s
ones_or_smaller : (d s : ℕ) (w : List ℤ) → Between 1 (s + d) w → Distinct w → ones (size_set d s w) + smaller s (map nat_abs w) ≡ length w
unfolding smaller later_than later one
ones_or_smaller d s [] b h = rw (size_set_nil d s) (unfold ones in refl)
ones_or_smaller d s (e ∷ w) b h = ones_or_smaller_by_cases (ltb (nat_abs e) s) refl (ones_or_smaller d s w b.2 h.1)
  where
    ones_or_smaller_by_cases : (t : Bool) → ltb (nat_abs e) s ≡ t → ones (size_set d s w) + smaller s (map nat_abs w) ≡ length w
        → ones (size_set d s (e ∷ w)) + (pick t 1 0 + smaller s (map nat_abs w)) ≡ suc (length w)
    ones_or_smaller_by_cases true q r = rw (size_set-below d s e w (ltb-true (nat_abs e) s q)) (omega (arith, r))
    ones_or_smaller_by_cases false q r =
        let l = ltb-false (nat_abs e) s q in
        rw (ones_cons d s (nat_abs e - s) e w (omega arith) (omega arith), h.0) (omega (arith, r))

-- of m sizes, how many are a or larger
unfoldable pub from_size : ℕ → ℕ → List ℤ → ℕ
from_size m a w = ones (size_set m 1 w / 2 ^ (a - 1))

from_size_is : (m a : ℕ) (w : List ℤ) → 1 ≤ a → a ≤ m → from_size m a w ≡ ones (size_set (1 + m - a) a w)
unfolding from_size
from_size_is m a w l h =
    let all : a - 1 + (1 + m - a) ≡ m = omega arith in
    let first : 1 + (a - 1) ≡ a = omega arith in
    ap ones (rw (all, first) at (shifted (a - 1) (1 + m - a) 1 w))

-- each entry has a size of at least a or one below a
pub from_size_add_smaller : (m a : ℕ) (w : List ℤ) → 1 ≤ a → a ≤ m → Between 1 (1 + m) w → Distinct w
    → from_size m a w + smaller a (map nat_abs w) ≡ length w
from_size_add_smaller m a w l h b d =
    let upper : a + (1 + m - a) ≡ 1 + m = omega arith in
    rw (from_size_is m a w l h) (ones_or_smaller (1 + m - a) a w (rw upper b) d)
