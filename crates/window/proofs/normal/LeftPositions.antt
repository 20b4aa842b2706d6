-- The entries of size i and more of a window, which are left at level i, and the set of their positions, one binary
-- digit a position. Taking the entry of size i out takes its digit out; the digits behind it count the entries behind.
--
-- Sections: the entries left; their positions; one entry taken out.
-- Assumes nothing.
use mathlib.Core.Path.{◌≡◌, refl, sym, ap, ◌∙◌}
use mathlib.Core.Bool.{Bool, true, false}
use mathlib.Core.List.{List, [], ◌∷◌, ◌++◌}
use Prim.Native.Nat.{ℕ, suc, ◌+◌, ◌-◌, ◌*◌, ◌/◌, ◌%◌, ◌^◌}
use native.Mathlib.Nat.{pow-zero, pow-suc, div-one}
use native.Mathlib.Omega.{arith}
use lib.Bits.{differ, bit_xor, xor_step, xor_zero_r}
use lib.Count.{ones}
use lib.Dec.{leb}
use lib.IntN.{ℤ, nat_abs}
use lib.ListN.{length}
use lib.Pow.{pow_pos, shr-shr}
use borrow.Author.Tests.{eqb-false, le-leb, lt-leb, leb-true, leb-false}
use Rattle.coxeter.specs.Kinds.{pick}
use Rattle.coxeter.specs.Length.{one}
use Rattle.coxeter.specs.Checks.{has_size}
use Rattle.coxeter.proofs.Levels.{Between}
use Rattle.coxeter.proofs.Sizes.{has_size-head, has_size-tail}
use Rattle.window.proofs.length.SizeSets.{digit_half, digit_odd, ones_digit}

-- ---- the entries left

unfoldable pub entries_from : ℕ → List ℤ → List ℤ
entries_from i [] = []
entries_from i (e ∷ w) = pick (leb i (nat_abs e)) (e ∷ entries_from i w) (entries_from i w)

pub entries_from-append : (i : ℕ) (u v : List ℤ) → entries_from i (u ++ v) ≡ entries_from i u ++ entries_from i v
unfolding entries_from
entries_from-append i [] v = refl
entries_from-append i (e ∷ u) v = entries_from-append_by_cases (leb i (nat_abs e)) (entries_from-append i u v)
  where
    entries_from-append_by_cases : (t : Bool) → entries_from i (u ++ v) ≡ entries_from i u ++ entries_from i v
        → pick t (e ∷ entries_from i (u ++ v)) (entries_from i (u ++ v)) ≡ pick t (e ∷ entries_from i u) (entries_from i u) ++ entries_from i v
    entries_from-append_by_cases true r = ap (λ (l : List ℤ). e ∷ l) r
    entries_from-append_by_cases false r = r

-- all entries, at level 1
pub entries_from_all : (c : ℕ) (w : List ℤ) → Between 1 c w → entries_from 1 w ≡ w
unfolding entries_from
entries_from_all c [] b = refl
entries_from_all c (e ∷ w) b = rw (le-leb 1 (nat_abs e) b.0) (ap (λ (l : List ℤ). e ∷ l) (entries_from_all c w b.2))

-- the entry of size i is the only one that level i takes
pub entries_from_own : (i : ℕ) (e : ℤ) (v : List ℤ) → nat_abs e ≡ i → entries_from i (e ∷ v) ≡ e ∷ entries_from i v
unfolding entries_from
entries_from_own i e v h = rw (le-leb i (nat_abs e) (omega arith))

pub entries_from_gone : (i : ℕ) (e : ℤ) (v : List ℤ) → nat_abs e ≡ i → entries_from (suc i) (e ∷ v) ≡ entries_from (suc i) v
unfolding entries_from
entries_from_gone i e v h = rw (lt-leb (suc i) (nat_abs e) (omega arith))

-- another entry is at least as large as i exactly if it is larger
same_test : (i a : ℕ) → (a ≡ i → ⊥) → leb (suc i) a ≡ leb i a
same_test i a d = same_test_by_cases (leb i a) refl
  where
    same_test_by_cases : (t : Bool) → leb i a ≡ t → leb (suc i) a ≡ t
    same_test_by_cases true q = let l = leb-true i a q in le-leb (suc i) a (omega arith)
    same_test_by_cases false q = let l = leb-false i a q in lt-leb (suc i) a (omega arith)

other : (i : ℕ) (e : ℤ) (w : List ℤ) → has_size i (e ∷ w) ≡ false → leb (suc i) (nat_abs e) ≡ leb i (nat_abs e)
other i e w h = same_test i (nat_abs e) (eqb-false (nat_abs e) i (has_size-head i e w h))

pub entries_from_same : (i : ℕ) (w : List ℤ) → has_size i w ≡ false → entries_from (suc i) w ≡ entries_from i w
unfolding entries_from
entries_from_same i [] h = refl
entries_from_same i (e ∷ w) h = rw (other i e w h, entries_from_same i w (has_size-tail i e w h))

pub entries_from_missing : (i s : ℕ) (w : List ℤ) → has_size s w ≡ false → has_size s (entries_from i w) ≡ false
unfolding entries_from has_size
entries_from_missing i s [] h = h
entries_from_missing i s (e ∷ w) h = entries_from_missing_by_cases (leb i (nat_abs e)) (entries_from_missing i s w (has_size-tail s e w h))
  where
    entries_from_missing_by_cases : (t : Bool) → has_size s (entries_from i w) ≡ false → has_size s (pick t (e ∷ entries_from i w) (entries_from i w)) ≡ false
    entries_from_missing_by_cases true r = rw (has_size-head s e w h) r
    entries_from_missing_by_cases false r = r

-- ---- their positions

unfoldable pub positions_from : ℕ → List ℤ → ℕ
positions_from i [] = 0
positions_from i (e ∷ w) = 2 * positions_from i w + one (leb i (nat_abs e))

-- each digit counts an entry
pub ones_positions : (i : ℕ) (w : List ℤ) → ones (positions_from i w) ≡ length (entries_from i w)
unfolding positions_from entries_from one
ones_positions i [] = unfold ones in refl
ones_positions i (e ∷ w) = ones_digit (leb i (nat_abs e)) (positions_from i w) ∙ ones_positions_by_cases (leb i (nat_abs e)) (ones_positions i w)
  where
    ones_positions_by_cases : (t : Bool) → ones (positions_from i w) ≡ length (entries_from i w)
        → one t + ones (positions_from i w) ≡ length (pick t (e ∷ entries_from i w) (entries_from i w))
    ones_positions_by_cases true r = omega arith
    ones_positions_by_cases false r = omega arith

-- the positions in front are shifted out
pub positions_behind : (i : ℕ) (u v : List ℤ) → positions_from i (u ++ v) / 2 ^ length u ≡ positions_from i v
unfolding positions_from
positions_behind i [] v = rw (pow-zero 2) (div-one (positions_from i v))
positions_behind i (e ∷ u) v =
    let step : suc (length u) ≡ 1 + length u = omega arith in
    rw step (sym (shr-shr (2 * positions_from i (u ++ v) + one (leb i (nat_abs e))) 1 (length u)))
    ∙ ap (λ (x : ℕ). x / 2 ^ length u) (digit_half (leb i (nat_abs e)) (positions_from i (u ++ v)))
    ∙ positions_behind i u v

-- all positions, at level 1
pub positions_all : (c : ℕ) (w : List ℤ) → Between 1 c w → positions_from 1 w ≡ 2 ^ length w - 1
unfolding positions_from one
positions_all c [] b = refl
positions_all c (e ∷ w) b =
    let r : positions_from 1 w ≡ 2 ^ length w - 1 = positions_all c w b.2 in
    rw (le-leb 1 (nat_abs e) b.0) (omega (arith, r, pow-suc 2 (length w), pow_pos (length w)))

-- ---- one entry taken out

positions_same : (i : ℕ) (w : List ℤ) → has_size i w ≡ false → positions_from (suc i) w ≡ positions_from i w
unfolding positions_from
positions_same i [] h = refl
positions_same i (e ∷ w) h = rw (other i e w h, positions_same i w (has_size-tail i e w h))

-- the lowest digit, and the others
xor_lowest : (x : ℕ) → bit_xor (2 * x + 1) 1 ≡ 2 * x
xor_lowest x =
    let half : (2 * x + 1) / 2 ≡ x = omega arith in
    let rest : (2 * x + 1) % 2 ≡ 1 = omega arith in
    xor_step (2 * x + 1) 1 ∙ rw (half, rest, xor_zero_r x) (omega arith)

double_one : (t : Bool) (z : ℕ) → z * 2 + differ (one t) 0 ≡ 2 * z + one t
unfolding one
double_one true z = omega arith
double_one false z = omega arith

xor_higher : (t : Bool) (x y : ℕ) → bit_xor (2 * x + one t) (2 * y) ≡ 2 * bit_xor x y + one t
xor_higher t x y =
    let half : 2 * y / 2 ≡ y = omega arith in
    let rest : 2 * y % 2 ≡ 0 = omega arith in
    xor_step (2 * x + one t) (2 * y) ∙ rw (digit_half t x, digit_odd t x, half, rest) (double_one t (bit_xor x y))

pub positions_taken : (i : ℕ) (u : List ℤ) (e : ℤ) (v : List ℤ) → nat_abs e ≡ i → has_size i u ≡ false → has_size i v ≡ false
    → positions_from (suc i) (u ++ (e ∷ v)) ≡ bit_xor (positions_from i (u ++ (e ∷ v))) (2 ^ length u)
unfolding positions_from one
positions_taken i [] e v h z y =
    rw (lt-leb (suc i) (nat_abs e) (omega arith), le-leb i (nat_abs e) (omega arith), positions_same i v y, pow-zero 2)
    (omega (arith, xor_lowest (positions_from i v)))
positions_taken i (x ∷ u) e v h z y =
    let twice : 2 ^ suc (length u) ≡ 2 * 2 ^ length u = omega (arith, pow-suc 2 (length u)) in
    rw (other i x u z, positions_taken i u e v h (has_size-tail i x u z) y, twice)
    (sym (xor_higher (leb i (nat_abs x)) (positions_from i (u ++ (e ∷ v))) (2 ^ length u)))
