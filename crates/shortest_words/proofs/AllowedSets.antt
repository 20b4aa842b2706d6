-- Sets of allowed steps as numbers: a step is allowed exactly when its bit is 1, refusal 16 comes exactly when a bit
-- stands for a step above the rank, 0 allows no step, and all bits of the steps allow each of them.
--
-- Sections: bits; refusal 16; no step and all steps.
-- Assumes nothing.
use mathlib.Core.Path.{◌≡◌, refl, sym, ap, ◌∙◌}
use mathlib.Core.Bool.{Bool, true, false}
use mathlib.Core.Logic.{◌↔◌}
use Prim.Native.Nat.{ℕ, zero, suc, ◌+◌, ◌-◌, ◌*◌, ◌/◌, ◌%◌, ◌^◌, ◌≤◌, ◌<◌}
use native.Mathlib.Nat.{div-eq_of_lt, le-div_iff_mul-le, le_trans, lt_of_lt_of_le, mod-lt}
use native.Mathlib.Omega.{arith}
use lib.Pow.{pow_pos, pow_mono, shr-shr, ones_split, ones_lt, split, high, low}
use lib.Dec.{leb}
use borrow.Author.Tests.{leb-true, leb-false, le-leb, lt-leb, eqb-true, eq-eqb, ne_eqb}
use Rattle.shortest_words.specs.Allowed.{allows, wrong_set}

-- ---- bits

-- a number that is not 0 has a bit
abbrev SomeBit : ℕ → Type 0
SomeBit x = (t : ℕ) × (x / 2 ^ t % 2 ≡ 1)

some_bit : (f x : ℕ) → x ≤ f → 1 ≤ x → SomeBit x
some_bit zero x l o = absurd (omega arith)
some_bit (suc f) x l o = some_bit_by_cases (x % 2) refl (some_bit f (x / 2) (omega arith))
  where
    some_bit_by_cases : (b : ℕ) → x % 2 ≡ b → (1 ≤ x / 2 → SomeBit (x / 2)) → SomeBit x
    some_bit_by_cases zero e r =
        let b = r (omega arith) in
        (1 + b.0, ap (λ (y : ℕ). y % 2) (sym (shr-shr x 1 b.0)) ∙ b.1)
    some_bit_by_cases (suc b) e r = let o : x / 1 % 2 ≡ 1 = omega (arith, e) in (0, o)

-- a number with bit t is 2 to the t or more
pow_le_of_bit : (x t : ℕ) → x / 2 ^ t % 2 ≡ 1 → 2 ^ t ≤ x
pow_le_of_bit x t e = pow_le_of_bit_by_cases (leb (2 ^ t) x) refl
  where
    pow_le_of_bit_by_cases : (b : Bool) → leb (2 ^ t) x ≡ b → 2 ^ t ≤ x
    pow_le_of_bit_by_cases true h = leb-true (2 ^ t) x h
    pow_le_of_bit_by_cases false h = absurd (omega (arith, e, div-eq_of_lt (leb-false (2 ^ t) x h)))

-- S1: step s is allowed exactly when bit s − 1 is 1, with any bits above it and any below it
pub allows_exactly : (set s : ℕ) → (allows set s ≡ true)
    ↔ ((above below : ℕ) × (below < 2 ^ (s - 1)) × (set ≡ (2 * above + 1) * 2 ^ (s - 1) + below))
unfolding allows
allows_exactly set s =
    let p = 2 ^ (s - 1) in
    let h = set / p in (
      λ e.
          let o : h ≡ 2 * (h / 2) + 1 = omega (arith, eqb-true (h % 2) 1 e) in
          (h / 2, set % p, mod-lt set (pow_pos (s - 1)), sym (split set (s - 1)) ∙ ap (λ (x : ℕ). x * p + set % p) o),
      λ b.
          let o : h ≡ 2 * b.0 + 1 = ap (λ (x : ℕ). x / p) b.3 ∙ high (2 * b.0 + 1) (s - 1) b.2 in
          eq-eqb (h % 2) 1 (omega (arith, o)),
    )

-- ---- refusal 16

-- C16
pub wrong_set_exactly : (n set : ℕ) → (wrong_set n set ≡ true) ↔ ((s : ℕ) × (n < s) × (allows set s ≡ true))
unfolding wrong_set allows
wrong_set_exactly n set = (
  λ e.
      let q = (le-div_iff_mul-le {k = 2 ^ n} {x = 1} {y = set} (pow_pos n)).1 (omega (arith, leb-true (2 ^ n) set e)) in
      let b = some_bit (set / 2 ^ n) (set / 2 ^ n) (omega arith) q in
      let i : suc (n + b.0) - 1 ≡ n + b.0 = omega arith in
      (suc (n + b.0), omega arith, eq-eqb (set / 2 ^ (suc (n + b.0) - 1) % 2) 1 (rw (i, ← shr-shr set n b.0) b.1)),
  λ h. le-leb (2 ^ n) set (le_trans (pow_mono (omega (arith, h.1))) (pow_le_of_bit set (h.0 - 1) (eqb-true (set / 2 ^ (h.0 - 1) % 2) 1 h.2))),
)

-- the same by a shift, and for a number of 64 bits at rank 64
pub wrong_set-shifted : (n set : ℕ) → (set / 2 ^ n ≡ 0 → ⊥) → wrong_set n set ≡ true
unfolding wrong_set
wrong_set-shifted n set f = wrong_set-shifted_by_cases (leb (2 ^ n) set) refl
  where
    wrong_set-shifted_by_cases : (b : Bool) → leb (2 ^ n) set ≡ b → b ≡ true
    wrong_set-shifted_by_cases true e = refl
    wrong_set-shifted_by_cases false e = absurd (f (div-eq_of_lt (leb-false (2 ^ n) set e)))

pub right_set_shifted : (n set : ℕ) → set / 2 ^ n ≡ 0 → wrong_set n set ≡ false
unfolding wrong_set
right_set_shifted n set e = right_set_shifted_by_cases (leb (2 ^ n) set) refl
  where
    right_set_shifted_by_cases : (b : Bool) → leb (2 ^ n) set ≡ b → b ≡ false
    right_set_shifted_by_cases true h =
        let q = (le-div_iff_mul-le {k = 2 ^ n} {x = 1} {y = set} (pow_pos n)).1 (omega (arith, leb-true (2 ^ n) set h)) in
        absurd (omega (arith, e, q))
    right_set_shifted_by_cases false h = refl

pub right_set_full : (n set : ℕ) → 64 ≤ n → set < 2 ^ 64 → wrong_set n set ≡ false
unfolding wrong_set
right_set_full n set h f = lt-leb (2 ^ n) set (lt_of_lt_of_le f (pow_mono h))

-- ---- no step and all steps

-- the number 0 is the set of no step
pub allows_none : (s : ℕ) → allows 0 s ≡ false
unfolding allows
allows_none s = ne_eqb (0 / 2 ^ (s - 1) % 2) 1 (λ e. omega (arith, e, div-eq_of_lt (pow_pos (s - 1))))

-- the number 2 to the n, less 1, is the set of all steps of rank n
pub allows_all : (n s : ℕ) → 1 ≤ s → s ≤ n → allows (2 ^ n - 1) s ≡ true
unfolding allows
allows_all n s o l =
    let e : (n - s) + 1 + (s - 1) ≡ n = omega arith in
    let shifted = ap (λ (x : ℕ). x / 2 ^ (s - 1)) (ones_split ((n - s) + 1) (s - 1)) ∙ high (2 ^ ((n - s) + 1) - 1) (s - 1) (ones_lt (s - 1)) in
    let odd = ap (λ (x : ℕ). x % 2) (ones_split (n - s) 1) ∙ low (2 ^ (n - s) - 1) 1 (ones_lt 1) in
    eq-eqb ((2 ^ n - 1) / 2 ^ (s - 1) % 2) 1 (ap (λ (x : ℕ). x % 2) (rw e at shifted) ∙ odd)
