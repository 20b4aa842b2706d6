-- Signed bytes as integers, from the range of a byte: a byte read back from its bits, its size and sign, which the
-- module `entries` computes, and its negation.
-- Assumes nothing.
use mathlib.Core.Path.{◌≡◌, refl, sym, ◌∙◌}
use mathlib.Core.Bool.{true, false, false≢true}
use Prim.Native.Nat.{ℕ, zero, suc, ◌+◌, ◌<◌}
use native.Mathlib.Numerals.{add-one}
use native.Mathlib.Omega.{arith}
use lib.Dec.{T, leb-suc-zero}
use lib.IntN.{ℤ, pos, negsuc, neg_ℤ, nat_abs, ◌-ℤ◌, +ℤ_idl, +ℤ_comm, -ℤ_one}
use lib.Signed.{mag, lt_z, non_neg}
use mir.Syntax.{w8}
use mir.Val.{Fits, SFits, to_z, of_z}
use mir.ValLaws.{to_z-of_z, to_z_pos}
use Rattle.coxeter.specs.Length.{negative}

-- a signed byte as code holds it in a local
abbrev pub held : ℤ → ℤ
held z = to_z w8 (of_z w8 z)

-- a byte read back from its bits
pub byte_back : (z : ℤ) → SFits w8 z → to_z w8 (of_z w8 z) ≡ z
byte_back z h = to_z-of_z w8 z h

-- the same for an element of a slice, with its range as it is known of one
pub element_back : (z : ℤ) → mag z < 128 → to_z w8 (of_z w8 z) ≡ z
element_back z h = byte_back z (record { sfits = h })

pub negate_fits : (z : ℤ) → nat_abs z < 128 → SFits w8 (neg_ℤ z)
negate_fits (pos zero) h = record { sfits = h }
negate_fits (pos (suc a)) h = record { sfits = omega arith }
negate_fits (negsuc a) h = record { sfits = h }

pub minus_is_negate : (z : ℤ) → pos 0 -ℤ z ≡ neg_ℤ z
minus_is_negate z = +ℤ_idl (neg_ℤ z)

pub negative_is_test : (z : ℤ) → lt_z z (pos 0) ≡ negative z
unfolding negative
negative_is_test (pos a) = leb-suc-zero a
negative_is_test (negsuc a) = refl

-- a small size as a signed byte
pub cast_back : (a : ℕ) → a < 128 → to_z w8 a ≡ pos a
cast_back a h = to_z_pos w8 a h

-- for a negative byte z, −1 − z is one less than its size
minus_one_minus : (p : ℕ) → negsuc 0 -ℤ negsuc p ≡ pos p
minus_one_minus p = +ℤ_comm (negsuc 0) (pos (suc p)) ∙ -ℤ_one (pos (suc p))

-- v is one less than the size of the negative byte z
pub record BelowSize (z v : ℤ) : Type 0 where
  pub fits : SFits w8 v
  pub non_negative : T (non_neg (to_z w8 (of_z w8 v)))
  pub small : nat_abs (to_z w8 (of_z w8 v)) < 128
  pub size : nat_abs (to_z w8 (of_z w8 v)) + 1 ≡ nat_abs z

below_size_at : (z : ℤ) → SFits w8 z → lt_z z (pos 0) ≡ true → BelowSize z (negsuc 0 -ℤ z)
below_size_at (pos a) h e = absurd (false≢true (sym (leb-suc-zero a) ∙ e))
below_size_at (negsuc p) h e =
    let f : SFits w8 (pos p) = record { sfits = h.sfits } in
    rw (minus_one_minus p)
    (record {
      fits = f;
      non_negative = rw (byte_back (pos p) f) tt;
      small = rw (byte_back (pos p) f) h.sfits;
      size = rw (byte_back (pos p) f) (add-one p);
    })

pub below_size : (z : ℤ) → SFits w8 z → lt_z (to_z w8 (of_z w8 z)) (pos 0) ≡ true → BelowSize z (negsuc 0 -ℤ to_z w8 (of_z w8 z))
below_size z h e = rw (byte_back z h) (below_size_at z h (rw (byte_back z h) at e))

-- a byte that is not negative is its size
size_of_positive_at : (z : ℤ) → SFits w8 z → lt_z z (pos 0) ≡ false → T (non_neg z) × Fits w8 (nat_abs z)
size_of_positive_at (pos a) h e = (tt, record { fits = omega (arith, h.sfits) })
size_of_positive_at (negsuc p) h e = absurd (false≢true (sym e))

pub size_of_positive : (z : ℤ) → SFits w8 z → lt_z (to_z w8 (of_z w8 z)) (pos 0) ≡ false
    → T (non_neg (to_z w8 (of_z w8 z))) × Fits w8 (nat_abs (to_z w8 (of_z w8 z)))
size_of_positive z h e = rw (byte_back z h) (size_of_positive_at z h (rw (byte_back z h) at e))

-- `-e` for a byte whose size is below 128
pub minus_fits : (z : ℤ) → SFits w8 z → nat_abs z < 128 → SFits w8 (pos 0 -ℤ to_z w8 (of_z w8 z))
minus_fits z f h = rw (byte_back z f, minus_is_negate z) (negate_fits z h)

pub minus_back : (z : ℤ) → SFits w8 z → nat_abs z < 128 → to_z w8 (of_z w8 (pos 0 -ℤ to_z w8 (of_z w8 z))) ≡ neg_ℤ z
minus_back z f h = rw (byte_back z f, minus_is_negate z) (byte_back (neg_ℤ z) (negate_fits z h))

-- `-e` for a cast size
pub minus_cast_fits : (a : ℕ) → a < 128 → SFits w8 (pos 0 -ℤ to_z w8 a)
minus_cast_fits a h = rw (cast_back a h, minus_is_negate (pos a)) (negate_fits (pos a) h)

pub minus_cast_back : (a : ℕ) → a < 128 → to_z w8 (of_z w8 (pos 0 -ℤ to_z w8 a)) ≡ neg_ℤ (pos a)
minus_cast_back a h = rw (cast_back a h, minus_is_negate (pos a)) (byte_back (neg_ℤ (pos a)) (negate_fits (pos a) h))
