-- The decimal digits of a number: all but the last are those of a tenth of it, and there are few.
-- Assumes nothing.
use mathlib.Core.Path.{◌≡◌}
use mathlib.Core.List.{[], ◌∷◌, ◌++◌}
use Prim.Native.Nat.{ℕ, zero, suc, ◌+◌, ◌/◌, ◌%◌, ◌^◌, ◌≤◌, ◌<◌}
use native.Mathlib.Decide.{dec_le}
use native.Mathlib.Nat.{pow-suc}
use native.Mathlib.Omega.{arith}
use lib.ListN.{length, length-append}
use borrow.Author.Tests.{lt-ltb, le-ltb}
use Rattle.listing_text.specs.Text.{digits, decimal}

digits_enough : (f g x : ℕ) → x < f → x < g → digits f x ≡ digits g x
unfolding digits
digits_enough zero g x h k = absurd (omega arith)
digits_enough (suc f) zero x h k = absurd (omega arith)
digits_enough (suc f) (suc g) x h k = elim (dec_le 10 x) [
  | yes l ↦ rw (le-ltb x 10 l, digits_enough f g (x / 10) (omega arith) (omega arith))
  | no n ↦ rw (lt-ltb x 10 (omega arith))
]

pub decimal_digit : (x : ℕ) → x < 10 → decimal x ≡ (48 + x) ∷ []
unfolding decimal digits
decimal_digit x h = rw (lt-ltb x 10 h)

pub decimal_more : (x : ℕ) → 10 ≤ x → decimal x ≡ decimal (x / 10) ++ ((48 + x % 10) ∷ [])
unfolding decimal digits
decimal_more x h = rw (le-ltb x 10 h, digits_enough x (suc (x / 10)) (x / 10) (omega arith) (omega arith))

length-decimal_le : (k x : ℕ) → x < 10 ^ suc k → length (decimal x) ≤ suc k
length-decimal_le zero x h = rw (decimal_digit x h) (omega arith)
length-decimal_le (suc k) x h = elim (dec_le 10 x) [
  | yes l ↦
      let p = rw (pow-suc 10 (suc k)) at h in
      let q = length-decimal_le k (x / 10) (omega arith) in
      rw (decimal_more x l, length-append (decimal (x / 10)) ((48 + x % 10) ∷ [])) (omega arith)
  | no n ↦ rw (decimal_digit x (omega arith)) (omega arith)
]

-- a byte
pub length-decimal_byte : (x : ℕ) → x < 256 → length (decimal x) ≤ 3
length-decimal_byte x h = length-decimal_le 2 x (omega arith)

-- a number of 64 bits
pub length-decimal_word : (x : ℕ) → x < 2 ^ 64 → length (decimal x) ≤ 20
length-decimal_word x h = length-decimal_le 19 x (omega arith)
