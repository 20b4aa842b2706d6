-- Parity without a remainder (CP1 and CP2 of the specification). Check 11 itself is `odd_negatives` of Checks, which
-- counts.
use Rattle.std.specs.Prelude.{◌≡◌, Bool, false, not, List, [], ◌∷◌, ℕ, ◌+◌, ◌*◌, ℤ}
use Rattle.coxeter.specs.Kinds.{pick}
use Rattle.coxeter.specs.Length.{negative}

-- CP1: the parity flag after reading a list of entries, if it was t before
unfoldable pub flipped : Bool → List ℤ → Bool
flipped t [] = t
flipped t (e ∷ w) = flipped (pick (negative e) (not t) t) w

-- CP2: the parity flag after reading a part of a window from the left; false before the first entry
abbrev pub flag_after : List ℤ → Bool
flag_after part = flipped false part

-- CP2: the number is odd, said without a remainder
abbrev pub Odd : ℕ → Type 0
Odd c = (m : ℕ) × (c ≡ 2 * m + 1)
