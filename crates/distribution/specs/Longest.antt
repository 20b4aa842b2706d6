-- The longest window (Y4 and Y5 of the specification). First what it is, then a definition of it.
use Rattle.std.specs.Prelude.{◌≡◌, List, map, ℕ, ◌+◌, ◌-◌, ◌<◌, ℤ, pos, negsuc, length}
use Rattle.coxeter.specs.declared.Kind.{Kind}
use Rattle.coxeter.specs.declared.Kind.TheVariants.{A, B, D}
use Rattle.coxeter.specs.Kinds.{pick, up}
use Rattle.coxeter.specs.Windows.{from, negate_first}
use Rattle.coxeter.specs.Length.{window_length, greatest_length}
use Rattle.coxeter.specs.Checks.{odd, WindowOf}
use Rattle.coxeter.specs.NormalForm.{down, normal_form}

-- Y4: w is the one window of greatest length
pub record IsLongest (k : Kind) (n : ℕ) (w : List ℤ) : Type 0 where
  -- W5: it is a window of kind k and rank n
  pub passes : WindowOf k n w
  -- L6: it has the greatest length
  pub greatest : window_length k w ≡ greatest_length k n
  -- L5: and its normal form as many letters
  pub form : length (normal_form k n w) ≡ greatest_length k n
  -- Y4: every other window has a shorter normal form
  pub only : (v : List ℤ) → WindowOf k n v → (v ≡ w → ⊥) → length (normal_form k n v) < length (normal_form k n w)

-- Y5: −1, −2, .., −n; `negsuc s` is −(s + 1)
unfoldable pub all_negative : ℕ → List ℤ
all_negative n = map negsuc (up 0 n)

-- Y5
unfoldable pub longest : Kind → ℕ → List ℤ
longest A n = map pos (down (n + 1) (n + 1))
longest B n = all_negative n
longest D n = pick (odd n) (from (n - 1) negate_first (all_negative n)) (all_negative n)
