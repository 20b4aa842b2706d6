-- `numbers::put_entry` stores the space and the sign, and then the size.
-- Assumes nothing.
use mathlib.Core.Path.{◌≡◌, ap}
use mathlib.Core.List.{◌∷◌}
use native.Mathlib.Omega.{arith}
use lib.ListN.{length, length-set}
use Rattle.listing_text.specs.Text.{decimal, entry}
use Rattle.listing_lines.proofs.numbers.Puts.{put_minus, entry_minus, entry_plus}
use Rattle.listing_lines.proofs.numbers.put_entry.Goals as goal
use Rattle.listing_lines.proofs.numbers.put_entry.Goals.{Then-e-lt0}

minus : (c : Then-e-lt0) → entry c.args.e ≡ 32 ∷ 45 ∷ decimal c.unsigned_abs-size.result
minus c = entry_minus c.ranges.e c.unsigned_abs-size.ensures.value c.if-e-lt0.true

pub bounds-out-at : goal.bounds-out-at
bounds-out-at c = omega (arith, ap length (minus c))

pub bounds-out-at-then-e-lt0 : goal.bounds-out-at-then-e-lt0
bounds-out-at-then-e-lt0 c = simp length-set (omega (arith, ap length (minus (goal.at.bounds-out-at-then-e-lt0 c).Then-e-lt0)))

pub put_decimal-requires : goal.put_decimal-requires
put_decimal-requires c = simp length-set (omega (arith, ap length (minus (goal.at.put_decimal-requires c).Then-e-lt0)))

pub returns-then-e-lt0 : goal.returns-then-e-lt0
returns-then-e-lt0 c =
    rw (minus (goal.at.returns-then-e-lt0 c).Then-e-lt0) (put_minus c.args.out.now _ _ _ _ c.put_decimal.ensures)

pub put_spaced-requires : goal.put_spaced-requires
put_spaced-requires c =
    omega (arith, ap length (entry_plus c.ranges.e c.unsigned_abs-size.ensures.value c.if-e-lt0.false))

pub returns : goal.returns
returns c =
    rw (entry_plus c.ranges.e c.unsigned_abs-size.ensures.value c.if-e-lt0.false) c.put_spaced.ensures
