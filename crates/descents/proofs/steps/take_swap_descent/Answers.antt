-- `steps::take_swap_descent` swaps two neighbours where they are crossed.
-- Assumes nothing.
use native.Mathlib.Omega.{arith}
use Rattle.window.proofs.ByteSteps.{set_eq_swap}
use Rattle.descents.proofs.steps.Descents.{later_told}
use Rattle.descents.proofs.steps.take_swap_descent.Goals as goal

pub returns-then-is_later : goal.returns-then-is_later
returns-then-is_later c = (
  later_told _ _ (omega arith) (omega arith) c.is_later.ensures c.if-is_later.true,
  set_eq_swap _ _ c.requires (omega arith) (omega arith),
)
