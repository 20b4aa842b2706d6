-- `steps::take_negate_descent` changes the sign of an entry where it is negative.
-- Assumes nothing.
use native.Mathlib.Omega.{arith}
use Rattle.descents.proofs.steps.Descents.{negative_told, set_eq_negated}
use Rattle.descents.proofs.steps.take_negate_descent.Goals as goal

pub returns-then-is_negative : goal.returns-then-is_negative
returns-then-is_negative c = (
  negative_told _ (omega arith) c.is_negative.ensures c.if-is_negative.true,
  set_eq_negated _ _ c.requires.0 (omega arith) c.requires.1,
)
