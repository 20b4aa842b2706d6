-- `steps::take_swap_negate_descent` swaps two neighbours with their signs changed, where the first stands later than minus
-- the second.
-- Assumes nothing.
use native.Mathlib.Omega.{arith}
use Prim.Native.Nat.{◌+◌}
use lib.IntN.{pos}
use lib.ListN.{get_or}
use Rattle.descents.proofs.steps.Descents.{later_negated_told, set_eq_swapped}
use Rattle.descents.proofs.steps.take_swap_negate_descent.Goals as goal

pub returns-then-is_later : goal.returns-then-is_later
returns-then-is_later c =
    let y = get_or c.args.w.now (c.args.p + 1) (pos 0) in (
      later_negated_told _ y (omega arith) (omega arith) c.requires.pos_bound_2 c.is_later.ensures c.if-is_later.true,
      set_eq_swapped _ _ c.requires.p_in_bounds (omega arith) c.requires.pos_bound (omega arith) c.requires.pos_bound_2,
    )
