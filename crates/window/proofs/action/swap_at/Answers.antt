-- `action::swap_at` swaps two neighbours: two stores, of the one that it reads and of the one that it is given.
-- Assumes nothing.
use Rattle.window.proofs.ByteSteps.{set_eq_swap}
use Rattle.window.proofs.action.swap_at.Goals as goal

pub returns : goal.returns
returns c =
    let e = c.requires.a_value in
    rw e (set_eq_swap _ _ c.requires.p_in_bounds (rw e at c.ranges.a.sfits) c.b-1.given)
