-- `steps::take_descent` takes a step where it makes the window shorter: below the number of lanes a swap, and
-- else step n of B or D.
-- Assumes nothing.
use native.Mathlib.Omega.{arith}
use Rattle.window.proofs.ByteSteps.{step_of, negate_at_asks, four_le, swap_negate_at_asks}
use Rattle.window.proofs.KindCases.{not-B}
use Rattle.descents.proofs.steps.Descents.{taken_pair, taken_sign, taken_signs}
use Rattle.descents.proofs.steps.take_descent.Goals as goal

pub returns-then-s-w : goal.returns-then-s-w
returns-then-s-w c =
    let h = step_of c.args.group _ c.requires.le_s c.requires.window_of in
    taken_pair _ _ _ _ _ _ h c.if-s-w.true c.take_swap_descent.ensures.0 c.take_swap_descent.ensures.1

pub take_negate_descent-requires : goal.take_negate_descent-requires
take_negate_descent-requires c =
    let h = step_of c.args.group _ c.requires.le_s c.requires.window_of in negate_at_asks _ _ _ _ h c.if-s-w.false

pub returns-in-B : goal.returns-in-B
returns-in-B c =
    let h = step_of c.args.group _ c.requires.le_s c.requires.window_of in
    taken_sign _ _ _ _ _ _ h c.if-s-w.false c.in-B.is c.take_negate_descent.ensures.0 c.take_negate_descent.ensures.1

pub overflow_sub-n-in-A : goal.overflow_sub-n-in-A
overflow_sub-n-in-A c =
    let h = step_of c.args.group _ c.requires.le_s c.requires.window_of in
    omega (arith, four_le _ _ _ _ h c.if-s-w.false (not-B c.in-A.is))

pub take_swap_negate_descent-requires : goal.take_swap_negate_descent-requires
take_swap_negate_descent-requires c =
    let h = step_of c.args.group _ c.requires.le_s c.requires.window_of in
    let t = swap_negate_at_asks _ _ _ _ h c.if-s-w.false (not-B c.in-A.is) in
    record { p_in_bounds = t.0; pos_bound = t.1.0; pos_bound_2 = t.1.1 }

pub returns-in-A : goal.returns-in-A
returns-in-A c =
    let h = step_of c.args.group _ c.requires.le_s c.requires.window_of in
    let l = c.take_swap_negate_descent.ensures in taken_signs _ _ _ _ _ _ h c.if-s-w.false (not-B c.in-A.is) l.0 l.1
