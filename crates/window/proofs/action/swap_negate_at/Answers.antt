-- `action::swap_negate_at` swaps two neighbours with their signs changed: two stores of the negations.
-- Assumes nothing.
use Rattle.window.proofs.ByteSteps.{set_eq_swap_negate}
use Rattle.window.proofs.action.swap_negate_at.Goals as goal

pub returns : goal.returns
returns c =
    let e = c.requires.b_value in
    set_eq_swap_negate _ _ _ _
    c.requires.p_in_bounds
    (record { entry = c.a-1.given; result = c.negated-c.type_inv; negation = c.negated-c.ensures })
    (record { entry = rw e at c.ranges.b.sfits; result = c.negated-d.type_inv; negation = rw e at c.negated-d.ensures })
