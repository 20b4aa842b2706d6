-- `action::negate_at` changes the sign of an entry: one store of its negation, which fits since the size is below 128.
-- Assumes nothing.
use Rattle.window.proofs.ByteSteps.{set_eq_negate_first}
use Rattle.window.proofs.action.negate_at.Goals as goal

pub returns : goal.returns
returns c =
    let e = c.requires.a_value in
    set_eq_negate_first _ _ _
    c.requires.p_in_bounds.0
    (record { entry = rw e at c.ranges.a.sfits; result = c.negated.type_inv; negation = rw e at c.negated.ensures })
