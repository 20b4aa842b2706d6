-- `traces::winnathey_rewrite_steps` answers the number of the call below it, which fits.
-- Assumes nothing.
use native.Mathlib.Omega.{arith}
use Rattle.c_api.proofs.Lengths.{fits_below}
use Rattle.c_api.proofs.Bytes.{measured}
use Rattle.c_api.proofs.StepNumbers.{number_of_steps_few, number_of_steps_refusable}
use Rattle.c_api.proofs.tracing.winnathey_rewrite_steps.Goals as goal

pub number_of-requires : goal.number_of-requires
number_of-requires c = fits_below _ c.rewrite_steps.ensures (λ l e. omega (arith, number_of_steps_few _ _ _ l e))

pub returns : goal.returns
returns c =
    measured (number_of_steps_refusable _) _ _ c.byte.ensures c.byte-2.ensures c.number_of.type_inv c.number_of.ensures
    c.rewrite_steps.ensures
