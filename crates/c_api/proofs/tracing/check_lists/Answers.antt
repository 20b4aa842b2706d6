-- `tracing::check_lists` compares the number of steps with the three lists.
-- Assumes nothing.
use Rattle.coxeter.proofs.Groups.{handed_on}
use Rattle.c_api.proofs.StepNumbers.{lists_refused, few_places, enough_places}
use Rattle.c_api.proofs.tracing.check_lists.Goals as goal

pub returns-in_err-steps : goal.returns-in_err-steps
returns-in_err-steps c = handed_on _ _ c.from_residual.ensures (lists_refused _ _ _ _ _ _ c.in_err-steps.ensures)

pub returns-then-families-steps : goal.returns-then-families-steps
returns-then-families-steps c = few_places _ _ _ _ _ _ c.in_ok-steps.ensures c.then-families-steps.either

pub returns : goal.returns
returns c =
    enough_places _ _ _ _ _ _ c.in_ok-steps.ensures c.if-families-steps.false c.if-places-steps.false c.if-lengths-steps.false
