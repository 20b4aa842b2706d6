-- `tracing::to_end` writes the final length where it has room, and else nothing; it goes by the cases of the result.
-- Assumes nothing.
use mathlib.Core.Path.{refl, sym}
use native.Mathlib.Omega.{arith}
use Rattle.c_api.specs.Calls.{number_of}
use Rattle.c_api.proofs.Lengths.{handed_on, handed_first}
use Rattle.c_api.proofs.Lists.{front_kept}
use Rattle.c_api.proofs.StepNumbers.{rewriting_to_end_few, rewriting_to_end_listed_stored, rewriting_to_end_listed-refused, rewriting_to_end_listed-roomless}
use Rattle.c_api.proofs.tracing.to_end.Goals as goal

pub returns-in_err-check_lists-clause-numbers : goal.returns-in_err-check_lists-clause-numbers
returns-in_err-check_lists-clause-numbers c =
    rewriting_to_end_listed-roomless _ _ _ _ _ _ c.in_default.ensures.cases c.in_err-check_lists.ensures
    (handed_first _ _ c.from_residual.ensures)

pub returns-in_default-clause-numbers : goal.returns-in_default-clause-numbers
unfolding number_of
returns-in_default-clause-numbers c =
    rewriting_to_end_listed-roomless _ _ _ _ _ _ c.in_default.ensures.cases c.in_ok-check_lists.ensures refl

pub returns-in_err-rewriting-clause-numbers : goal.returns-in_err-rewriting-clause-numbers
returns-in_err-rewriting-clause-numbers c =
    rw (front_kept c.in-Some.ensures.cases)
    (rewriting_to_end_listed-refused _ _ _ _ _ _ _ _ c.in_err-rewriting.ensures
    (handed_on _ _ c.from_residual-in_err-rewriting.ensures))

pub returns-clause-fits : goal.returns-clause-fits
returns-clause-fits c = omega (arith, rewriting_to_end_few _ _ _ _ _ _ _ (sym c.in_ok-rewriting.ensures.0))

pub returns-clause-numbers : goal.returns-clause-numbers
unfolding number_of
returns-clause-numbers c =
    rewriting_to_end_listed_stored _ _ _ _ _ _ _ _ c.in_ok-rewriting.ensures c.in-Some.ensures.cases.enough
