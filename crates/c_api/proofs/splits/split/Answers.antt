-- `splits::split` writes the lengths where they have room, and else nothing; it goes by the cases of the result.
-- Assumes nothing.
use mathlib.Core.Path.{refl, sym}
use native.Mathlib.Omega.{arith}
use Rattle.c_api.specs.Calls.{number_of}
use Rattle.c_api.proofs.Lengths.{handed_on, handed_first}
use Rattle.c_api.proofs.Lists.{front_kept}
use Rattle.c_api.proofs.SplitNumbers.{splitting_small, splitting_listed_stored, splitting_listed-refused, splitting_listed-roomless}
use Rattle.c_api.proofs.splits.split.Goals as goal

pub returns-in_err-check_split-clause-numbers : goal.returns-in_err-check_split-clause-numbers
returns-in_err-check_split-clause-numbers c =
    splitting_listed-roomless _ _ _ _ c.in_default.ensures.cases c.in_err-check_split.ensures.refusal
    (handed_first _ _ c.from_residual.ensures)

pub returns-in_default-clause-numbers : goal.returns-in_default-clause-numbers
unfolding number_of
returns-in_default-clause-numbers c =
    splitting_listed-roomless _ _ _ _ c.in_default.ensures.cases c.in_ok-check_split.ensures.refusal refl

pub returns-in_err-split-clause-numbers : goal.returns-in_err-split-clause-numbers
returns-in_err-split-clause-numbers c =
    rw (front_kept c.in-Some.ensures.cases)
    (splitting_listed-refused _ _ _ _ _ _ _ c.in_err-split.ensures (handed_on _ _ c.from_residual-in_err-split.ensures))

pub overflow_add-result : goal.overflow_add-result
overflow_add-result c = omega (arith, splitting_small _ _ _ _ _ _ (sym c.in_ok-split.ensures.0))

pub returns-clause-fits : goal.returns-clause-fits
returns-clause-fits c = omega (arith, splitting_small _ _ _ _ _ _ (sym c.in_ok-split.ensures.0))

pub returns-clause-numbers : goal.returns-clause-numbers
unfolding number_of
returns-clause-numbers c = splitting_listed_stored _ _ _ _ _ _ _ c.in_ok-split.ensures c.in-Some.ensures.cases.enough
