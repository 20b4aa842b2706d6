-- `tables::table` writes the lengths where they have room, and else nothing; it goes by the cases of the result.
-- Assumes nothing.
use mathlib.Core.Path.{refl, sym}
use native.Mathlib.Omega.{arith}
use Rattle.c_api.specs.Calls.{number_of}
use Rattle.c_api.proofs.Lengths.{handed_on, handed_first, delay_table_small}
use Rattle.c_api.proofs.Lists.{front_kept}
use Rattle.c_api.proofs.TableNumbers.{delay_table_listed_stored, delay_table_listed-refused, delay_table_listed-roomless}
use Rattle.c_api.proofs.tables.table.Goals as goal

pub returns-in_err-tabled_group-clause-numbers : goal.returns-in_err-tabled_group-clause-numbers
returns-in_err-tabled_group-clause-numbers c =
    delay_table_listed-roomless _ _ _ _ _ _ c.in_default.ensures.cases c.in_err-tabled_group.ensures.refusal
    (handed_first _ _ c.from_residual.ensures)

pub returns-in_default-clause-numbers : goal.returns-in_default-clause-numbers
unfolding number_of
returns-in_default-clause-numbers c =
    delay_table_listed-roomless _ _ _ _ _ _ c.in_default.ensures.cases c.in_ok-tabled_group.ensures.refusal refl

pub returns-in_err-table-clause-numbers : goal.returns-in_err-table-clause-numbers
returns-in_err-table-clause-numbers c =
    rw (front_kept c.in-Some.ensures.cases)
    (delay_table_listed-refused _ _ _ _ _ _ c.in_err-table.ensures (handed_on _ _ c.from_residual-in_err-table.ensures))

pub returns-clause-fits : goal.returns-clause-fits
returns-clause-fits c = omega (arith, delay_table_small _ _ _ _ _ (sym c.in_ok-table.ensures.0))

pub returns-clause-numbers : goal.returns-clause-numbers
unfolding number_of
returns-clause-numbers c = delay_table_listed_stored _ _ _ _ _ _ c.in_ok-table.ensures c.in-Some.ensures.cases.enough
