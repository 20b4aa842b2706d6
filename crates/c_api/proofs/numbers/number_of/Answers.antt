-- `numbers::number_of` is the length itself, which an `i64` holds, or the number of the refusal.
-- Assumes nothing.
use mathlib.Core.Path.{ap, ◌∙◌}
use Rattle.c_api.specs.Calls.{refused, number_of}
use Rattle.c_api.proofs.Lengths.{length_back, i64_back}
use Rattle.c_api.proofs.numbers.number_of.Goals as goal

pub returns-in-Ok : goal.returns-in-Ok
unfolding number_of
returns-in-Ok c = rw c.in-Ok.is (length_back _ (rw c.in-Ok.is at c.requires))

pub returns-in-Err : goal.returns-in-Err
unfolding number_of
returns-in-Err c =
    rw c.in-Err.is (i64_back _ c.refusal_number.type_inv ∙ c.refusal_number.ensures ∙ ap refused c.number.ensures)
