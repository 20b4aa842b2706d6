-- `numbers::write_crossings` hands a refusal on, or writes the three counts to the front of the list if it has room.
-- Assumes nothing.
use Rattle.c_api.specs.Calls.{number_of}
use Rattle.c_api.proofs.Lengths.{handed_on, no_room}
use Rattle.c_api.proofs.Outcomes.{crossings-refused, crossings-short, crossings_stored}
use Rattle.c_api.proofs.numbers.write_crossings.Goals as goal

pub returns-in_err-counts-clause-numbers : goal.returns-in_err-counts-clause-numbers
returns-in_err-counts-clause-numbers c = rw c.in_err-counts.was (crossings-refused _ _ (handed_on _ _ c.from_residual.ensures))

pub returns-in_err-ok_or-clause-numbers : goal.returns-in_err-ok_or-clause-numbers
returns-in_err-ok_or-clause-numbers c =
    let none = c.in_err-ok_or.ensures.ok_part in
    rw c.in_ok-counts.was (crossings-short _ _ _ _ (rw none at c.first_chunk_mut.ensures.cases)
    (no_room _ _ c.from_residual-in_err-ok_or.ensures c.in_err-ok_or.was (rw none at c.ok_or.ensures.value)))

pub returns-clause-numbers : goal.returns-clause-numbers
unfolding number_of
returns-clause-numbers c =
    let chunk = rw c.in_ok-ok_or.ensures.ok_part at c.first_chunk_mut.ensures.cases in
    rw c.in_ok-counts.was (crossings_stored _ _ _ _ chunk.enough)
