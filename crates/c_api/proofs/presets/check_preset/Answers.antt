-- `presets::check_preset` hands a refusal on, or writes the four fields to the front of the list if it has room.
-- Assumes nothing.
use Rattle.c_api.specs.Calls.{number_of}
use Rattle.c_api.proofs.Lengths.{handed_on, no_room}
use Rattle.c_api.proofs.Outcomes.{fields_refused, fields_short, fields_stored}
use Rattle.c_api.proofs.presets.check_preset.Goals as goal

pub returns-in_err-preset-clause-numbers : goal.returns-in_err-preset-clause-numbers
returns-in_err-preset-clause-numbers c = fields_refused _ c.in_err-preset.ensures (handed_on _ _ c.from_residual.ensures)

pub returns-in_err-ok_or-clause-numbers : goal.returns-in_err-ok_or-clause-numbers
returns-in_err-ok_or-clause-numbers c =
    let none = c.in_err-ok_or.ensures.ok_part in
    fields_short _ c.in_ok-preset.ensures (rw none at c.first_chunk_mut.ensures.cases)
    (no_room _ _ c.from_residual-in_err-ok_or.ensures c.in_err-ok_or.was (rw none at c.ok_or.ensures.value))

pub returns-clause-numbers : goal.returns-clause-numbers
unfolding number_of
returns-clause-numbers c =
    let chunk = rw c.in_ok-ok_or.ensures.ok_part at c.first_chunk_mut.ensures.cases in
    rw c.number.ensures (fields_stored _ c.in_ok-preset.ensures chunk.enough)
