-- `splitting::write_parts` checks the room for the second word, and has each written by a call on accepted windows.
-- Assumes nothing.
use Rattle.descents.proofs.Answers.{never_refused, split_refused}
use Rattle.descents.proofs.splitting.Halves.{form_of_inverse, second_lacks, second_fits, first_lacks, both_written}
use Rattle.descents.proofs.splitting.write_parts.Goals as goal

pub returns-then-lacks_room : goal.returns-then-lacks_room
returns-then-lacks_room c =
    let p = c.args.pair in
    second_lacks _ _ c.lacks_room.ensures (form_of_inverse _ _ _ p.group.in_range p.second_accepted) _ _ c.if-lacks_room.true

pub returns-in_err-first : goal.returns-in_err-first
returns-in_err-first c = rw (split_refused _ _ c.from_residual.ensures) (first_lacks _ _ _ _ _ c.in_err-first.ensures)

pub returns-in_err-second : goal.returns-in_err-second
returns-in_err-second c =
    let p = c.args.pair in
    absurd
    (never_refused _ _ _ c.in_err-second.ensures
    (second_fits _ _ c.lacks_room.ensures (form_of_inverse _ _ _ p.group.in_range p.second_accepted) c.if-lacks_room.false))

pub returns : goal.returns
returns c = both_written _ _ _ _ _ _ c.in_ok-first.ensures c.in_ok-second.ensures
