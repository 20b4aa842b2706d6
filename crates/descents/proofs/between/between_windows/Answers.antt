-- `between::between_windows` makes checks 5, 6 and 16, then those of the windows, and asks for a work array with room for
-- every normal form of the rank.
-- Assumes nothing.
use Rattle.coxeter.proofs.Groups.{number_positive}
use Rattle.descents.proofs.Answers.{answer_refused}
use Rattle.descents.proofs.between.Leading.{refused_by_set, refused_by_windows, led}
use Rattle.descents.proofs.between.between_windows.Goals as goal

pub returns-in_err-group : goal.returns-in_err-group
returns-in_err-group c =
    rw (answer_refused _ _ c.from_residual.ensures) (refused_by_set _ _ _ _ _ c.in_err-group.ensures.refusal (number_positive _))

pub returns-in_err-accepted_windows : goal.returns-in_err-accepted_windows
returns-in_err-accepted_windows c =
    rw (answer_refused _ _ c.from_residual-in_err-accepted_windows.ensures)
    (refused_by_windows _ _ _ _ _ c.in_ok-group.ensures.refusal c.in_err-accepted_windows.ensures.refusal (number_positive _))

pub returns-in-0-to-8 : goal.returns-in-0-to-8
returns-in-0-to-8 c =
    let g = c.in_ok-group.ensures in
    led _ _ _ _ _ g.refusal _ c.in_ok-accepted_windows.ensures.refusal (rw (g.group.0, g.group.1) at c.write_between.ensures)

pub returns-in-9-to-16 : goal.returns-in-9-to-16
returns-in-9-to-16 c =
    let g = c.in_ok-group.ensures in
    led _ _ _ _ _ g.refusal _ c.in_ok-accepted_windows.ensures.refusal (rw (g.group.0, g.group.1) at c.write_between-in-9-to-16.ensures)

pub returns-in_default : goal.returns-in_default
returns-in_default c =
    let g = c.in_ok-group.ensures in
    led _ _ _ _ _ g.refusal _ c.in_ok-accepted_windows.ensures.refusal (rw (g.group.0, g.group.1) at c.write_between-in_default.ensures)
