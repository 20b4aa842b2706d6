-- `Record::check_conversion` makes the record's own checks, and then check 18.
-- Assumes nothing.
use Rattle.coxeter.proofs.Groups.{handed_on}
use Rattle.book.proofs.converting.ConversionChecks.{refused_by_itself, lanes_decide}
use Rattle.book.proofs.records.Record.check_conversion.Goals as goal

pub returns-in_err-check : goal.returns-in_err-check
returns-in_err-check c = handed_on _ _ c.from_residual.ensures (refused_by_itself _ _ _ c.in_err-check.ensures)

pub returns-then-has_too_many_lanes : goal.returns-then-has_too_many_lanes
returns-then-has_too_many_lanes c =
    rw c.if-has_too_many_lanes.true at (lanes_decide _ _ _ c.in_ok-check.ensures c.has_too_many_lanes.ensures)

pub returns : goal.returns
returns c =
    rw c.if-has_too_many_lanes.false at (lanes_decide _ _ _ c.in_ok-check.ensures c.has_too_many_lanes.ensures)
