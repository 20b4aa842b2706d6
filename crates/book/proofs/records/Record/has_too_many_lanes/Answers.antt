-- `Record::has_too_many_lanes` makes check 18, by cases on the edition.
-- Assumes nothing.
use Rattle.book_format.specs.Conversion.{too_many_lanes}
use Rattle.book.proofs.records.Record.has_too_many_lanes.Goals as goal

pub returns-in-First : goal.returns-in-First
unfolding too_many_lanes
returns-in-First c = rw c.in-First.is

pub returns-in-Second : goal.returns-in-Second
unfolding too_many_lanes
returns-in-Second c = rw c.in-Second.is
