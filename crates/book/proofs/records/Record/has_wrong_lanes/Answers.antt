-- `Record::has_wrong_lanes` makes check 17, by cases on the edition.
-- Assumes nothing.
use mathlib.Core.Path.{sym}
use Rattle.book_format.proofs.Outcomes.{first_lane-count, second_lane-count}
use Rattle.book.proofs.records.Record.has_wrong_lanes.Goals as goal

pub returns-in-First : goal.returns-in-First
returns-in-First c = rw c.in-First.is (sym (first_lane-count _ _))

pub returns-in-Second : goal.returns-in-Second
returns-in-Second c = rw c.in-Second.is (second_lane-count _ _ _ c.requires)
