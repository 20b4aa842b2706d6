-- `runs::numbers_of` has the numbers of the answer's case.
-- Assumes nothing.
use borrow.Author.Rules.{rules}
use Rattle.book_format.specs.Calls.{fields_of}
use Rattle.book.proofs.runs.numbers_of.Goals as goal

pub returns-in-Ok : goal.returns-in-Ok
unfolding fields_of
returns-in-Ok c = search rules

pub returns-in-Err : goal.returns-in-Err
unfolding fields_of
returns-in-Err c = search rules
