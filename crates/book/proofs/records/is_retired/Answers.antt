-- `records::is_retired`, by cases on the kind.
-- Assumes nothing.
use borrow.Author.Rules.{rules}
use Rattle.book_format.specs.Books.{retired}
use Rattle.book.proofs.records.is_retired.Goals as goal

pub returns-in-A : goal.returns-in-A
unfolding retired
returns-in-A c = rw c.in-A.is (search rules)

pub returns-in-B : goal.returns-in-B
unfolding retired
returns-in-B c = search rules
