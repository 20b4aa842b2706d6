-- `writing::appendable` makes checks 1 to 3, 5 to 8, 21 and 13 in this order.
-- Assumes nothing.
use Rattle.coxeter.proofs.Groups.{handed_on, number_positive}
use Rattle.book.proofs.writing.AppendChecks.{book_first, rank_second, word_third, kind_back, retired_fourth, size_last, none_refused}
use Rattle.book.proofs.writing.appendable.Goals as goal

pub returns-in_err-book-clause-refusal : goal.returns-in_err-book-clause-refusal
returns-in_err-book-clause-refusal c =
    handed_on _ _ c.from_residual.ensures (book_first _ _ _ _ _ c.in_err-book.ensures.refusal (number_positive _))

pub returns-in_err-book_group-clause-refusal : goal.returns-in_err-book_group-clause-refusal
returns-in_err-book_group-clause-refusal c =
    handed_on _ _ c.from_residual-in_err-book_group.ensures
    (rank_second _ _ _ _ _ c.in_ok-book.ensures.refusal c.in_err-book_group.ensures.refusal (number_positive _))

pub returns-in_err-word-clause-refusal : goal.returns-in_err-word-clause-refusal
returns-in_err-word-clause-refusal c =
    handed_on _ _ c.from_residual-in_err-word.ensures
    (word_third _ _ _ _ _ c.in_ok-book.ensures.refusal c.in_ok-book_group.ensures.refusal c.in_err-word.ensures.refusal (number_positive _))

pub returns-then-is_retired-clause-refusal : goal.returns-then-is_retired-clause-refusal
returns-then-is_retired-clause-refusal c =
    let w = c.in_ok-word.ensures in
    retired_fourth _ _ _ _ _ c.in_ok-book.ensures.refusal c.in_ok-book_group.ensures.refusal w.refusal (w.word.0, w.word.1) c.is_retired.ensures
    c.if-is_retired.true

pub returns-then-appended_size-gt-LARGEST-clause-refusal : goal.returns-then-appended_size-gt-LARGEST-clause-refusal
returns-then-appended_size-gt-LARGEST-clause-refusal c =
    let same = c.in_ok-book.ensures.book in
    let w = c.in_ok-word.ensures in
    size_last _ _ _ _ _ c.in_ok-book.ensures.refusal c.in_ok-book_group.ensures.refusal w.refusal (w.word.0, w.word.1) c.is_retired.ensures
    c.if-is_retired.false (rw (same.0, same.1, w.word.2) at c.appended_size.ensures) c.if-appended_size-gt-LARGEST.true

pub returns-clause-refusal : goal.returns-clause-refusal
returns-clause-refusal c =
    let same = c.in_ok-book.ensures.book in
    let w = c.in_ok-word.ensures in
    none_refused _ _ _ _ _ c.in_ok-book.ensures.refusal c.in_ok-book_group.ensures.refusal w.refusal (w.word.0, w.word.1) c.is_retired.ensures
    c.if-is_retired.false (rw (same.0, same.1, w.word.2) at c.appended_size.ensures) c.if-appended_size-gt-LARGEST.false

pub returns-clause-parts : goal.returns-clause-parts
returns-clause-parts c =
    let w = c.in_ok-word.ensures in
    (c.in_ok-book.ensures.book, (kind_back _ _ _ c.in_ok-book_group.ensures.refusal w.word.0, w.word.1, w.word.2))
