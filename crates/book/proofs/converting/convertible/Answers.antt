-- `converting::convertible` makes the checks in order: the book's, the records', the new size.
-- Assumes nothing.
use mathlib.Core.Path.{refl, sym}
use Rattle.coxeter.proofs.Groups.{handed_on, number_positive}
use Rattle.book.proofs.converting.ConversionChecks.{conversion_book, conversion_records, conversion_large, conversion_none}
use Rattle.book.proofs.converting.convertible.Goals as goal

pub returns-in_err-book-clause-refusal : goal.returns-in_err-book-clause-refusal
returns-in_err-book-clause-refusal c =
    handed_on _ _ c.from_residual.ensures (conversion_book _ _ c.in_err-book.ensures.refusal (number_positive _))

pub returns-in_err-check_records-clause-refusal : goal.returns-in_err-check_records-clause-refusal
returns-in_err-check_records-clause-refusal c =
    let b = c.in_ok-book.book in
    let same = c.in_ok-book.ensures.book in
    handed_on _ _ c.from_residual-in_err-check_records.ensures
    (rw (← same.0, ← same.1) (conversion_records _ _ (sym b.accepted) refl b.counted c.in_err-check_records.ensures (number_positive _)))

pub returns-then-converted_size-gt-LARGEST-clause-refusal : goal.returns-then-converted_size-gt-LARGEST-clause-refusal
returns-then-converted_size-gt-LARGEST-clause-refusal c =
    let b = c.in_ok-book.book in
    let same = c.in_ok-book.ensures.book in
    rw (← same.0, ← same.1)
    (conversion_large _ _ (sym b.accepted) refl b.counted c.in_ok-check_records.ensures refl c.converted_size.ensures c.if-converted_size-gt-LARGEST.true)

pub returns-clause-refusal : goal.returns-clause-refusal
returns-clause-refusal c =
    let b = c.in_ok-book.book in
    let same = c.in_ok-book.ensures.book in
    rw (← same.0, ← same.1)
    (conversion_none _ _ (sym b.accepted) refl b.counted c.in_ok-check_records.ensures refl c.converted_size.ensures c.if-converted_size-gt-LARGEST.false)
