-- `writing::append` refuses in the order of its checks, or writes the new book to the front.
-- Assumes nothing.
use mathlib.Core.Path.{refl, ap, ◌∙◌}
use Rattle.coxeter.proofs.Groups.{number_positive}
use Rattle.coxeter.specs.answers.Answer.{as_answer}
use Rattle.book_format.proofs.WritingLaws.{appending-refused, appending-short, appending-written}
use Rattle.book.proofs.Results.{refused_with}
use Rattle.book.proofs.writing.append.Goals as goal

pub returns-in_err-book : goal.returns-in_err-book
returns-in_err-book c =
    let h = appending-refused _ _ _ _ _ _ c.in_err-book.ensures.refusal (number_positive _) in
    record { value = ap as_answer (refused_with _ _ c.from_residual.ensures) ∙ h.0; out_after = h.1 }

pub returns-then-out-size : goal.returns-then-out-size
returns-then-out-size c =
    let k = c.in_ok-book.ensures in
    let book = k.parts.0 in
    let word = k.parts.1 in
    let h = appending-short _ _ _ _ _ _ k.refusal (rw (book.0, book.1, word.2) at c.appended_size-size.ensures) refl c.if-out-size.true in
    record { value = h.0; out_after = h.1 }

pub returns : goal.returns
returns c =
    let k = c.in_ok-book.ensures in
    let book = k.parts.0 in
    let word = k.parts.1 in
    let h = appending-written _ _ _ _ _ _ k.refusal (rw (book.0, book.1, word.2) at c.appended_size-size.ensures) refl c.if-out-size.false
    (rw (book.0, book.1, word.0, word.1, word.2) at c.write_appended.ensures) in
    record { value = h.0; out_after = h.1 }
