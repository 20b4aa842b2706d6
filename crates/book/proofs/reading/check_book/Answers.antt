-- `reading::check_book` is the refusal, or the count of an accepted book.
-- Assumes nothing.
use mathlib.Core.Path.{refl, sym, ap, ◌∙◌}
use Rattle.coxeter.proofs.Groups.{number_positive}
use Rattle.book_format.specs.answers.Opened.{as_opened}
use Rattle.book_format.proofs.PresetLaws.{checked_book-refused, checked_book_presets}
use Rattle.book.proofs.Results.{refused_with}
use Rattle.book.proofs.reading.check_book.Goals as goal

pub returns-in_err-book : goal.returns-in_err-book
returns-in_err-book c =
    ap as_opened (refused_with _ _ c.from_residual.ensures) ∙ sym (checked_book-refused _ _ _ c.in_err-book.ensures.refusal (number_positive _))

pub returns : goal.returns
returns c =
    let h = c.in_ok-book.ensures.book in
    let b = c.in_ok-book.book in
    rw (h.0, h.1) at (sym (checked_book_presets _ _ _ _ (sym b.accepted) refl b.counted))
