-- `runs::read_presets` makes checks 1 to 4 and 14 in this order, and then writes as many presets as there are and
-- have room.
-- Assumes nothing.
use mathlib.Core.Path.{refl, ap, ◌∙◌}
use Rattle.coxeter.specs.answers.Answer.{as_answer}
use Rattle.coxeter.proofs.Groups.{number_positive}
use Rattle.book_format.proofs.RunLaws.{reading_book, reading_number, reading_short, reading_run}
use Rattle.book.proofs.Results.{refused_with}
use Rattle.book.proofs.runs.read_presets.Goals as goal

pub returns-in_err-book : goal.returns-in_err-book
returns-in_err-book c =
    let h = reading_book _ _ _ _ c.in_err-book.ensures.refusal (number_positive _) in
    (ap as_answer (refused_with _ _ c.from_residual.ensures) ∙ h.0, h.1)

pub returns-then-book-first : goal.returns-then-book-first
returns-then-book-first c =
    let k = c.in_ok-book.ensures in
    reading_number _ _ _ _ k.refusal refl (rw k.book.1 at c.in_ok-book.book.counted) c.if-book-first.true

pub returns-then-fields-lt5 : goal.returns-then-fields-lt5
returns-then-fields-lt5 c =
    let k = c.in_ok-book.ensures in
    reading_short _ _ _ _ k.refusal refl (rw k.book.1 at c.in_ok-book.book.counted) c.if-book-first.false c.if-fields-lt5.true

pub returns : goal.returns
returns c =
    let k = c.in_ok-book.ensures in
    reading_run _ _ _ _ k.refusal refl (rw k.book.1 at c.in_ok-book.book.counted) c.if-book-first.false c.if-fields-lt5.false c.min-n.ensures
    (rw (k.book.0, k.book.1) at c.put_run.ensures)
