-- `reading::check_preset` is the refusal of the book, or what its preset answers.
-- Assumes nothing.
use mathlib.Core.Path.{sym, ap, ◌∙◌}
use Rattle.coxeter.proofs.Groups.{number_positive}
use Rattle.book_format.specs.answers.Preset.{as_preset}
use Rattle.book_format.proofs.PresetLaws.{checked_preset-book}
use Rattle.book.proofs.Results.{refused_with}
use Rattle.book.proofs.reading.check_preset.Goals as goal

pub returns-in_err-open : goal.returns-in_err-open
returns-in_err-open c =
    ap as_preset (refused_with _ _ c.from_residual.ensures) ∙ sym (checked_preset-book _ _ _ _ c.in_err-open.ensures.refusal (number_positive _))
