-- `runs::read_run` reads the presets of an accepted book, or refuses each.
-- Assumes nothing.
use mathlib.Core.Path.{refl, sym, ◌∙◌}
use Rattle.coxeter.proofs.Groups.{number_positive}
use Rattle.book_format.proofs.PresetLaws.{checked_book-refused, checked_book_presets}
use Rattle.book.proofs.runs.StoredRuns.{all_refused, run_from}
use Rattle.book.proofs.runs.read_run.Goals as goal

pub returns-in-Ok : goal.returns-in-Ok
returns-in-Ok c =
    let b = c.in-Ok.book in
    let same = c.in-Ok.ensures.book in (
      rw (same.0, same.1) at (sym (checked_book_presets _ _ _ _ (sym b.accepted) refl b.counted)),
      refl,
      rw (same.0, same.1) at c.presets_from.ensures ∙ run_from _ _ _ _ 128 c.min.ensures,
    )

pub returns-in-Err : goal.returns-in-Err
returns-in-Err c =
    let e = c.in-Err.ensures.refusal in
    (sym (checked_book-refused _ _ _ e (number_positive _)), refl, all_refused _ _ _ 128 _ e)
