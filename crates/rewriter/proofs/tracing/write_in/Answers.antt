-- `tracing::write_in` makes the rewriting in the fronts of the lists, and copies the final word.
-- Assumes nothing.
use Rattle.rewriter.proofs.tracing.Making.{lists-written, copy_room, out_written}
use Rattle.rewriter.proofs.tracing.write_in.Goals as goal

pub copy-requires : goal.copy-requires
copy-requires g c =
    copy_room c.make-made.ensures _ c.requires.word_in_bounds

pub returns : goal.returns
returns g c =
    let p = c.requires in
    let l = lists-written _ _ _ _ c.make-made.ensures p.steps_value p.steps_in_bounds.0 p.steps_in_bounds.1 p.steps_in_bounds.2 in
    (l.0, l.1, l.2, out_written c.make-made.ensures _ p.word_in_bounds c.copy.ensures)
