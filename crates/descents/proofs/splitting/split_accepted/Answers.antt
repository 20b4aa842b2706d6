-- `splitting::split_accepted` splits the window of a word.
-- Assumes nothing.
use Rattle.coxeter.proofs.Theorems.{window_passes}
use Rattle.descents.proofs.Answers.{written_front, never_refused}
use Rattle.descents.proofs.Fallbacks.{window_small}
use Rattle.descents.proofs.splitting.split_accepted.Goals as goal

pub returns-in_err-m : goal.returns-in_err-m
returns-in_err-m c =
    absurd (never_refused _ _ _ c.in_err-m.ensures (window_small _ _ _ c.args.word.group.in_range))

pub invariant_of-w : goal.invariant_of-w
invariant_of-w c = record { accepted = rw (written_front _ _ _ c.in_ok-m.ensures).part (window_passes _ _ _) }

pub returns : goal.returns
returns c = rw (written_front _ _ _ c.in_ok-m.ensures).part at c.split_window.ensures

pub slice_bounds-work-end : goal.slice_bounds-work-end
slice_bounds-work-end c = (written_front _ _ _ c.in_ok-m.ensures).bound

pub slice_bounds-w-end : goal.slice_bounds-w-end
slice_bounds-w-end c = (written_front _ _ _ c.in_ok-m.ensures).size
