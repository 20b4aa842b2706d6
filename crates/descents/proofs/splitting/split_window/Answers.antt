-- `splitting::split_window` strips the inverse of the window, and has the two words written.
-- Assumes nothing.
use Rattle.coxeter.proofs.Theorems.{inverse_passes}
use Rattle.descents.proofs.Answers.{written_front, never_refused}
use Rattle.descents.proofs.splitting.Halves.{inverse_small, rest_passes, parts_are}
use Rattle.descents.proofs.splitting.split_window.Goals as goal

pub returns-in_err-m : goal.returns-in_err-m
returns-in_err-m c =
    absurd (never_refused _ _ _ c.in_err-m.ensures (inverse_small _ _ _ c.args.w.group.in_range c.args.w.accepted))

pub slice_bounds-back-end : goal.slice_bounds-back-end
slice_bounds-back-end c = (written_front _ _ _ c.in_ok-m.ensures).bound

pub slice_bounds-rest-end : goal.slice_bounds-rest-end
slice_bounds-rest-end c = (written_front _ _ _ c.in_ok-m.ensures).size

pub strip-requires : goal.strip-requires
strip-requires c =
    rw (written_front _ _ _ c.in_ok-m.ensures).part (inverse_passes _ _ _ c.args.w.accepted)

pub invariant_of-pair : goal.invariant_of-pair
invariant_of-pair c =
    let s = rw (written_front _ _ _ c.in_ok-m.ensures).part at c.strip.ensures in
    let w = c.args.w in record { first_accepted = w.accepted; second_accepted = rest_passes _ _ _ _ w.group.in_range w.accepted s }

pub returns : goal.returns
returns c =
    let s = rw (written_front _ _ _ c.in_ok-m.ensures).part at c.strip.ensures in
    let w = c.args.w in parts_are _ _ _ _ w.group.in_range w.accepted s _ _ _ _ _ c.write_parts.ensures
