-- `decide_words` walks through the normal form of the present word towards the simpler window.
-- Assumes nothing.
use Rattle.coxeter.proofs.Theorems.{window_passes}
use Rattle.descents.proofs.Answers.{written_front, never_refused}
use Rattle.descents.proofs.Fallbacks.{window_small, form_small, form_accepted}
use Rattle.descents.proofs.decide_words.Goals as goal

pub returns-in_err-m : goal.returns-in_err-m
returns-in_err-m c =
    absurd (never_refused _ _ _ c.in_err-m.ensures (window_small _ _ _ c.args.simpler.group.in_range))

pub returns-in_err-l : goal.returns-in_err-l
returns-in_err-l c =
    absurd (never_refused _ _ _ c.in_err-l.ensures (form_small _ _ _ c.args.present.group.in_range))

pub decide-requires-clause-word_of : goal.decide-requires-clause-word_of
decide-requires-clause-word_of c =
    rw (written_front _ _ _ c.in_ok-l.ensures).part (form_accepted _ _ _ c.args.present.group.in_range)

pub decide-requires-clause-window_of : goal.decide-requires-clause-window_of
decide-requires-clause-window_of c =
    rw ((written_front _ _ _ c.in_ok-m.ensures).part, c.requires.same_kind, c.requires.same_rank) (window_passes _ _ _)

pub returns : goal.returns
returns c =
    rw ((written_front _ _ _ c.in_ok-l.ensures).part, (written_front _ _ _ c.in_ok-m.ensures).part, c.requires.same_kind, c.requires.same_rank) at c.decide.ensures

pub slice_bounds-form-end : goal.slice_bounds-form-end
slice_bounds-form-end c = (written_front _ _ _ c.in_ok-l.ensures).bound

pub slice_bounds-decide-end : goal.slice_bounds-decide-end
slice_bounds-decide-end c = (written_front _ _ _ c.in_ok-l.ensures).size

pub slice_bounds-target-end : goal.slice_bounds-target-end
slice_bounds-target-end c = (written_front _ _ _ c.in_ok-m.ensures).bound

pub slice_bounds-decide-end-2 : goal.slice_bounds-decide-end-2
slice_bounds-decide-end-2 c = (written_front _ _ _ c.in_ok-m.ensures).size
