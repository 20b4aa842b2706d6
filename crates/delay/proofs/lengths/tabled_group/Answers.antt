-- `lengths::tabled_group` makes checks 5 and 6, then check 20, and hands the group on.
-- Assumes nothing.
use borrow.Author.Tests.{lt-ltb, le-ltb}
use Rattle.coxeter.proofs.Groups.{handed_on, refused_first, then_passed}
use Rattle.distribution.specs.Calls.{untabled, table_refusal}
use Rattle.delay.proofs.lengths.tabled_group.Goals as goal

pub returns-in_err-group-clause-refusal : goal.returns-in_err-group-clause-refusal
unfolding table_refusal
returns-in_err-group-clause-refusal c = handed_on _ _ c.from_residual.ensures (refused_first _ _ _ c.in_err-group.ensures.refusal)

pub returns-then-greatest_tabled-group-clause-refusal : goal.returns-then-greatest_tabled-group-clause-refusal
unfolding table_refusal untabled
returns-then-greatest_tabled-group-clause-refusal c =
    let g = c.in_ok-group.ensures in
    then_passed _ _ _ g.refusal (rw (← g.group.0, ← g.group.1, ← c.greatest_tabled.ensures, lt-ltb _ _ c.if-greatest_tabled-group.true))

pub returns-clause-refusal : goal.returns-clause-refusal
unfolding table_refusal untabled
returns-clause-refusal c =
    let g = c.in_ok-group.ensures in
    then_passed _ _ _ g.refusal (rw (← g.group.0, ← g.group.1, ← c.greatest_tabled.ensures, le-ltb _ _ c.if-greatest_tabled-group.false))
