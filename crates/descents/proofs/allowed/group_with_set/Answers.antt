-- `allowed::group_with_set` makes checks 5 and 6, then check 16 by what is left of the set above the steps of the rank.
-- Assumes nothing.
use Rattle.coxeter.proofs.Groups.{handed_on, refused_first, then_passed}
use Rattle.shortest_words.specs.Allowed.{set_refusal}
use Rattle.shortest_words.proofs.AllowedSets.{wrong_set-shifted, right_set_shifted, right_set_full}
use Rattle.descents.proofs.allowed.group_with_set.Goals as goal
use Rattle.descents.proofs.allowed.group_with_set.Goals.{else-rank-lt64-via-then-rank-lt64+else-allowed-rank-ne0, else-rank-lt64-via-else-rank-lt64}

pub returns-in_err-group-clause-refusal : goal.returns-in_err-group-clause-refusal
unfolding set_refusal
returns-in_err-group-clause-refusal c = handed_on _ _ c.from_residual.ensures (refused_first _ _ _ c.in_err-group.ensures.refusal)

pub returns-then-allowed-rank-ne0-clause-refusal : goal.returns-then-allowed-rank-ne0-clause-refusal
unfolding set_refusal
returns-then-allowed-rank-ne0-clause-refusal c = then_passed _ _ _ c.in_ok-group.ensures.refusal (rw (wrong_set-shifted _ _ c.if-allowed-rank-ne0.true))

pub returns-clause-refusal : goal.returns-clause-refusal
unfolding set_refusal
returns-clause-refusal c =
    then_passed _ _ _ c.in_ok-group.ensures.refusal
    (elim c.else-rank-lt64.branch [
      | else-rank-lt64-via-then-rank-lt64+else-allowed-rank-ne0 w ↦ rw (right_set_shifted _ _ w.if-allowed-rank-ne0.false)
      | else-rank-lt64-via-else-rank-lt64 w ↦ rw (right_set_full _ _ w.if-rank-lt64.false c.ranges.allowed.fits)
    ])
