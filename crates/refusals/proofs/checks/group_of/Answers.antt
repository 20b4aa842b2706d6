-- `checks::group_of` makes checks 5 and 6 in this order.
-- Assumes nothing.
use mathlib.Core.Path.{refl, sym, ap}
use native.Mathlib.Omega.{arith}
use Rattle.coxeter.specs.Kinds.{lanes}
use Rattle.coxeter.specs.Checks.{rank_refusal}
use Rattle.coxeter.proofs.Groups.{handed_on, refused_first, numbered_kind, rank_below, rank_above, rank_inside}
use Rattle.coxeter.proofs.LaneCounts.{lanes_handed_on, lanes-refused, lanes_counted}
use Rattle.refusals.proofs.checks.group_of.Goals as goal
use Rattle.refusals.proofs.checks.group_of.Goals.{then-rank-least_rank-via-then-rank-least_rank, then-rank-least_rank-via-else-rank-least_rank+then-greatest_rank-rank}

pub returns-in_err-kind-clause-refusal : goal.returns-in_err-kind-clause-refusal
unfolding rank_refusal
returns-in_err-kind-clause-refusal c = handed_on _ _ c.from_residual.ensures (refused_first _ _ _ c.in_err-kind.ensures)

pub returns-in_err-kind-clause-lanes : goal.returns-in_err-kind-clause-lanes
unfolding rank_refusal
returns-in_err-kind-clause-lanes c = lanes_handed_on _ _ _ _ c.from_residual.ensures (refused_first _ _ _ c.in_err-kind.ensures)

pub returns-then-rank-least_rank-clause-refusal : goal.returns-then-rank-least_rank-clause-refusal
returns-then-rank-least_rank-clause-refusal c =
    let e = c.in_ok-kind.ensures in
    elim c.then-rank-least_rank.branch [
      | then-rank-least_rank-via-then-rank-least_rank w ↦ rank_below _ _ _ e (rw c.least_rank.ensures at w.if-rank-least_rank.true)
      | then-rank-least_rank-via-else-rank-least_rank+then-greatest_rank-rank w ↦ rank_above _ _ _ e (rw w.greatest_rank.ensures at w.if-greatest_rank-rank.true)
    ]

pub returns-then-rank-least_rank-clause-lanes : goal.returns-then-rank-least_rank-clause-lanes
returns-then-rank-least_rank-clause-lanes c = lanes-refused _ _ 6 (returns-then-rank-least_rank-clause-refusal c) (λ z. omega arith)

pub returns-clause-refusal : goal.returns-clause-refusal
returns-clause-refusal c =
    rank_inside _ _ _ c.in_ok-kind.ensures (rw c.least_rank.ensures at c.if-rank-least_rank.false) (rw c.greatest_rank.ensures at c.if-greatest_rank-rank.false)

pub returns-clause-group : goal.returns-clause-group
returns-clause-group c = (numbered_kind c.in_ok-kind.ensures, refl)

pub returns-clause-lanes : goal.returns-clause-lanes
returns-clause-lanes c = lanes_counted _ _ _ (sym (returns-clause-refusal c)) (ap (λ k. lanes k c.args.rank) (numbered_kind c.in_ok-kind.ensures))
