-- `rewriting::refused_rule` goes by the cases of the answer to a rewrite with an empty output.
-- Assumes nothing.
use mathlib.Core.Path.{ap, ◌∙◌}
use Rattle.c_api.specs.Calls.{refused}
use Rattle.c_api.proofs.Lengths.{i64_back}
use Rattle.c_api.proofs.Lists.{roomless, rewrite_numbers}
use Rattle.c_api.proofs.Outcomes.{rewriting_narrow}
use Rattle.c_api.proofs.rewriting.refused_rule.Goals as goal

pub returns-in-Used : goal.returns-in-Used
unfolding roomless rewrite_numbers refused
returns-in-Used c =
    i64_back _ c.refusal_number.type_inv ∙ c.refusal_number.ensures ∙ ap refused c.number.ensures
    ∙ (rw c.in-Used.is at (rewriting_narrow c.rewrite_at.ensures))

pub returns-in-NoneFits : goal.returns-in-NoneFits
unfolding roomless rewrite_numbers refused
returns-in-NoneFits c = rw c.in-NoneFits.is at (rewriting_narrow c.rewrite_at.ensures)

pub returns-in-Refused : goal.returns-in-Refused
unfolding roomless rewrite_numbers
returns-in-Refused c =
    i64_back _ c.refusal_number-in-Refused.type_inv ∙ c.refusal_number-in-Refused.ensures
    ∙ (rw c.in-Refused.is at (rewriting_narrow c.rewrite_at.ensures))
