-- `rewriting::rewrite` writes the rule where it has room for it, and else nothing; it goes by the cases of the answer.
-- Assumes nothing.
use mathlib.Core.Path.{refl, ◌∙◌}
use native.Mathlib.Omega.{arith}
use Rattle.c_api.specs.Calls.{refused}
use Rattle.c_api.proofs.Lengths.{i64_back, length-fits, length_back, rewrote_small}
use Rattle.c_api.proofs.Lists.{front_kept}
use Rattle.c_api.proofs.Outcomes.{rewriting_used, rewriting_fitless, rewriting-refused, rewriting-roomless}
use Rattle.c_api.proofs.rewriting.rewrite.Goals as goal

pub returns-in_default : goal.returns-in_default
returns-in_default c =
    rewriting-roomless _ _ _ _ _ c.in_default.ensures.cases (i64_back _ c.refused_rule.type_inv ∙ c.refused_rule.ensures)

pub overflow_cast-result : goal.overflow_cast-result
overflow_cast-result c = length-fits _ (omega (arith, rewrote_small c.rewrite_at.ensures _ _ _ _ c.in-Used.is))

pub returns-in-Used : goal.returns-in-Used
returns-in-Used c =
    rewriting_used _ c.rewrite_at.ensures _ c.in-Used.is c.in-Some.ensures.cases.enough
    (length_back _ (omega (arith, rewrote_small c.rewrite_at.ensures _ _ _ _ c.in-Used.is)))

pub returns-in-NoneFits : goal.returns-in-NoneFits
unfolding refused
returns-in-NoneFits c =
    rw (front_kept c.in-Some.ensures.cases)
    (rewriting_fitless _ c.rewrite_at.ensures _ c.in-NoneFits.is refl)

pub returns-in-Refused : goal.returns-in-Refused
returns-in-Refused c =
    rw (front_kept c.in-Some.ensures.cases)
    (rewriting-refused _ c.rewrite_at.ensures _ _ c.in-Refused.is
    (i64_back _ c.refusal_number.type_inv ∙ c.refusal_number.ensures))
