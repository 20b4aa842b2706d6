-- `rewrite_steps` counts the steps of a word that passes its checks.
-- Assumes nothing.
use Rattle.rewriter.proofs.RewritingToEnd.{checked_trace, steps_refused, steps_counted}
use Rattle.rewriter.proofs.rewrite_steps.Goals as goal

pub returns-in_err-word : goal.returns-in_err-word
returns-in_err-word c = steps_refused _ _ _ _ c.in_err-word.ensures.refusal _ c.from_residual.ensures

pub returns : goal.returns
returns c =
    let e = c.in_ok-word.ensures in
    steps_counted _ _ _ _ e.refusal (rw (checked_trace c.in_ok-word.word _ _ _ e.word) at c.count-counted.ensures.0)
