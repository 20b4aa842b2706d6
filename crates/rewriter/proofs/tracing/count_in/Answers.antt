-- `tracing::count_in` makes the rewriting with lists of no places, which are left as they were.
-- Assumes nothing.
use Rattle.rewriter.proofs.tracing.Making.{made_steps, made_size}
use Rattle.rewriter.proofs.tracing.count_in.Goals as goal

pub returns : goal.returns
returns g c =
    (made_steps c.make.ensures, made_size c.make.ensures)
