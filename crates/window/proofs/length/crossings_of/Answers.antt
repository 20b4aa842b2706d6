-- `length::crossings_of` takes the negative sum pairs from the pairs of both sorts, and gives the negative entries
-- in kind B only.
-- Assumes nothing.
use mathlib.Core.Path.{◌∙◌}
use Rattle.window.proofs.length.Sums.{counted-B, counted_else}
use Rattle.window.proofs.length.crossings_of.Goals as goal
use Rattle.window.proofs.length.crossings_of.Goals.{in-B, in-A}

pub returns : goal.returns
returns c =
    let w = c.args.window in
    let parts = c.parts_of-parts.ensures in
    elim c.match-window.branch [
      | in-B b ↦ counted-B _ w.group.rank _ w.accepted parts.0 parts.1 b.in-B.is (b.negatives-is ∙ parts.2)
      | in-A b ↦ counted_else _ w.group.rank _ w.accepted parts.0 parts.1 b.in-A.is b.negatives-is
    ]
