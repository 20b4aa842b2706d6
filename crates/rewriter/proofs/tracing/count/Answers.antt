-- `tracing::count` lends a work array with room for the word.
-- Assumes nothing.
use native.Mathlib.Omega.{arith}
use Rattle.coxeter.proofs.Acceptance.{length_accepted}
use Rattle.rewriter.proofs.tracing.count.Goals as goal

pub count_in-requires-2 : goal.count_in-requires-2
count_in-requires-2 c = record { word_in_bounds = (length_accepted _ _ c.args.word.accepted, omega arith) }
