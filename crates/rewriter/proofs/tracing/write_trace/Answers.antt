-- `tracing::write_trace` lends a work array with room for the word.
-- Assumes nothing.
use native.Mathlib.Omega.{arith}
use Rattle.coxeter.proofs.Acceptance.{length_accepted}
use Rattle.rewriter.proofs.tracing.write_trace.Goals as goal

pub write_in-requires-2-clause-word_in_bounds_2 : goal.write_in-requires-2-clause-word_in_bounds_2
write_in-requires-2-clause-word_in_bounds_2 c = (length_accepted _ _ c.args.word.accepted, omega arith)
