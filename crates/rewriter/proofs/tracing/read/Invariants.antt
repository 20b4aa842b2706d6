-- `tracing::read` reads a word letter by letter behind a normal form, and notes the steps in the same lists.
-- Assumes nothing.
use mathlib.Core.Path.{◌≡◌}
use Rattle.rewriter.proofs.tracing.Making.{Making}
use Rattle.rewriter.proofs.tracing.read.Given as goal

abbrev pub invariant-loop-i : goal.invariant-loop-i
invariant-loop-i l =
    let s = l.initial.steps in
    Making l.word.group.kind l.word.group.rank l.word.letters.now s.families.now s.places.now s.lengths.now l.initial.work l.i
    l.steps.made l.steps.families.now l.steps.places.now l.steps.lengths.now l.work l.size
    × (l.steps.families.ghost_name ≡ s.families.ghost_name) × (l.steps.places.ghost_name ≡ s.places.ghost_name)
    × (l.steps.lengths.ghost_name ≡ s.lengths.ghost_name)
