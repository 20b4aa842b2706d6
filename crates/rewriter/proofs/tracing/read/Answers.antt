-- What `search` leaves open of the proof of `tracing::read`.
use mathlib.Core.Path.{refl}
use Rattle.rewriter.proofs.tracing.Making.{making_start, making_ready, making_end}
use Rattle.rewriter.proofs.tracing.read.Goals as goal

pub loop-i-init : goal.loop-i-init
loop-i-init c = rw c.requires.none_made (making_start c.args.word _ _ _ _, refl, refl, refl)

pub insert-size-requires : goal.insert-size-requires
insert-size-requires c =
    making_ready c.args.word _ _ _ _ c.loop-i.invariant.0 c.loop-i-test.true c.requires.word_in_bounds
    c.loop-i.steps.equally_long.0 c.loop-i.steps.equally_long.1

pub returns-clause-made : goal.returns-clause-made
returns-clause-made c =
    making_end c.args.word _ _ _ _ c.loop-i.invariant.0 c.loop-i-test.false c.requires.word_in_bounds
