-- What `search` leaves open of the proof of `stripping::strip`.
use mathlib.Core.Path.{◌∙◌}
use Rattle.descents.proofs.stripping.Turns.{turning_end, turning_taken, turning_less}
use Rattle.descents.proofs.stripping.strip.Goals as goal

pub loop-s-smaller-then-take_allowed_descent : goal.loop-s-smaller-then-take_allowed_descent
loop-s-smaller-then-take_allowed_descent c =
    turning_less c.loop-s.invariant.1 c.args.group.in_range.0 c.loop-s-test.true _ _
    c.take_allowed_descent.ensures c.if-take_allowed_descent.true _ c.back-s.ensures.0

pub loop-s-preserved-then-take_allowed_descent : goal.loop-s-preserved-then-take_allowed_descent
loop-s-preserved-then-take_allowed_descent c =
    let l = c.take_allowed_descent in (
      l.auto.w ∙ c.loop-s.invariant.0,
      turning_taken c.loop-s.invariant.1 c.args.group.in_range.0 c.loop-s-test.true _ _
          l.ensures c.if-take_allowed_descent.true _ c.back-s.ensures,
    )

pub returns : goal.returns
returns c = turning_end c.loop-s.invariant.1 c.loop-s-test.false
