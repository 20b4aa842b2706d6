-- What `search` leaves open of the proof of `carrying::insert`.
use Rattle.rewriter.proofs.carrying.CarriedSteps.{carried_ready}
use Rattle.rewriter.proofs.carrying.Inserting.{carried_front}
use Rattle.rewriter.proofs.carrying.insert.Goals as goal

pub returns-then-q-eq0-clause-inserted : goal.returns-then-q-eq0-clause-inserted
returns-then-q-eq0-clause-inserted c =
    let m = rw c.in-Some.is at c.loop-place.invariant.moved in
    rw m.0 (carried_front c.requires m.1 c.if-q-eq0.true)

pub pass-at-requires : goal.pass-at-requires
pass-at-requires c =
    let m = rw c.in-Some.is at c.loop-place.invariant.moved in
    carried_ready m.1 c.requires

pub turn-made-requires-clause-ready : goal.turn-made-requires-clause-ready
turn-made-requires-clause-ready c =
    let m = rw c.in-Some.is at c.loop-place.invariant.moved in
    carried_ready c.pass-at.ensures.carried.1 (carried_ready m.1 c.requires)
