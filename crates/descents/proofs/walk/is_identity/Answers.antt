-- What `search` leaves open of the proof of `walk::is_identity`.
use native.Mathlib.Omega.{arith}
use Rattle.descents.proofs.walk.Walking.{identity_next, identity_differs, identity_end}
use Rattle.descents.proofs.walk.is_identity.Goals as goal

pub returns-then-x-i : goal.returns-then-x-i
returns-then-x-i c = identity_differs _ _ c.loop-i-test.true c.if-x-i.true

pub loop-i-preserved : goal.loop-i-preserved
loop-i-preserved c = identity_next _ _ c.loop-i-test.true c.requires (omega arith) c.if-x-i.false c.loop-i.invariant

pub returns : goal.returns
returns c = identity_end _ _ c.loop-i-test.false c.loop-i.invariant
