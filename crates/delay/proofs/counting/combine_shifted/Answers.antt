-- What `search` leaves open of the proof of `counting::combine_shifted`.
use Prim.Native.Nat.{◌-◌}
use native.Mathlib.Omega.{arith}
use Rattle.delay.proofs.counting.Filling.{combined_none, read_own, read_back, combined_next}
use Rattle.delay.proofs.counting.combine_shifted.Goals as goal

pub loop-l-init : goal.loop-l-init
loop-l-init g c = combined_none _

pub combine-requires : goal.combine-requires
combine-requires g c =
    let i = c.loop-l in
    let q = c.loop-l-test.true in
    rw (read_own i.invariant i.auto.l q, read_back i.invariant i.auto.l q) (c.requires (i.l - 1) (omega arith) (omega arith))

pub loop-l-preserved : goal.loop-l-preserved
loop-l-preserved g c = combined_next c.loop-l.invariant c.loop-l.auto.l c.loop-l-test.true c.combine.ensures

pub returns-clause-first : goal.returns-clause-first
returns-clause-first g c = λ i p o. c.loop-l.invariant.low i o p

pub returns-clause-others : goal.returns-clause-others
returns-clause-others g c = λ i p o. c.loop-l.invariant.rest i o (omega arith) p
