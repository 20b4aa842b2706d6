-- What `search` leaves open of the proof of `counting::set_one`.
use Rattle.delay.proofs.counting.Loops.{one_start}
use Rattle.delay.proofs.counting.set_one.Goals as goal

pub returns : goal.returns
returns c = rw (c.fill.ensures.after (λ y e. e)) (one_start _ _ c.requires)
