-- `normal::write_up` stores the letters from a up to b. The invariant: what is left to store is the letters from x on.
-- Assumes nothing.
use Rattle.coxeter.specs.NormalForm.{rise}
use Rattle.coxeter.proofs.Lists.{Storing}
use Rattle.window.proofs.normal.write_up.Given as goal

abbrev pub invariant-loop-x : goal.invariant-loop-x
invariant-loop-x l = Storing l.initial.out l.at (rise l.a l.b) l.out l.r (rise l.x l.b)
