-- `walk::write_places` stores the places of the letters that are not 0, one after the other; those from letter i on
-- are left.
-- Assumes nothing.
use lib.ListN.{drop}
use Rattle.coxeter.proofs.Lists.{Storing}
use Rattle.shortest_words.proofs.FallbackWalk.{marked}
use Rattle.descents.proofs.walk.write_places.Given as goal

abbrev pub invariant-loop-i : goal.invariant-loop-i
invariant-loop-i l = Storing l.initial.places 0 (marked 0 l.word) l.places l.at (marked l.i (drop l.i l.word))
