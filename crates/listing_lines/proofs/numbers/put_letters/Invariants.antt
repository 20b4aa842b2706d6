-- `numbers::put_letters` puts the letters one after the other: what is left to put is the letters from this one on.
-- Assumes nothing.
use lib.ListN.{drop}
use Rattle.coxeter.proofs.Lists.{Storing}
use Rattle.listing_text.specs.Text.{letters}
use Rattle.listing_lines.proofs.numbers.put_letters.Given as goal

abbrev pub invariant-loop-letter : goal.invariant-loop-letter
invariant-loop-letter l = Storing l.initial.out l.at (letters l.word) l.out l.r (letters (drop l.letter-index l.word))
