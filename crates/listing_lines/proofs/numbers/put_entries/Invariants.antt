-- `numbers::put_entries` puts the entries one after the other: what is left to put is the entries from this one on.
-- Assumes nothing.
use lib.ListN.{drop}
use Rattle.coxeter.proofs.Lists.{Storing}
use Rattle.listing_text.specs.Text.{entries}
use Rattle.listing_lines.proofs.numbers.put_entries.Given as goal

abbrev pub invariant-loop-e : goal.invariant-loop-e
invariant-loop-e l = Storing l.initial.out l.at (entries l.window) l.out l.r (entries (drop l.e-index l.window))
