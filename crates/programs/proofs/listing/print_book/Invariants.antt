-- `listing::print_book` ends: a piece leaves fewer lines, which is the measure.
-- Assumes nothing.
use mathlib.Core.Path.{◌≡◌}
use Prim.Native.Nat.{◌-◌}
use lib.ListN.{length}
use Rattle.listing_text.specs.Calls.{line_count}
use Rattle.programs.proofs.listing.print_book.Given as goal

abbrev pub invariant-loop-edition : goal.invariant-loop-edition
invariant-loop-edition g l = length l.out ≡ 65536

abbrev pub decreases-loop-edition : goal.decreases-loop-edition
decreases-loop-edition g l = line_count l.edition l.book - l.first
