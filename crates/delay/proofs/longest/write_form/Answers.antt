-- `longest::write_form` has the normal form of the longest window written by the call on windows, for which there is room.
-- Assumes nothing.
use mathlib.Core.Path.{◌∙◌}
use Rattle.distribution.proofs.Longest.{longest_is}
use Rattle.delay.proofs.longest.Entries.{form_written}
use Rattle.delay.proofs.longest.write_form.Goals as goal

pub invariant_of-longest : goal.invariant_of-longest
invariant_of-longest c =
    record { accepted = rw (c.lanes.ensures, c.requires.entries_value) (longest_is _ _ c.args.group.in_range.0).passes }

pub returns : goal.returns
returns c =
    c.write_form.ensures.1 ∙ form_written _ _ _ c.args.group.in_range (rw c.lanes.ensures c.requires.entries_value) c.requires.rank_in_bounds
