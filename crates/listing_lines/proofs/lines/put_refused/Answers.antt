-- `lines::put_refused` puts the two parts of the line one after the other.
-- Assumes nothing.
use Rattle.listing_lines.proofs.lines.Lines.{refused_line-put}
use Rattle.listing_lines.proofs.lines.put_refused.Goals as goal

pub returns : goal.returns
returns c =
    refused_line-put _ _ _ _ c.put_decimal-a.ensures (rw c.number.ensures at c.put_labelled.ensures)
