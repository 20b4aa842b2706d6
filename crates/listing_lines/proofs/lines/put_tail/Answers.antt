-- `lines::put_tail` puts the four parts of the text one after the other.
-- Assumes nothing.
use Rattle.listing_lines.proofs.lines.Lines.{tail-put}
use Rattle.listing_lines.proofs.lines.put_tail.Goals as goal

pub returns : goal.returns
returns c =
    tail-put _ _ _ _ c.put_letters-a.ensures c.put_bytes-b.ensures c.put_entries-c.ensures c.put_bytes.ensures
