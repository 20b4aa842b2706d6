-- `lines::put_line` puts the two parts of the line one after the other.
-- Assumes nothing.
use Rattle.listing_lines.proofs.lines.Lines.{preset_line-put}
use Rattle.listing_lines.proofs.lines.put_line.Goals as goal

pub returns : goal.returns
returns c =
    preset_line-put _ _ _ _ _ _ _ c.put_head-a.ensures c.put_tail.ensures
