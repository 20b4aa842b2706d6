-- `lines::put_head` puts the five parts of the text one after the other.
-- Assumes nothing.
use Rattle.listing_lines.proofs.lines.Lines.{kind_put, head-put}
use Rattle.listing_lines.proofs.lines.put_head.Goals as goal

pub returns : goal.returns
returns c =
    head-put _ _ _ _ _ _ c.put_decimal-a.ensures
    (kind_put c.put_decimal-a.new.out _ _ c.kind_letter.ensures c.put_bytes-b.ensures)
    c.put_spaced-c.ensures c.put_spaced-d.ensures c.put_bytes.ensures
