-- `lines::put_labelled` puts the three parts of the text one after the other.
-- Assumes nothing.
use Rattle.listing_lines.proofs.lines.Lines.{labelled_put}
use Rattle.listing_lines.proofs.lines.put_labelled.Goals as goal

pub returns : goal.returns
returns c =
    labelled_put c.args.out.now _ c.args.label.now _ c.put_bytes-a.ensures c.put_decimal-b.ensures
    c.put_bytes.ensures
