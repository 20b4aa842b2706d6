-- `writing::write_trailer` copies the offsets of the book and stores the new one and the count behind them.
-- Assumes nothing.
use Rattle.book.proofs.writing.Appended.{trailer-written}
use Rattle.book.proofs.writing.write_trailer.Goals as goal

pub returns : goal.returns
returns c =
    trailer-written _ _ _ _ _ c.args.book.now.fits c.copy_to.ensures c.put_two.ensures c.put_two-2.ensures
