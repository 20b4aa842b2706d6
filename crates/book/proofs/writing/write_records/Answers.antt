-- `writing::write_records` copies the records of the book and stores the new one behind them.
-- Assumes nothing.
use native.Mathlib.Omega.{arith}
use Rattle.book.proofs.writing.Appended.{records-written}
use Rattle.book.proofs.writing.write_records.Goals as goal

pub returns : goal.returns
returns c =
    let b = c.args.book.now in
    records-written b.bytes.now _ b.trailer _ (omega (arith, b.fits)) c.copy_to.ensures c.write_record.ensures
