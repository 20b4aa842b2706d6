-- `Conversion::write_other` hands the letters of the record, a part of the book, to `write_record` of the other edition.
-- Assumes nothing.
use Rattle.book.proofs.converting.Conversions.{converts, rank_passed}
use Rattle.book.proofs.converting.Conversion.write_other.Goals as goal

pub lanes-requires : goal.lanes-requires
lanes-requires c =
    let s = c.args.self.now in
    let r = c.record-record.ensures in
    rw r.1 (rank_passed (converts s.passed s.some) s.book.counted _ c.requires.in_book r.2)
