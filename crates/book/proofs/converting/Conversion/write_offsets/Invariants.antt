-- `Conversion::write_offsets` writes offset after offset. The invariant: what is left to store are the offsets of
-- the records from `i` on, of which the first begins at `o` in the new book.
-- Assumes nothing.
use Rattle.book.proofs.converting.Conversions.{Placing}
use Rattle.book.proofs.converting.Conversion.write_offsets.Given as goal

abbrev pub invariant-loop-i : goal.invariant-loop-i
invariant-loop-i l = Placing l.self.book.edition l.self.book.bytes.now l.self.book.presets l.initial.out l.p l.out l.o l.i
