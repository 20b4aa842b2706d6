-- `Conversion::write_others` writes record after record. The invariant: what is left to store are the records from
-- `i` on.
-- Assumes nothing.
use Prim.Native.Nat.{◌-◌}
use Rattle.coxeter.proofs.Lists.{Storing}
use Rattle.book_format.specs.Records.{record_bytes, records_from}
use Rattle.book_format.specs.Conversion.{other}
use Rattle.book.proofs.converting.Conversion.write_others.Given as goal

abbrev pub invariant-loop-i : goal.invariant-loop-i
invariant-loop-i l =
    Storing l.initial.out 0 (record_bytes (other l.self.book.edition) (records_from l.self.book.edition l.self.book.bytes.now l.self.book.presets 0)) l.out l.p (record_bytes (other l.self.book.edition) (records_from l.self.book.edition l.self.book.bytes.now (l.self.book.presets - l.i) l.i))
