-- `converting::check_records` makes the checks of record after record. The invariant: the refusal of all is that
-- of the records from `i` on.
-- Assumes nothing.
use mathlib.Core.Path.{◌≡◌}
use Prim.Native.Nat.{◌-◌}
use Rattle.book_format.specs.Conversion.{records_conversion_refusal}
use Rattle.book.proofs.converting.check_records.Given as goal

abbrev pub invariant-loop-i : goal.invariant-loop-i
invariant-loop-i l =
    records_conversion_refusal l.book.edition l.book.bytes.now l.book.presets 0
    ≡ records_conversion_refusal l.book.edition l.book.bytes.now (l.book.presets - l.i) l.i
