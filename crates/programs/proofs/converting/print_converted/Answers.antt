-- `converting::print_converted` is safe: the new book ends inside the buffer.
-- Assumes nothing.
use mathlib.Core.Path.{sym}
use native.Mathlib.Omega.{arith}
use lib.Seq.{length-take-le}
use Rattle.book_format.proofs.Converting.{converting_room}
use Rattle.programs.proofs.converting.print_converted.Goals as goal

pub slice_bounds-out-end : goal.slice_bounds-out-end
slice_bounds-out-end g c = omega (arith, converting_room _ _ _ _ (sym c.in-Ok.ensures.value), c.convert.auto.out)

pub slice_bounds-print-end : goal.slice_bounds-print-end
slice_bounds-print-end g c =
    sym (length-take-le _ _ (omega (arith, converting_room _ _ _ _ (sym c.in-Ok.ensures.value), c.convert.auto.out)))
