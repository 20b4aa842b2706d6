-- `converting::print_refused` is safe: the line ends inside the buffer.
-- Assumes nothing.
use mathlib.Core.Path.{sym}
use native.Mathlib.Omega.{arith}
use lib.Seq.{length-take-le}
use Rattle.coxeter.proofs.Writes.{wrote}
use Rattle.programs.proofs.converting.print_refused.Goals as goal

pub slice_bounds-line-end : goal.slice_bounds-line-end
slice_bounds-line-end g c = omega (arith, (wrote _ _ _ _ _ c.in-Ok.ensures).room, c.refused_book.auto.out)

pub slice_bounds-print-end : goal.slice_bounds-print-end
slice_bounds-print-end g c =
    sym (length-take-le _ _ (omega (arith, (wrote _ _ _ _ _ c.in-Ok.ensures).room, c.refused_book.auto.out)))
