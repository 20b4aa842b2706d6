-- `listing::print_book` is safe, since a piece ends inside the buffer, and ends, since a piece leaves fewer lines.
-- Assumes nothing.
use mathlib.Core.Path.{sym}
use native.Mathlib.Omega.{arith}
use lib.Seq.{length-take-le}
use Rattle.listing_text.proofs.Pieces.{piece_inside}
use Rattle.listing_text.proofs.Room.{piece_falls}
use Rattle.programs.proofs.listing.print_book.Goals as goal

pub slice_bounds-out-end : goal.slice_bounds-out-end
slice_bounds-out-end g c = omega (arith, piece_inside _ _ _ _ _ c.next_piece-piece.ensures.0, c.next_piece-piece.auto.out)

pub slice_bounds-print-end : goal.slice_bounds-print-end
slice_bounds-print-end g c =
    sym (length-take-le _ _ (omega (arith, piece_inside _ _ _ _ _ c.next_piece-piece.ensures.0, c.next_piece-piece.auto.out)))

pub loop-edition-smaller : goal.loop-edition-smaller
loop-edition-smaller g c =
    piece_falls _ _ _ _ _ c.next_piece-piece.ensures.0 (omega (arith, c.loop-edition.invariant)) c.if-piece-eq0.false
