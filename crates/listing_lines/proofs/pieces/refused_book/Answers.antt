-- `pieces::refused_book` makes the line in a buffer of its own, where it has room, and copies it if the output has.
-- Assumes nothing.
use mathlib.Core.Path.{sym}
use Prim.Native.Nat.{◌≤◌}
use native.Mathlib.Omega.{arith}
use lib.ListN.{length}
use lib.Seq.{length-take-le}
use Rattle.listing_lines.proofs.pieces.Filling.{refused_room, refused_inside, refused-short, refused_copied}
use Rattle.listing_lines.proofs.pieces.refused_book.Goals as goal
use Rattle.listing_lines.proofs.pieces.refused_book.Goals.{After-put_labelled-size}

-- the line ends inside its buffer
line-ends_inside : (c : After-put_labelled-size) → c.put_labelled-size.result ≤ length c.put_labelled-size.new.out
line-ends_inside c =
    refused_inside c.args.refusal (omega arith) _ _ _ c.buffer-line.ensures c.put_labelled-size.ensures

pub put_labelled-size-requires : goal.put_labelled-size-requires
put_labelled-size-requires c = omega (arith, refused_room c.args.refusal (omega arith), c.buffer-line.ensures)

pub returns-then-out-size : goal.returns-then-out-size
returns-then-out-size c =
    refused-short c.args.refusal (omega arith) _ _ _ c.buffer-line.ensures c.put_labelled-size.ensures _ c.if-out-size.true

pub slice_bounds-line-end : goal.slice_bounds-line-end
slice_bounds-line-end c = line-ends_inside (goal.at.slice_bounds-line-end c).After-put_labelled-size

pub slice_bounds-put_bytes-end : goal.slice_bounds-put_bytes-end
slice_bounds-put_bytes-end c = sym (length-take-le _ _ (line-ends_inside (goal.at.slice_bounds-put_bytes-end c).After-put_labelled-size))

pub returns : goal.returns
returns c =
    refused_copied c.args.refusal (omega arith) _ _ _ c.buffer-line.ensures c.put_labelled-size.ensures _ c.if-out-size.false _ _
    c.put_bytes.ensures
