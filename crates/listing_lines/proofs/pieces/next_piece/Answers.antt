-- `pieces::next_piece` makes a line a turn and copies it where it fits.
-- Assumes nothing.
use mathlib.Core.Path.{sym, ◌∙◌}
use native.Mathlib.Omega.{arith}
use lib.Seq.{length-take-le}
use Rattle.listing_text.proofs.Room.{line_count_le}
use Rattle.listing_lines.proofs.pieces.Filling.{LineMade, line_count-by, line_room, line_made, filling_none, filling_next, filling_full, filling_done}
use Rattle.listing_lines.proofs.pieces.next_piece.Goals as goal
use Rattle.listing_lines.proofs.pieces.next_piece.Goals.{After-put_nth-size}

-- the line of this turn stands at the front of its buffer
made : (c : After-put_nth-size) → LineMade c.args.edition c.args.book.now c.loop-next.next c.put_nth-size.new.out c.put_nth-size.result
made c =
    let f = c.loop-next.invariant in
    line_made _ _ _ _ _ _ c.read_run-run.ensures.0 c.preset_of-answer.ensures.answer (omega (arith, f.count, c.loop-next-test.true)) f.room _ _
    c.put_nth-size.ensures

pub line_count-count-requires : goal.line_count-count-requires
line_count-count-requires c =
    omega (arith, line_count-by _ _ _ c.read_run-run.ensures.0, line_count_le c.args.edition c.args.book.now)

pub loop-next-init : goal.loop-next-init
loop-next-init c = record {
  filling = filling_none;
  begins = omega (arith, c.saturating_sub.ensures, c.read_run-run.ensures.1);
  presets = rw c.read_run-run.ensures.1 c.read_run-run.ensures.2;
  room = c.large_buffer-line.ensures;
  count = c.line_count-count.ensures ∙ line_count-by _ _ _ c.read_run-run.ensures.0;
  last = omega arith;
}

pub put_nth-size-requires : goal.put_nth-size-requires
put_nth-size-requires c =
    let f = c.loop-next.invariant in
    let answer = c.preset_of-answer.ensures.answer in
    (c.args.edition, (answer, line_room _ _ _ _ _ _ c.read_run-run.ensures.0 answer (omega (arith, f.count, c.loop-next-test.true)) f.room))

pub returns-then-out-end : goal.returns-then-out-end
returns-then-out-end c =
    let f = c.loop-next.invariant in
    filling_full f.filling (omega (arith, f.count, c.loop-next-test.true)) (made (goal.at.returns-then-out-end c).After-put_nth-size) (omega (arith, f.count))
    c.if-out-end.true

pub slice_bounds-line-end : goal.slice_bounds-line-end
slice_bounds-line-end c = (made (goal.at.slice_bounds-line-end c).After-put_nth-size).inside

pub slice_bounds-put_bytes-end : goal.slice_bounds-put_bytes-end
slice_bounds-put_bytes-end c =
    sym (length-take-le _ _ (made (goal.at.slice_bounds-put_bytes-end c).After-put_nth-size).inside)

pub loop-next-preserved : goal.loop-next-preserved
loop-next-preserved c =
    let f = c.loop-next.invariant in record {
      filling = filling_next f.filling (omega (arith, f.count, c.loop-next-test.true)) (made (goal.at.loop-next-preserved c).After-put_nth-size)
          c.if-out-end.false c.put_bytes-end.ensures;
      begins = omega (arith, c.preset_of-answer.ensures.begins);
      presets = c.preset_of-answer.ensures.presets;
      room = f.room ∙ sym c.put_nth-size.auto.out;
      count = f.count;
      last = omega arith;
    }

pub returns : goal.returns
returns c =
    let f = c.loop-next.invariant in
    filling_done f.filling (omega (arith, c.max-next.ensures, f.last)) (omega (arith, f.count, c.loop-next-test.false))
