-- `pieces::put_nth` puts the first line, or that of the preset.
-- Assumes nothing.
use Rattle.book_format.specs.answers.Opened.{as_opened}
use Rattle.book_format.specs.answers.Preset.{as_preset}
use Rattle.listing_lines.proofs.pieces.Filling.{line_from_first, line_from_preset}
use Rattle.listing_lines.proofs.pieces.put_nth.Goals as goal

pub put_first-requires : goal.put_first-requires
put_first-requires c =
    rw (line_from_first c.args.book.now _ _ (as_preset c.args.answer) c.if-i-eq0.true) at c.requires.1.1

pub returns-then-i-eq0 : goal.returns-then-i-eq0
returns-then-i-eq0 c =
    rw (line_from_first _ _ _ _ c.if-i-eq0.true) c.put_first.ensures

pub put_preset-requires : goal.put_preset-requires
put_preset-requires c =
    let pre = c.requires in
    (pre.0, (pre.1.0, rw (line_from_preset c.args.book.now (as_opened c.args.opened) _ _ c.if-i-eq0.false) at pre.1.1))

pub returns : goal.returns
returns c =
    rw (line_from_preset _ _ _ _ c.if-i-eq0.false) c.put_preset.ensures
