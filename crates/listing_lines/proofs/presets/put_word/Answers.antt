-- `presets::put_word` puts the line from the normal form and the window, which are written whole: neither call is
-- refused.
-- Assumes nothing.
use mathlib.Core.Path.{sym}
use Prim.Native.Nat.{◌≤◌}
use native.Mathlib.Omega.{arith}
use lib.IntN.{pos}
use lib.ListN.{length, replicate}
use lib.Seq.{length-take-le}
use Rattle.coxeter.specs.Windows.{window}
use Rattle.coxeter.specs.NormalForm.{word_normal_form}
use Rattle.coxeter.proofs.Writes.{Wrote, wrote}
use Rattle.listing_lines.proofs.presets.PresetLines.{form_le, window_le, never_refused, word_line_room, word_line-put}
use Rattle.listing_lines.proofs.presets.put_word.Goals as goal
use Rattle.listing_lines.proofs.presets.put_word.Goals.{In-Ok, In-Ok-write_window}

-- the normal form in its buffer
form : (c : In-Ok) → let g = c.args.word.group in Wrote 0 (word_normal_form g.kind g.rank c.args.word.letters.now) c.buffer-form.result c.write_form_of_word.new.out c.in-Ok.l
form c = wrote _ _ _ _ _ c.in-Ok.ensures

form_inside : (c : In-Ok) → c.in-Ok.l ≤ length c.write_form_of_word.new.out
form_inside c = omega (arith, (form c).room, c.write_form_of_word.auto.out)

-- the window in its buffer
shown : (c : In-Ok-write_window) → let g = c.args.word.group in Wrote 0 (window g.kind g.rank c.args.word.letters.now) (replicate 64 (pos 0)) c.write_window.new.out c.in-Ok-write_window.m
shown c = wrote _ _ _ _ _ c.in-Ok-write_window.ensures

shown_inside : (c : In-Ok-write_window) → c.in-Ok-write_window.m ≤ length c.write_window.new.out
shown_inside c = omega (arith, (shown c).room, c.write_window.auto.out)

pub returns-in_default : goal.returns-in_default
returns-in_default c =
    absurd (never_refused _ _ _ _ (omega (arith, form_le _ _ c.args.word.group.in_range c.args.word.letters.now, c.buffer-form.ensures)) c.in_default.ensures)

pub returns-in_default-write_window : goal.returns-in_default-write_window
returns-in_default-write_window c =
    absurd
    (never_refused _ _ _ _ (omega (arith, window_le _ _ c.args.word.group.in_range c.args.word.letters.now))
    c.in_default-write_window.ensures)

pub slice_bounds-form-end : goal.slice_bounds-form-end
slice_bounds-form-end c = form_inside (goal.at.slice_bounds-form-end c).In-Ok

pub slice_bounds-put_line-end : goal.slice_bounds-put_line-end
slice_bounds-put_line-end c = sym (length-take-le _ _ (form_inside (goal.at.slice_bounds-put_line-end c).In-Ok))

pub slice_bounds-shown-end : goal.slice_bounds-shown-end
slice_bounds-shown-end c = shown_inside (goal.at.slice_bounds-shown-end c).In-Ok-write_window

pub slice_bounds-put_line-end-2 : goal.slice_bounds-put_line-end-2
slice_bounds-put_line-end-2 c = sym (length-take-le _ _ (shown_inside (goal.at.slice_bounds-put_line-end-2 c).In-Ok-write_window))

pub put_line-requires : goal.put_line-requires
put_line-requires c =
    let at = goal.at.put_line-requires c in
    word_line_room _ _ _ _ _ (form at.In-Ok).front (shown at.In-Ok-write_window).front c.requires

pub returns : goal.returns
returns c =
    let at = goal.at.returns c in
    word_line-put _ _ _ _ _ _ (form at.In-Ok).front (shown at.In-Ok-write_window).front c.put_line.ensures
