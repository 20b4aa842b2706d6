-- The text is copied, if there is room.
-- Assumes nothing.
use mathlib.Core.Path.{refl}
use native.Mathlib.Nat.{le_refl}
use lib.Seq.{take_all}
use Rattle.messages.proofs.Texts.{put-short, put_copied}
use Rattle.messages.proofs.put.Goals as goal

pub returns-then-out-text : goal.returns-then-out-text
returns-then-out-text c = put-short _ _ c.if-out-text.true

pub returns : goal.returns
returns c = put_copied _ _ c.if-out-text.false refl (rw (c.copy_from_slice.ensures.after, take_all _ _ (le_refl _)))
