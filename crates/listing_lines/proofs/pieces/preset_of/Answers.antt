-- `pieces::preset_of` finds the preset in the run in hand, which has it before or after reading.
-- Assumes nothing.
use Prim.Native.Nat.{◌+◌, ◌<◌}
use native.Mathlib.Omega.{arith}
use Rattle.listing_lines.proofs.pieces.HeldRuns.{Held, held_read, held_kept, held_preset}
use Rattle.listing_lines.proofs.pieces.preset_of.Goals as goal
use Rattle.listing_lines.proofs.pieces.preset_of.Goals.{then-number-run-ge128, else-number-run-ge128}

pub returns-clause-answer : goal.returns-clause-answer
returns-clause-answer c =
    let e = c.saturating_sub-number.ensures in
    let in_hand : Held c.args.edition c.args.book.now c.args.i c.if-number-run-ge128.run
    × (c.saturating_sub-number.result < c.if-number-run-ge128.run.first + 128) =
    elim c.if-number-run-ge128.branch [
      | then-number-run-ge128 w ↦ held_read _ _ _ e w.run-is w.read_run.ensures.1 w.read_run.ensures.2
      | else-number-run-ge128 w ↦ held_kept _ _ _ e w.run-is (record { begins = c.requires.begins; presets = c.requires.presets }) (omega arith)
    ] in
    held_preset _ _ _ e _ in_hand.0 in_hand.1 _
