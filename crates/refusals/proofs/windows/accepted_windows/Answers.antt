-- `windows::accepted_windows`: the second window passed as one of the first's group. Written out, so that a window that was
-- not checked is refused by what is known of it.
-- Assumes nothing.
use mathlib.Core.Path.{sym}
use Rattle.refusals.proofs.windows.accepted_windows.Goals as goal

pub invariant_of-second : goal.invariant_of-second
invariant_of-second c = record { accepted = sym c.in_ok-check_window.ensures }
