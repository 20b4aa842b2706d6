-- `runs::put_run` writes preset after preset. The invariant: what is left to store are the numbers of the presets
-- from `i` on.
-- Assumes nothing.
use mathlib.Core.Path.{◌≡◌}
use Prim.Native.Nat.{◌+◌, ◌-◌, ◌*◌, ◌≤◌}
use lib.ListN.{length}
use lib.Seq.{sets}
use Rattle.book_format.specs.Calls.{preset_fields}
use Rattle.book.proofs.runs.put_run.Given as goal

abbrev pub invariant-loop-i : goal.invariant-loop-i
invariant-loop-i l =
    (l.i ≤ l.n) × (length l.fields ≡ length l.initial.fields)
    × (sets l.initial.fields 0 (preset_fields l.book.edition l.book.bytes.now l.n l.first) ≡ sets l.fields (5 * l.i) (preset_fields l.book.edition l.book.bytes.now (l.n - l.i) (l.first + l.i)))
