-- `pieces::next_piece` makes a line a turn and copies it where it fits. What is left of the piece begins at the
-- next line, and the run in hand begins no later than with the preset of that.
-- Assumes nothing.
use mathlib.Core.Path.{◌≡◌}
use mathlib.Core.List.{map}
use Prim.Native.Nat.{◌-◌, ◌≤◌, max}
use lib.ListN.{length}
use Rattle.coxeter.specs.Kinds.{up}
use Rattle.book_format.specs.answers.Preset.{as_preset}
use Rattle.book_format.specs.Calls.{checked_preset}
use Rattle.listing_text.specs.Calls.{line_count}
use Rattle.listing_lines.proofs.pieces.Filling.{Filling}
use Rattle.listing_lines.proofs.pieces.next_piece.Given as goal

abbrev pub invariant-loop-next : goal.invariant-loop-next
invariant-loop-next l = record {
  filling : Filling l.edition l.book l.first l.initial.out l.out l.next l.end;
  begins : l.run.first ≤ l.next - 1;
  presets : map as_preset l.run.presets ≡ map (checked_preset l.edition l.book) (up l.run.first 128);
  room : 65536 ≡ length l.line;
  count : l.count ≡ line_count l.edition l.book;
  last : l.next ≤ max l.first l.count;
}
