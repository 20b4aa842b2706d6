-- What the contracts of `listing_lines` name: a line by what opening the book and reading its preset answered, and the
-- number of a refused preset. The laws about them lie with that code; a contract cannot name a definition of its own
-- crate's proofs/.
-- Assumes nothing.
use mathlib.Core.List.{List}
use Prim.Native.Nat.{ℕ, zero, suc}
use Rattle.book_format.specs.answers.Opened.{Opened}
use Rattle.book_format.specs.answers.Preset.{Preset}
use Rattle.book_format.specs.answers.Preset as preset
use Rattle.listing_text.specs.Text.{line_by}
use Rattle.listing_text.specs.Calls.{first_line}

-- line i: of the book that opening answered o, and of the preset that reading answered a
unfoldable pub line_from : List ℕ → Opened → ℕ → Preset → List ℕ
line_from b o zero a = first_line o
line_from b o (suc i) a = line_by b i a

-- the number of a refused preset, 0 of one that was found
unfoldable pub refusal_of : Preset → ℕ
refusal_of (preset.Found k n s l) = 0
refusal_of (preset.Refused r) = r
