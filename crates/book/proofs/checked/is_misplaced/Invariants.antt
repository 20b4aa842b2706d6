-- `checked::is_misplaced` makes check 3. The invariant: an offset was wrong, or what is left to test are the
-- records from `i` on, the next of them due at byte `due`, in any edition that has its letter counts at `place`.
-- Assumes nothing.
use mathlib.Core.Path.{◌≡◌}
use mathlib.Core.Bool.{◌||◌}
use Prim.Native.Nat.{◌≤◌, ◌-◌}
use Rattle.book_format.specs.declared.Edition.{Edition}
use Rattle.book_format.specs.Books.{count_place, misplaced, misplaced_from}
use Rattle.book.proofs.checked.is_misplaced.Given as goal

abbrev pub invariant-loop-i : goal.invariant-loop-i
invariant-loop-i l =
    (l.i ≤ l.c) × ((ed : Edition) → l.place ≡ count_place ed → misplaced ed l.book ≡ (l.wrong || misplaced_from ed l.book (l.c - l.i) l.i l.due))
