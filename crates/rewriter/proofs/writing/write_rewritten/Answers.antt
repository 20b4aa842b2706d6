-- `writing::write_rewritten` writes the word that a rule leaves, by `write_without` for family 1 and `write_moved`
-- for the others.
-- Assumes nothing.
use borrow.Author.Tests.{ne_eqb}
use native.Mathlib.Omega.{arith}
use Rattle.rules.proofs.Scan.{right_length}
use Rattle.rewriter.proofs.writing.Words.{new_without, new_moved}
use Rattle.rewriter.proofs.writing.write_rewritten.Goals as goal

pub returns-then-rule-eq1 : goal.returns-then-rule-eq1
returns-then-rule-eq1 c =
    rw (new_without _ _ _ _ _ _ _ c.requires.le_left.1 c.if-rule-eq1.true) c.write_without.ensures

pub write_moved-requires-clause-word_in_bounds : goal.write_moved-requires-clause-word_in_bounds
unfolding right_length
write_moved-requires-clause-word_in_bounds c = omega (arith, rw (ne_eqb _ _ c.if-rule-eq1.false) at c.requires.left_in_bounds)

pub returns : goal.returns
returns c =
    rw (new_moved _ _ _ _ _ _ _ c.requires.le_left.1 c.if-rule-eq1.false, ← c.first_letter-first.ensures)
    c.write_moved.ensures
