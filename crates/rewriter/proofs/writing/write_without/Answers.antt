-- `writing::write_without` writes the word that family 1 leaves, by two copies.
-- Assumes nothing.
use Rattle.rewriter.proofs.writing.Words.{written-without}
use Rattle.rewriter.proofs.writing.write_without.Goals as goal

pub returns : goal.returns
returns c =
    written-without _ _ _ _ c.requires.left_in_bounds c.requires.left_in_bounds_2
    c.copy.ensures
    c.copy-2.ensures
