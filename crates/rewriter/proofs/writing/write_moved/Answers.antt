-- `writing::write_moved` writes the word that families 2 to 7 leave: the word, and the right side over its left side.
-- Assumes nothing.
use Rattle.rewriter.proofs.writing.Words.{written_moved}
use Rattle.rewriter.proofs.writing.write_moved.Goals as goal

pub returns : goal.returns
returns c =
    written_moved _ _ _ _ _ c.requires.le_left c.requires.word_in_bounds c.copy.ensures c.copy-2.ensures
