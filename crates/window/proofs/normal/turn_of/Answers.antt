-- `normal::turn_of` gives where a block turns, by the kind.
-- Assumes nothing.
use borrow.Author.Rules.{rules}
use Rattle.window.proofs.KindCases.{else_D}
use Rattle.window.proofs.normal.Blocks.{block-two, block_three}
use Rattle.window.proofs.normal.turn_of.Goals as goal

pub returns-in-B : goal.returns-in-B
returns-in-B c = (search rules, search rules, λ i j h. block-two _ _ i j c.in-B.is c.args.shape.ranked.0 h)

pub returns-in-A : goal.returns-in-A
returns-in-A c = (search rules, search rules, λ i j h. block_three _ _ i j (else_D c.in-A.is c.requires) c.args.shape.ranked.0 h)
