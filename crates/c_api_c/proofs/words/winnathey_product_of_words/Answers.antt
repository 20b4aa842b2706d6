-- `words::winnathey_product_of_words` promises what the call of that name promises of the same arguments. `search` finds
-- this too; it is written out so that the edit is refused for what it says.
-- Assumes nothing.
use mir.Syntax.{w64}
use mir.Val.{SFits}
use Rattle.std.proofs.Math.Facts.{to_z-of_z}
use borrow.Author.Rules.{rules}
use Rattle.c_api_c.proofs.words.winnathey_product_of_words.Goals as goal

pub returns : goal.returns
returns c =
    let fits : SFits w64 c.winnathey_product_of_words.result = search rules in
    rw (to_z-of_z fits) c.winnathey_product_of_words.ensures
