-- `carrying::pass` carries a letter to the left by family 2: the letters are moved first, then the steps noted.
-- Assumes nothing.
use mathlib.Core.Path.{refl}
use Rattle.rewriter.proofs.carrying.Passing.{ready_inside, ready_word, passed}
use Rattle.rewriter.proofs.carrying.pass.Goals as goal

pub shift-t-requires : goal.shift-t-requires
shift-t-requires c =
    (ready_word c.requires, ready_inside c.requires)

pub returns-clause-carried : goal.returns-clause-carried
returns-clause-carried c =
    let n = c.note_passed.ensures.noted in
    rw n.0
    (passed c.requires refl refl c.shift-t.ensures.0 c.shift-t.ensures.1 c.shift-t.ensures.2
    c.shift-t.ensures.3 n.1 n.2 n.3)
