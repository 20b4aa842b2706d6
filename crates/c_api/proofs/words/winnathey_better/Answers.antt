-- `words::winnathey_better` goes by the cases of the choice.
-- Assumes nothing.
use Rattle.c_api.specs.Calls.{choice_number}
use Rattle.c_api.proofs.Bytes.{choice_numbered}
use Rattle.c_api.proofs.words.winnathey_better.Goals as goal

pub returns-in-Some-First : goal.returns-in-Some-First
unfolding choice_number
returns-in-Some-First c = choice_numbered _ _ _ _ _ c.byte.ensures c.byte-2.ensures c.which_better.ensures (rw (c.in-Some-First.is, c.in-Some-First.field-0-is))

pub returns-in-Some-Second : goal.returns-in-Some-Second
unfolding choice_number
returns-in-Some-Second c = choice_numbered _ _ _ _ _ c.byte.ensures c.byte-2.ensures c.which_better.ensures (rw (c.in-Some-Second.is, c.in-Some-Second.field-0-is))

pub returns-in-None : goal.returns-in-None
unfolding choice_number
returns-in-None c = choice_numbered _ _ _ _ _ c.byte.ensures c.byte-2.ensures c.which_better.ensures (rw c.in-None.is)
