-- `library::winnathey_refusal_message` answers the number of the call below it, which fits: a message has at most
-- 255 characters.
-- Assumes nothing.
use Rattle.c_api.proofs.Lengths.{fits, refusal_message_small}
use Rattle.c_api.proofs.Bytes.{message_yielded}
use Rattle.c_api.proofs.library.winnathey_refusal_message.Goals as goal

pub number_of-requires : goal.number_of-requires
number_of-requires c = fits _ c.refusal_message.ensures.0 (refusal_message_small _ _)

pub returns : goal.returns
returns c =
    message_yielded _ _ c.byte.ensures c.number_of.type_inv c.number_of.ensures c.refusal_message.ensures
