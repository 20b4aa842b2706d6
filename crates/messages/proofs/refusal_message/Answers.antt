-- `refusal_message` puts the part of the texts where the message stands. That the code's two tables are the messages
-- one after the other and the places where they end is computed; `message_stands` has the rest.
-- Assumes nothing.
use Rattle.messages.specs.Messages.{codes_from, codes, messages}
use Rattle.messages.proofs.Texts.{unsaid, said, joined, ends, stands_rises, stands_within, stands_part, message_stands}
use Rattle.messages.proofs.refusal_message.Goals as goal

pub returns-then-refusal-gt21 : goal.returns-then-refusal-gt21
returns-then-refusal-gt21 c = unsaid _ _ c.if-refusal-gt21.true

pub slice_bounds-put-count : goal.slice_bounds-put-count
unfolding messages ends
slice_bounds-put-count c = stands_rises (message_stands _ c.if-refusal-gt21.false)

pub slice_bounds-put-start : goal.slice_bounds-put-start
unfolding messages ends
slice_bounds-put-start c = stands_rises (message_stands _ c.if-refusal-gt21.false)

pub slice_bounds-put-end : goal.slice_bounds-put-end
unfolding messages ends joined codes codes_from
slice_bounds-put-end c = stands_within (message_stands _ c.if-refusal-gt21.false)

pub returns : goal.returns
unfolding messages ends joined codes codes_from
returns c = said _ _ _ _ _ (stands_part (message_stands _ c.if-refusal-gt21.false)) c.put.ensures
