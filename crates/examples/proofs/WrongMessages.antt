-- Wrong messages of the refusals, each of the type of `refusal_message`. WrongAnswers.antt says where each is wrong.
-- Assumes nothing.
use mathlib.Core.List.{List}
use Prim.Native.Nat.{ℕ, ◌+◌}
use lib.Dec.{eqb}
use lib.ListN.{length, take}
use Rattle.coxeter.specs.Kinds.{pick}
use Rattle.coxeter.specs.Calls.{Outcome, writes}
use Rattle.messages.specs.Messages.{message, refusal_message}

-- the text of the next refusal
abbrev pub message_of_the_next : ℕ → List ℕ → Outcome ℕ
message_of_the_next r out = refusal_message (r + 1) out

-- a text for 0, which is no refusal
abbrev pub message_for_none : ℕ → List ℕ → Outcome ℕ
message_for_none r out = refusal_message (pick (eqb r 0) 1 r) out

-- as much of the text as has room, without check 14
abbrev pub message_cut_off : ℕ → List ℕ → Outcome ℕ
message_cut_off r out = writes 0 (take (length out) (message r)) out
