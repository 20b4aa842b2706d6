-- `checks::accepted_words`: the second word passed at the rank of the first. Written out, so that a word that was not
-- checked is refused by what is known of it.
-- Assumes nothing.
use mathlib.Core.Path.{sym}
use Rattle.refusals.proofs.checks.accepted_words.Goals as goal

pub invariant_of-second : goal.invariant_of-second
invariant_of-second c = record { accepted = rw c.in_ok-first.ensures.word.1 (sym c.in_ok-check_word.ensures) }
