-- `checks::check_word` makes checks 7 and 8 in this order.
-- Assumes nothing.
use mathlib.Core.Path.{sym, ◌∙◌}
use borrow.Author.Tests.{lt-ltb, le-ltb}
use Rattle.coxeter.specs.Checks.{word_refusal, too_long}
use Rattle.refusals.proofs.checks.check_word.Goals as goal

pub returns-then-word-gt-LONGEST : goal.returns-then-word-gt-LONGEST
unfolding word_refusal too_long
returns-then-word-gt-LONGEST c = rw (lt-ltb _ _ c.if-word-gt-LONGEST.true)

pub returns-then-has_wrong_letter : goal.returns-then-has_wrong_letter
unfolding word_refusal too_long
returns-then-has_wrong_letter c = rw (le-ltb _ _ c.if-word-gt-LONGEST.false, sym c.has_wrong_letter.ensures ∙ c.if-has_wrong_letter.true)

pub returns : goal.returns
unfolding word_refusal too_long
returns c = rw (le-ltb _ _ c.if-word-gt-LONGEST.false, sym c.has_wrong_letter.ensures ∙ c.if-has_wrong_letter.false)
