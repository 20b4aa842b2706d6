-- `walk::decide` decides by what is left of the target: straight, and then the places are written where there is
-- room, or not.
-- Assumes nothing.
use native.Mathlib.Omega.{arith}
use Rattle.coxeter.proofs.Acceptance.{length_accepted}
use Rattle.descents.proofs.walk.Deciding.{left_length, decide_no, decide_short, decide_kept}
use Rattle.descents.proofs.walk.decide.Goals as goal

pub is_identity-requires : goal.is_identity-requires
is_identity-requires c =
    left_length _ _ _ _ c.args.group.in_range c.requires.word_of c.requires.window_of _ c.keep_letters-kept.auto.w

pub returns-then-not-is_identity : goal.returns-then-not-is_identity
returns-then-not-is_identity c =
    decide_no _ _ _ _ c.args.group.in_range c.requires.word_of c.requires.window_of _ _ _ c.keep_letters-kept.ensures c.keep_letters-kept.auto.w
    c.is_identity.ensures _ c.if-not-is_identity.true

pub returns-then-places-kept : goal.returns-then-places-kept
returns-then-places-kept c =
    decide_short _ _ _ _ c.args.group.in_range c.requires.word_of c.requires.window_of _ _ _ c.keep_letters-kept.ensures c.keep_letters-kept.auto.w
    c.is_identity.ensures _ c.if-not-is_identity.false c.if-places-kept.true

pub write_places-requires-clause-word_len_bound : goal.write_places-requires-clause-word_len_bound
write_places-requires-clause-word_len_bound c =
    omega (arith, length_accepted _ _ c.requires.word_of, c.keep_letters-kept.auto.word)

pub returns : goal.returns
returns c =
    decide_kept _ _ _ _ c.args.group.in_range c.requires.word_of c.requires.window_of _ _ _ c.keep_letters-kept.ensures c.keep_letters-kept.auto.w
    c.is_identity.ensures _ _ c.if-not-is_identity.false c.if-places-kept.false c.write_places.ensures
