-- `ending::ending_rule` tells equal letters at once; else the lower of the last two letters must stand where the
-- search stopped, and then the block there and the letter tell the rule.
-- Assumes nothing.
use mathlib.Core.Path.{sym, ◌∙◌}
use native.Mathlib.Omega.{arith}
use Rattle.rewriter.proofs.ending.Ends.{one, min_lower, ending_front, ending_square, ending_other}
use Rattle.rewriter.proofs.ending.BlockEnds.{size_there, index_small, ending_block}
use Rattle.rewriter.proofs.ending.ending_rule.Goals as goal

pub returns-then-q-eq0 : goal.returns-then-q-eq0
returns-then-q-eq0 c =
    ending_front c.requires.least_le c.requires.reading c.if-q-eq0.true

pub returns-then-l-x : goal.returns-then-l-x
returns-then-l-x c =
    ending_square _ _ c.requires.least_le _ _ c.requires.reading (one c.if-q-eq0.false) c.if-l-x.true

pub returns-then-word-place : goal.returns-then-word-place
returns-then-word-place c =
    ending_other _ _ c.requires.least_le _ _ c.requires.reading (one c.if-q-eq0.false) _ c.place_of-place.ensures c.if-l-x.false
    (c.requires.stays (one c.if-q-eq0.false)) (λ e. c.if-word-place.true (e ∙ sym (c.min-low.ensures ∙ min_lower _ _)))

pub overflow_cast-q : goal.overflow_cast-q
overflow_cast-q c =
    let z = size_there c.requires.least_le c.requires.reading (one c.if-q-eq0.false) _ c.place_of-place.ensures c.if-l-x.false
    (c.requires.stays (one c.if-q-eq0.false)) (c.if-word-place.false ∙ (c.min-low.ensures ∙ min_lower _ _)) c.requires.rank_le in
    omega (arith, z)

pub index_of-j-requires : goal.index_of-j-requires
index_of-j-requires c =
    let z = size_there c.requires.least_le c.requires.reading (one c.if-q-eq0.false) _ c.place_of-place.ensures c.if-l-x.false
    (c.requires.stays (one c.if-q-eq0.false)) (c.if-word-place.false ∙ (c.min-low.ensures ∙ min_lower _ _)) c.requires.rank_le in
    (rw (c.min-low.ensures ∙ min_lower _ _) z.0, z.1, z.2)

pub block_rule-requires : goal.block_rule-requires
block_rule-requires c =
    let z = index_small c.requires.least_le c.requires.reading (one c.if-q-eq0.false) _ c.place_of-place.ensures c.if-l-x.false
    (c.requires.stays (one c.if-q-eq0.false)) (c.if-word-place.false ∙ (c.min-low.ensures ∙ min_lower _ _)) _ _ (c.min-low.ensures ∙ min_lower _ _) c.index_of-j.ensures in
    z

pub returns : goal.returns
returns c =
    ending_block c.requires.least_le c.requires.reading (one c.if-q-eq0.false) _ c.place_of-place.ensures c.if-l-x.false
    (c.requires.stays (one c.if-q-eq0.false)) (c.if-word-place.false ∙ (c.min-low.ensures ∙ min_lower _ _)) (c.min-low.ensures ∙ min_lower _ _) c.index_of-j.ensures c.block_rule.ensures
