-- `length::length_of` adds the negative entries in kind B, and in A and D the pairs are all.
-- Assumes nothing.
use native.Mathlib.Omega.{arith}
use Rattle.coxeter.proofs.PairWeights.{negatives_le}
use Rattle.coxeter.proofs.Groups.{group_lanes_le}
use Rattle.window.proofs.length.Sums.{both_pairs, both_pairs_le, refusal-B, length_le_of_lanes, window_length-B, window_length_else}
use Rattle.window.proofs.length.length_of.Goals as goal

pub overflow_add-result : goal.overflow_add-result
unfolding both_pairs
overflow_add-result c =
    let w = c.args.window in
    let small = length_le_of_lanes _ _ w.entries.now (group_lanes_le _ _ w.group.in_range) w.accepted in
    omega (arith, c.parts_of-parts.ensures, both_pairs_le w.entries.now (refusal-B _ _ _ w.accepted) small, negatives_le w.entries.now)

pub returns-in-B : goal.returns-in-B
returns-in-B c =
    let w = c.args.window in
    let whole = window_length-B _ _ w.entries.now w.accepted c.in-B.is in
    omega (arith, c.parts_of-parts.ensures, whole)

pub returns-in-A : goal.returns-in-A
returns-in-A c =
    let w = c.args.window in
    let whole = window_length_else _ _ w.entries.now w.accepted c.in-A.is in
    omega (arith, c.parts_of-parts.ensures, whole)
