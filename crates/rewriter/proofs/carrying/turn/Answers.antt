-- `carrying::turn` looks for the rule that ends with the letter, notes it and makes the step; the laws of Inserting
-- say what each way out leaves.
-- Assumes nothing.
use mathlib.Core.Path.{refl}
use native.Mathlib.Omega.{arith}
use Rattle.rewriter.proofs.carrying.Passing.{ready_inside}
use Rattle.rewriter.proofs.carrying.Inserting.{turn_none, turn_place, turn_pair, turn_deleted, turn_carried}
use Rattle.rewriter.proofs.carrying.turn.Goals as goal

pub returns-in_default-clause-moved : goal.returns-in_default-clause-moved
returns-in_default-clause-moved c =
    turn_none c.requires.ready _ c.ending_rule.ensures c.in_default.is

pub overflow_sub-left : goal.overflow_sub-left
overflow_sub-left c =
    omega (arith, turn_pair c.requires.ready _ c.ending_rule.ensures c.in-Some.is c.if-rule-eq1.true)

pub note-requires-clause-place_bound : goal.note-requires-clause-place_bound
note-requires-clause-place_bound c =
    let a = c.requires.ready in
    (omega (arith, turn_place a _ c.ending_rule.ensures c.in-Some.is, ready_inside a, a.short), omega (arith, a.short))

pub delete-requires : goal.delete-requires
delete-requires c =
    turn_pair c.requires.ready _ c.ending_rule.ensures c.in-Some.is c.if-rule-eq1.true

pub returns-then-rule-eq1-clause-moved : goal.returns-then-rule-eq1-clause-moved
returns-then-rule-eq1-clause-moved c =
    let n = c.note.ensures.noted in
    rw n.0
    (turn_deleted c.requires.ready _ c.ending_rule.ensures c.in-Some.is _ c.if-rule-eq1.true n.1 n.2 n.3 c.delete.ensures)

pub note-requires-2-clause-place_bound : goal.note-requires-2-clause-place_bound
note-requires-2-clause-place_bound c =
    let a = c.requires.ready in
    (omega (arith, turn_place a _ c.ending_rule.ensures c.in-Some.is, ready_inside a, a.short), omega (arith, a.short))

pub carry-requires : goal.carry-requires
carry-requires c =
    (omega (arith, turn_place c.requires.ready _ c.ending_rule.ensures c.in-Some.is), ready_inside c.requires.ready)

pub returns-clause-moved : goal.returns-clause-moved
returns-clause-moved c =
    let n = c.note-2.ensures.noted in
    let d = turn_carried c.requires.ready _ c.ending_rule.ensures c.in-Some.is c.if-rule-eq1.false n.1 n.2 n.3 c.carry.ensures in
    (turn_place c.requires.ready _ c.ending_rule.ensures c.in-Some.is, refl, rw n.0 d)
