-- `rewrite_at` answers and writes what the step of the definitions does: its checks are made in their order, and
-- the search hands on the rule.
-- Assumes nothing.
use native.Mathlib.Omega.{arith}
use Rattle.coxeter.proofs.Groups.{number_positive, rank_le}
use Rattle.rules.proofs.Calls.{accepted_least}
use Rattle.rewriter.proofs.RewritingToEnd.{accepted}
use Rattle.rewriter.proofs.Rewrites.{fitted, rewrote_preset, rewrote_place, rewrote_none, rewrote_short, rewrote_used}
use Rattle.rewriter.proofs.rewrite_at.Goals as goal

pub returns-in-Err : goal.returns-in-Err
returns-in-Err c = rw c.number.ensures (rewrote_preset c.in-Err.ensures.refusal (number_positive _))

pub returns-then-size-place : goal.returns-then-size-place
returns-then-size-place c =
    let e = c.in-Ok.ensures in
    rw c.number-then-size-place.ensures (rewrote_place (accepted _ _ _ e.refusal) (rw e.word.2 at c.if-size-place.true))

pub returns-in_default : goal.returns-in_default
returns-in_default c =
    let e = c.in-Ok.ensures in
    rewrote_none _ _ (accepted _ _ _ e.refusal) (rw e.word.2 at c.if-size-place.false)
    (rw (e.word.0, e.word.1, e.word.2) at c.fitting_rule.ensures) c.in_default.is

pub new_length-length-requires : goal.new_length-length-requires
new_length-length-requires c =
    let w = fitted c.in-Ok.word.group.in_range.0 c.if-size-place.false c.fitting_rule.ensures c.in-Some.is in omega (arith, w.inside)

pub returns-then-out-length : goal.returns-then-out-length
returns-then-out-length c =
    let e = c.in-Ok.ensures in
    let passed = accepted _ _ _ e.refusal in
    let inside = rw e.word.2 at c.if-size-place.false in
    let handed = fitted (accepted_least passed) inside (rw (e.word.0, e.word.1, e.word.2) at c.fitting_rule.ensures) c.in-Some.is in
    rw c.number-then-out-length.ensures (rewrote_short _ _ passed inside handed (rw e.word.2 at c.new_length-length.ensures) c.if-out-length.true)

pub write_rewritten-requires-clause-i_bound : goal.write_rewritten-requires-clause-i_bound
write_rewritten-requires-clause-i_bound c =
    let w = fitted c.in-Ok.word.group.in_range.0 c.if-size-place.false c.fitting_rule.ensures c.in-Some.is in
    omega (arith, w.low, rank_le _ _ c.in-Ok.word.group.in_range)

pub write_rewritten-requires-clause-le_left : goal.write_rewritten-requires-clause-le_left
write_rewritten-requires-clause-le_left c =
    let w = fitted c.in-Ok.word.group.in_range.0 c.if-size-place.false c.fitting_rule.ensures c.in-Some.is in
    (w.nonempty, w.inside)

pub returns : goal.returns
returns c =
    let e = c.in-Ok.ensures in
    let passed = accepted _ _ _ e.refusal in
    let inside = rw e.word.2 at c.if-size-place.false in
    let handed = fitted (accepted_least passed) inside (rw (e.word.0, e.word.1, e.word.2) at c.fitting_rule.ensures) c.in-Some.is in
    rewrote_used _ _ passed inside handed (rw e.word.2 at c.new_length-length.ensures) c.if-out-length.false (rw (e.word.1, e.word.2) at c.write_rewritten.ensures)
