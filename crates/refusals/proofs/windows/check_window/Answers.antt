-- `windows::check_window` makes checks 9 to 11 in this order.
-- Assumes nothing.
use Rattle.refusals.proofs.checks.Tests.{window_refusal-lanes, window_refusal-entry, window_refusal-odd, window_refusal_none}
use Rattle.refusals.proofs.windows.check_window.Goals as goal

pub returns-then-w-m : goal.returns-then-w-m
returns-then-w-m c = window_refusal-lanes _ _ _ _ c.lanes-m.ensures c.if-w-m.true

pub returns-then-has_wrong_entry : goal.returns-then-has_wrong_entry
returns-then-has_wrong_entry c = window_refusal-entry _ _ _ _ _ c.lanes-m.ensures c.if-w-m.false c.has_wrong_entry.ensures c.if-has_wrong_entry.true

pub returns-then-has_odd_negatives : goal.returns-then-has_odd_negatives
returns-then-has_odd_negatives c =
    window_refusal-odd _ _ _ _ c.lanes-m.ensures c.if-w-m.false c.has_wrong_entry.ensures c.if-has_wrong_entry.false
    c.has_odd_negatives.ensures c.if-has_odd_negatives.true

pub returns : goal.returns
returns c =
    window_refusal_none _ _ _ _ c.lanes-m.ensures c.if-w-m.false c.has_wrong_entry.ensures c.if-has_wrong_entry.false
    c.has_odd_negatives.ensures c.if-has_odd_negatives.false
