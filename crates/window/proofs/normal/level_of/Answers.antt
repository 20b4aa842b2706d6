-- `normal::level_of` goes by the entry's sign, and by whether it has changed.
-- Assumes nothing.
use Rattle.window.proofs.normal.OneLevel.{position-negative, position_positive, one_entry, behind_le}
use Rattle.window.proofs.normal.OneLevel.{level_negative-changed, level_negative, level_positive_changed, level_positive}
use Rattle.window.proofs.normal.level_of.Goals as goal

pub returns-then-has_changed_sign : goal.returns-then-has_changed_sign
returns-then-has_changed_sign c =
    level_negative-changed _ _ _ _ _ (position-negative _ c.if-place-ge128.true) c.without-rest.ensures c.larger_behind-behind.ensures
    c.has_changed_sign.ensures c.if-place-ge128.true c.if-has_changed_sign.true

pub returns-then-place-ge128 : goal.returns-then-place-ge128
returns-then-place-ge128 c =
    level_negative _ _ _ _ _ (position-negative _ c.if-place-ge128.true) c.without-rest.ensures c.larger_behind-behind.ensures
    c.has_changed_sign.ensures c.if-place-ge128.true c.if-has_changed_sign.false

pub returns-then-has_changed_sign-2 : goal.returns-then-has_changed_sign-2
returns-then-has_changed_sign-2 c =
    level_positive_changed _ _ _ _ _ (position_positive _ c.if-place-ge128.false) c.without-rest-2.ensures c.larger_behind-behind-2.ensures
    c.has_changed_sign-2.ensures c.if-place-ge128.false c.if-has_changed_sign-2.true

pub overflow_sub-result-3 : goal.overflow_sub-result-3
overflow_sub-result-3 c =
    let pre = c.requires in
    behind_le _ _ _ _ (one_entry _ _ _ pre.1) pre.0 c.larger_behind-behind-2.ensures

pub returns : goal.returns
returns c =
    level_positive _ _ _ _ _ (position_positive _ c.if-place-ge128.false) c.without-rest-2.ensures c.larger_behind-behind-2.ensures
    c.has_changed_sign-2.ensures c.if-place-ge128.false c.if-has_changed_sign-2.false
