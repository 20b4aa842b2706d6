-- `entries::with_sign` is the position or its negation, by the sign, since the position is below 128.
-- Assumes nothing.
use mathlib.Core.Path.{◌≡◌, sym, ap, ◌∙◌}
use Rattle.coxeter.specs.Length.{negative}
use Rattle.refusals.proofs.Bytes.{element_back, cast_back, minus_cast_back}
use Rattle.window.proofs.product.Entries.{signed_minus, signed_plus}
use Rattle.window.proofs.entries.with_sign.Goals as goal

pub returns-then-is_negative : goal.returns-then-is_negative
returns-then-is_negative c =
    let sign : negative c.args.e ≡ c.is_negative.result =
    sym (c.is_negative.ensures ∙ ap negative (element_back c.args.e c.ranges.e.sfits)) in
    minus_cast_back _ c.requires ∙ signed_minus _ _ (sign ∙ c.if-is_negative.true)

pub returns-else-is_negative : goal.returns-else-is_negative
returns-else-is_negative c =
    let sign : negative c.args.e ≡ c.is_negative.result =
    sym (c.is_negative.ensures ∙ ap negative (element_back c.args.e c.ranges.e.sfits)) in
    cast_back _ c.requires ∙ signed_plus _ _ (sign ∙ c.if-is_negative.false)
