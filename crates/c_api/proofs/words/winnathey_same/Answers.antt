-- `words::winnathey_same` goes by the cases of the verdict.
-- Assumes nothing.
use mathlib.Core.Path.{ap, ◌∙◌}
use Rattle.c_api.specs.Calls.{refused, verdict_number}
use Rattle.c_api.proofs.Lengths.{i64_back}
use Rattle.c_api.proofs.Bytes.{verdict_numbered}
use Rattle.c_api.proofs.words.winnathey_same.Goals as goal

pub returns-in-Ok-true : goal.returns-in-Ok-true
unfolding verdict_number
returns-in-Ok-true c =
    verdict_numbered _ _ _ _ _ _ c.byte.ensures c.byte-2.ensures c.byte-3.ensures c.byte-4.ensures c.presets_equal.ensures
    (rw (c.in-Ok-true.is, c.in-Ok-true.field-0-test))

pub returns-in-Ok-false : goal.returns-in-Ok-false
unfolding verdict_number
returns-in-Ok-false c =
    verdict_numbered _ _ _ _ _ _ c.byte.ensures c.byte-2.ensures c.byte-3.ensures c.byte-4.ensures c.presets_equal.ensures
    (rw (c.in-Ok-false.is, c.in-Ok-false.field-0-test))

pub returns-in-Err : goal.returns-in-Err
unfolding verdict_number
returns-in-Err c =
    verdict_numbered _ _ _ _ _ _ c.byte.ensures c.byte-2.ensures c.byte-3.ensures c.byte-4.ensures c.presets_equal.ensures
    (rw c.in-Err.is (i64_back _ c.refusal_number.type_inv ∙ c.refusal_number.ensures ∙ ap refused c.number.ensures))
