-- `shortest::winnathey_fallback` goes by the cases of the verdict.
-- Assumes nothing.
use mathlib.Core.Path.{ap, ◌∙◌}
use native.Mathlib.Omega.{arith}
use Rattle.c_api.specs.Calls.{refused}
use Rattle.c_api.specs.Shortest.{fallback_number}
use Rattle.c_api.proofs.Lengths.{i64_back, length-fits, length_back}
use Rattle.c_api.proofs.Verdicts.{fallback_numbered, fallback_size}
use Rattle.c_api.proofs.shortest.winnathey_fallback.Goals as goal

pub overflow_cast-result : goal.overflow_cast-result
overflow_cast-result c = length-fits _ (omega (arith, fallback_size (rw c.in-Ok-Some.field-0-is at c.in-Ok-Some.ensures)))

pub returns-in-Ok-Some : goal.returns-in-Ok-Some
unfolding fallback_number
returns-in-Ok-Some c =
    fallback_numbered _ _ c.byte.ensures c.byte-2.ensures c.fallback_places.ensures
    (rw (c.in-Ok-Some.is, c.in-Ok-Some.field-0-is) (length_back _ (omega (arith, fallback_size (rw c.in-Ok-Some.field-0-is at c.in-Ok-Some.ensures)))))

pub returns-in-Ok-None : goal.returns-in-Ok-None
unfolding fallback_number refused
returns-in-Ok-None c =
    fallback_numbered _ _ c.byte.ensures c.byte-2.ensures c.fallback_places.ensures (rw (c.in-Ok-None.is, c.in-Ok-None.field-0-is))

pub returns-in-Err : goal.returns-in-Err
unfolding fallback_number
returns-in-Err c =
    fallback_numbered _ _ c.byte.ensures c.byte-2.ensures c.fallback_places.ensures
    (rw c.in-Err.is (i64_back _ c.refusal_number.type_inv ∙ c.refusal_number.ensures ∙ ap refused c.number.ensures))
