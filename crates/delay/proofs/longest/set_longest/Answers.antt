-- What `search` leaves open of the proof of `longest::set_longest`.
use mathlib.Core.Path.{◌∙◌}
use native.Mathlib.Omega.{arith}
use Rattle.refusals.proofs.Bytes.{element_back}
use Rattle.delay.proofs.longest.Entries.{longest_next, longest_all}
use Rattle.delay.proofs.longest.set_longest.Goals as goal

pub loop-i-preserved : goal.loop-i-preserved
loop-i-preserved c =
    let at = c.loop-i in
    longest_next _ _ _ _ c.args.group.in_range.0 (omega arith) (at.auto.w ∙ c.requires) (element_back _ c.longest_entry.type_inv ∙ c.longest_entry.ensures) at.invariant

pub returns : goal.returns
returns c =
    let at = c.loop-i in
    longest_all _ _ _ _ c.args.group.in_range.0 (omega arith) (at.auto.w ∙ c.requires) at.invariant
