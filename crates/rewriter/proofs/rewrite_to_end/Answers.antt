-- `rewrite_to_end` refuses in the order of its checks, with the steps counted first, or writes the rewriting.
-- Assumes nothing.
use Rattle.rewriter.proofs.RewritingToEnd.{checked_trace, traced_refused, families_short, places_short, lengths_short, out_short, traced_done}
use Rattle.rewriter.proofs.rewrite_to_end.Goals as goal
use Rattle.rewriter.proofs.rewrite_to_end.Goals.{
  then-families-steps-via-then-families-steps as short_families,
  then-families-steps-via-else-families-steps+then-places-steps as short_places,
  then-families-steps-via-else-families-steps+else-places-steps+then-lengths-steps as short_lengths,
}

pub returns-in_err-word : goal.returns-in_err-word
returns-in_err-word c = traced_refused _ _ _ _ c.in_err-word.ensures.refusal _ _ _ _ _ c.from_residual.ensures

pub returns-then-families-steps : goal.returns-then-families-steps
returns-then-families-steps c =
    let e = c.in_ok-word.ensures in
    let n = rw (checked_trace c.in_ok-word.word _ _ _ e.word) at c.count-counted.ensures in
    elim c.then-families-steps.branch [
      | short_families w ↦ families_short _ _ _ _ _ _ _ e.refusal n.0 w.if-families-steps.true
      | short_places w ↦ places_short _ _ _ _ _ _ _ e.refusal n.0 w.if-families-steps.false w.if-places-steps.true
      | short_lengths w ↦ lengths_short _ _ _ _ _ _ _ e.refusal n.0 w.if-families-steps.false w.if-places-steps.false w.if-lengths-steps.true
    ]

pub returns-then-out-counted : goal.returns-then-out-counted
returns-then-out-counted c =
    let e = c.in_ok-word.ensures in
    let n = rw (checked_trace c.in_ok-word.word _ _ _ e.word) at c.count-counted.ensures in
    out_short _ _ _ _ _ _ _ e.refusal n.0 c.if-families-steps.false c.if-places-steps.false c.if-lengths-steps.false n.1 c.if-out-counted.true

pub returns : goal.returns
returns c =
    let e = c.in_ok-word.ensures in
    let n = rw (checked_trace c.in_ok-word.word _ _ _ e.word) at c.count-counted.ensures in
    let t = rw (checked_trace c.in_ok-word.word _ _ _ e.word) at c.write_trace.ensures in
    traced_done _ _ _ _ _ _ _ e.refusal n.0 c.if-families-steps.false c.if-places-steps.false c.if-lengths-steps.false n.1 c.if-out-counted.false t.0 t.1 t.2 t.3
