-- `delay_table` makes checks 5, 6 and 20, then checks the room of each output, and has the table, the longest window and
-- its normal form written.
-- Assumes nothing.
use mathlib.Core.Path.{◌≡◌, refl, sym, ap, ◌∙◌}
use native.Mathlib.Omega.{arith}
use Rattle.std.specs.Prelude.{Result, Ok, Err, IsErr, IsErrAnd}
use Rattle.coxeter.specs.declared.Refusal.{Refusal}
use Rattle.coxeter.specs.Refusals.{number}
use Rattle.coxeter.proofs.Groups.{number_positive}
use Rattle.distribution.specs.declared.TableLengths.{TableLengths}
use Rattle.distribution.specs.answers.Table.{Refused, as_table}
use Rattle.distribution.proofs.Outcomes.{table_rank, table-refused, counts_short, entries-short, letters-short, table-written}
use Rattle.delay.proofs.longest.Entries.{longest_front}
use Rattle.delay.proofs.delay_table.Goals as goal
use Rattle.delay.proofs.delay_table.Goals.{then-counts-l-via-then-counts-l, then-counts-l-via-else-counts-l+then-entries-m, then-counts-l-via-else-counts-l+else-entries-m+then-letters-l}

-- the result that `?` makes of a refusal
refused_with : (r : Result TableLengths Refusal) (e : Refusal) → IsErr r × IsErrAnd r (λ (x : Refusal). x ≡ e) → as_table r ≡ Refused (number e)
refused_with (Ok x) e h = absurd h.1
refused_with (Err x) e h = ap (λ (x : Refusal). Refused (number x)) h.1

pub returns-in_err-group : goal.returns-in_err-group
returns-in_err-group c =
    let t = table-refused _ _ _ _ _ c.in_err-group.ensures.refusal (number_positive _) in
    (refused_with _ _ c.from_residual.ensures ∙ t.0, t.1, t.2, t.3)

pub returns-then-counts-l : goal.returns-then-counts-l
returns-then-counts-l c =
    let g = c.in_ok-group.ensures in
    let l = rw (g.group.0, g.group.1) at c.greatest_length-l.ensures in
    let m = rw (g.group.0, g.group.1) at c.lanes-m.ensures in
    elim c.then-counts-l.branch [
      | then-counts-l-via-then-counts-l w ↦ counts_short _ _ _ _ _ g.refusal refl l (omega arith)
      | then-counts-l-via-else-counts-l+then-entries-m w ↦ entries-short _ _ _ _ _ g.refusal refl l m (omega arith) w.if-entries-m.true
      | then-counts-l-via-else-counts-l+else-entries-m+then-letters-l w ↦
          letters-short _ _ _ _ _ g.refusal refl l m (omega arith) w.if-entries-m.false w.if-letters-l.true
    ]

pub write_counts-requires-clause-tabled : goal.write_counts-requires-clause-tabled
write_counts-requires-clause-tabled c =
    let g = c.in_ok-group.ensures in rw (g.group.0, g.group.1) (table_rank _ _ (sym g.refusal)).1

pub write_form-requires-clause-entries_value : goal.write_form-requires-clause-entries_value
write_form-requires-clause-entries_value c =
    (longest_front _ _ _ c.in_ok-group.group.in_range refl (rw (← c.lanes-m.ensures) c.if-entries-m.false) c.write_longest.ensures).1

pub returns : goal.returns
returns c =
    let g = c.in_ok-group.ensures in
    let l = rw (g.group.0, g.group.1) at c.greatest_length-l.ensures in
    let m = rw (g.group.0, g.group.1) at c.lanes-m.ensures in
    table-written _ _ _ _ _ g.refusal refl l m (omega (arith, c.if-counts-l.false)) c.if-entries-m.false c.if-letters-l.false
    (rw (g.group.0, g.group.1) at c.write_counts.ensures) (rw (g.group.0, g.group.1) at c.write_longest.ensures) (rw (g.group.0, g.group.1) at c.write_form.ensures)
