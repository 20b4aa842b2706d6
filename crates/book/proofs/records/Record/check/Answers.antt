-- `Record::check` makes checks 5, 6, 17, 7 and 8 in this order.
-- Assumes nothing.
use mathlib.Core.Path.{refl, ap, ◌∙◌}
use Rattle.coxeter.proofs.Groups.{number_positive, numbered_kind}
use Rattle.book_format.specs.answers.Preset.{as_preset}
use Rattle.book.proofs.Results.{refused_with}
use Rattle.book.proofs.records.CheckedRecords.{rank_refused, lanes_refused, word_refused, record_found}
use Rattle.book.proofs.records.Record.check.Goals as goal

pub returns-in_err-group : goal.returns-in_err-group
returns-in_err-group c =
    ap as_preset (refused_with _ _ c.from_residual.ensures)
    ∙ rank_refused _ _ _ c.kind-kind.ensures c.rank-rank.ensures c.in_err-group.ensures.refusal (number_positive _)

pub has_wrong_lanes-requires : goal.has_wrong_lanes-requires
has_wrong_lanes-requires c =
    let g = c.in_ok-group.ensures.group in
    rw (← c.kind-kind.ensures, ← c.rank-rank.ensures, ← numbered_kind g.0, ← g.1) c.lanes.ensures

pub returns-then-has_wrong_lanes : goal.returns-then-has_wrong_lanes
returns-then-has_wrong_lanes c =
    lanes_refused _ _ _ c.kind-kind.ensures c.rank-rank.ensures c.in_ok-group.ensures.refusal refl c.has_wrong_lanes.ensures c.if-has_wrong_lanes.true

pub returns-in_err-accepted_letters : goal.returns-in_err-accepted_letters
returns-in_err-accepted_letters c =
    ap as_preset (refused_with _ _ c.from_residual-in_err-accepted_letters.ensures)
    ∙ word_refused _ _ _ c.kind-kind.ensures c.rank-rank.ensures c.in_ok-group.ensures.refusal refl c.has_wrong_lanes.ensures c.if-has_wrong_lanes.false
    c.letters.ensures (rw c.in_ok-group.ensures.group.1 at c.in_err-accepted_letters.ensures.refusal) (number_positive _)

pub returns : goal.returns
returns c =
    let g = c.in_ok-group.ensures.group in
    rw (g.0, g.1, c.letters_start.ensures, c.letter_count.ensures)
    (record_found _ _ _ c.kind-kind.ensures c.rank-rank.ensures c.in_ok-group.ensures.refusal refl c.has_wrong_lanes.ensures c.if-has_wrong_lanes.false
    c.letters.ensures (rw g.1 at c.in_ok-accepted_letters.ensures.refusal) refl)
