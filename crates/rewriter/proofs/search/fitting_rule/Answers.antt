-- What `search` leaves open of the proof of `search::fitting_rule`.
use mathlib.Core.Path.{◌∙◌}
use Rattle.coxeter.specs.declared.Word.{Word}
use Rattle.coxeter.proofs.Acceptance.{letters_accepted}
use Rattle.coxeter.proofs.LetterLaws.{letter_at}
use Rattle.rewriter.proofs.search.Searches.{Searchable, searching_start, searching_next, searching_left, searching_fits, searching_end}
use Rattle.rewriter.proofs.search.fitting_rule.Goals as goal

searchable : (w : Word) → Searchable w.group.kind w.group.rank w.letters.now
searchable w = record { rank = w.group.in_range.0; letters = letters_accepted _ _ w.accepted }

pub new-way-requires : goal.new-way-requires
new-way-requires c = (letter_at _ _ _ c.requires (searchable c.args.word).letters).1

pub loop-at-init : goal.loop-at-init
loop-at-init c = searching_start _ _ _ (searchable c.args.word) _ c.requires

pub next-requires : goal.next-requires
next-requires c = rw c.new-way.ensures.0 (letter_at _ _ _ c.loop-at-test.true (searchable c.args.word).letters).1

pub returns-in_err-family : goal.returns-in_err-family
returns-in_err-family c =
    let w = c.new-way.ensures in
    c.from_residual.ensures
    ∙ searching_left _ _ _ (searchable c.args.word) c.loop-at.invariant c.loop-at-test.true (rw (w.0, w.1) at c.in_default.ensures) (rw (w.0, w.1) at c.in_err-family.ensures)

pub returns-in_default : goal.returns-in_default
returns-in_default c =
    let w = c.new-way.ensures in
    searching_fits _ _ _ (searchable c.args.word) c.loop-at.invariant c.loop-at-test.true (rw (w.0, w.1) at c.in_default.ensures)
    (rw (w.0, w.1) at c.in_ok-family.ensures.0) c.in_ok-family.ensures.1 c.shown_index.ensures

pub loop-at-preserved : goal.loop-at-preserved
loop-at-preserved c =
    let w = c.new-way.ensures in
    searching_next _ _ _ (searchable c.args.word) c.loop-at.invariant c.loop-at-test.true (rw (w.0, w.1) at c.in-Some.ensures.0) c.in-Some.ensures.1

pub returns : goal.returns
returns c =
    searching_end _ _ _ (searchable c.args.word) _ _ _ _ c.loop-at.invariant c.loop-at-test.false
