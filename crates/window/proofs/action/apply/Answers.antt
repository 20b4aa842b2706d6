-- What `search` leaves open of the proof of `action::apply`.
use mathlib.Core.Path.{refl, sym, ◌∙◌}
use Rattle.coxeter.proofs.Acceptance.{letters_accepted}
use Rattle.coxeter.proofs.LetterLaws.{letter_within, wrong_letter_next}
use Rattle.window.proofs.action.Actions.{refusal_next, window_from_next, window_from_end}
use Rattle.window.proofs.action.apply.Goals as goal

pub loop-s-init : goal.loop-s-init
loop-s-init c = record { steps = letters_accepted _ _ c.args.word.accepted; passes = c.requires; leads = refl }

pub act_on-requires : goal.act_on-requires
act_on-requires c =
    let i = c.loop-s.invariant in
    record { le_s = letter_within _ _ _ c.loop-s-test.true i.steps; window_of = i.passes }

pub loop-s-preserved : goal.loop-s-preserved
loop-s-preserved c =
    let i = c.loop-s.invariant in
    record {
      steps = wrong_letter_next _ _ _ c.loop-s-test.true i.steps;
      passes = refusal_next _ _ _ _ _ i.passes c.act_on.ensures;
      leads = i.leads ∙ window_from_next _ _ _ _ _ _ c.loop-s-test.true c.act_on.ensures;
    }

pub returns : goal.returns
returns c = sym (c.loop-s.invariant.leads ∙ window_from_end _ _ _ _ _ c.loop-s-test.false)
