-- `action::show` is the window of a word, by `set_identity` and `apply`; the straight window is accepted.
-- Assumes nothing.
use mathlib.Core.Path.{◌∙◌}
use Rattle.window.proofs.action.Actions.{refusal-identity, window_from-identity}
use Rattle.window.proofs.action.show.Goals as goal

pub apply-requires : goal.apply-requires
apply-requires c = refusal-identity _ _ c.requires c.set_identity.ensures

pub returns : goal.returns
returns c = c.apply.ensures ∙ window_from-identity _ _ _ c.requires c.set_identity.ensures
