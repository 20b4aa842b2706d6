-- `allowed::is_allowed` asks for one bit of the set.
-- Assumes nothing.
use mathlib.Core.Path.{refl}
use Rattle.shortest_words.specs.Allowed.{allows}
use Rattle.descents.proofs.allowed.is_allowed.Goals as goal

pub returns : goal.returns
unfolding allows
returns c = refl
