-- `library::winnathey_version` is the number of the version.
-- Assumes nothing.
use mathlib.Core.Path.{refl}
use Rattle.c_api.specs.Calls.{version}
use Rattle.c_api.proofs.library.winnathey_version.Goals as goal

pub returns : goal.returns
unfolding version
returns c = refl
