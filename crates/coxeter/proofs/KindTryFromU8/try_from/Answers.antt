-- `Kind::try_from` makes check 5.
-- Assumes nothing.
use Rattle.std.proofs.Common.{rules}
use Rattle.coxeter.specs.Checks.{wrong_kind}
use Rattle.coxeter.proofs.KindTryFromU8.try_from.Goals as goal

pub returns-in_default : goal.returns-in_default
unfolding wrong_kind
returns-in_default c = search rules
