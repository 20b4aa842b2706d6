-- Demand 3 for lists of calls of `winnathey_rewrite`: its numbers tell the four cases apart, so that the theorem over
-- every form of call holds of it.
-- Assumes nothing.
use mathlib.Core.Path.{refl, ap}
use mathlib.Core.List.{[]}
use mathlib.Core.Option.{some}
use lib.ListN.{length}
use Rattle.rules.specs.Demand3.{Demand3Holds}
use Rattle.rules.proofs.Calls.{Lawful}
use Rattle.rules.proofs.Demand3.{demand3_of}
use Rattle.c_api.specs.Calls.{refused, new_word_in, for_C}
use Rattle.coxeter.proofs.FrontLaws.{take-front}

pub for_C_lawful : Lawful for_C
unfolding refused new_word_in
for_C_lawful = record {
  used_read = λ x w o. ap some (take-front w o.0 (length w) refl);
  none_unused = λ o. refl;
  refused_unused = λ r o. refl;
  none_not_12 = λ e. cc;
  none_not_14 = λ e. cc;
  refused_apart = λ e. cc;
  anything = ([], []);
}

pub demand3_calls : Demand3Holds for_C
demand3_calls = demand3_of for_C_lawful
