-- What `search` leaves open of the proof of `between::are_allowed`.
use mathlib.Core.Path.{◌∙◌}
use borrow.Author.Rules.{rules}
use Rattle.std.proofs.Common.{tests}
use Rattle.std.proofs.lemmas.Iterator.{YieldsList-from_slice}
use Rattle.std.proofs.lemmas.Iterator.Adapters.{serves_from_places}
use Rattle.std.proofs.lemmas.Iterator.Search.{all_from_yields_List}
use Rattle.shortest_words.specs.Allowed.{allows}
use Rattle.descents.proofs.between.Leading.{list_all-over, letter_met}
use Rattle.descents.proofs.between.are_allowed.Goals as goal

pub all-requires-clause-callable : goal.all-requires-clause-callable
all-requires-clause-callable c =
    serves_from_places (YieldsList-from_slice c.args.word.now cc) (λ x q k. search (rules, tests)) (λ x k h e. let met = letter_met 64 _ k x.now c.requires h e in search rules)

pub returns : goal.returns
returns c =
    all_from_yields_List (allows c.args.allowed) _ _ _ c.all.ensures.ran (YieldsList-from_slice c.args.word.now cc) (λ x b q k. search (rules, tests))
    ∙ list_all-over (allows c.args.allowed) c.args.word.now
