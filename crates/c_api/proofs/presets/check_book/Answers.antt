-- `presets::check_book` answers the number of the call below it, which fits: a book of at most 65,535 bytes has fewer
-- presets.
-- Assumes nothing.
use mathlib.Core.Path.{ap, ◌∙◌}
use Rattle.c_api.specs.Calls.{opened_number}
use Rattle.c_api.proofs.Lengths.{i64_back, presets-fit, opened_numbered}
use Rattle.c_api.proofs.presets.check_book.Goals as goal

pub number_of-requires : goal.number_of-requires
number_of-requires c = presets-fit _ _ _ c.check_book.ensures

pub returns : goal.returns
returns c =
    i64_back _ c.number_of.type_inv ∙ c.number_of.ensures ∙ opened_numbered _ ∙ ap opened_number c.check_book.ensures
