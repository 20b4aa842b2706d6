-- `words::winnathey_crossings_of_word` writes what the call below it counted; the total fits, since a normal form
-- has at most 4,096 letters.
-- Assumes nothing.
use Rattle.coxeter.proofs.Totals.{crossings_of_word_small}
use Rattle.c_api.proofs.Lengths.{total_fits}
use Rattle.c_api.proofs.Bytes.{crossings_of_word_refusable, crossings_as_bytes}
use Rattle.c_api.proofs.words.winnathey_crossings_of_word.Goals as goal

pub write_crossings-requires : goal.write_crossings-requires
write_crossings-requires c = total_fits _ c.crossings_of_word.ensures (crossings_of_word_small _ _ _)

pub returns : goal.returns
returns c =
    crossings_as_bytes (crossings_of_word_refusable _) _ _ _ c.byte.ensures c.byte-2.ensures c.number_of.type_inv
    c.number_of.ensures c.write_crossings.ensures.numbers c.crossings_of_word.ensures
