-- `words::winnathey_product_of_words` answers the number of the call below it, which fits: a normal form has at
-- most 4,096 letters.
-- Assumes nothing.
use Rattle.c_api.proofs.Lengths.{fits, product_of_words_small}
use Rattle.c_api.proofs.Bytes.{product_of_words_refusable, yielded}
use Rattle.c_api.proofs.words.winnathey_product_of_words.Goals as goal

pub number_of-requires : goal.number_of-requires
number_of-requires c = fits _ c.product_of_words.ensures.0 (product_of_words_small _ _ _ _ _)

pub returns : goal.returns
returns c =
    yielded (product_of_words_refusable _ _ _) _ _ c.byte.ensures c.byte-2.ensures c.number_of.type_inv c.number_of.ensures
    c.product_of_words.ensures
