-- `numbers::put_decimal` calls itself for a tenth of the number: the measure is the number.
use Rattle.listing_lines.proofs.numbers.+put_decimal.Given as goal

abbrev pub decreases-put_decimal : goal.decreases-put_decimal
decreases-put_decimal l = l.x
