-- `runs::put_five` stores five numbers one after the other.
-- Assumes nothing.
use Rattle.book.proofs.runs.StoredRuns.{sets_five}
use Rattle.book.proofs.runs.put_five.Goals as goal

pub returns : goal.returns
returns c = sets_five c.args.fields.now c.args.p c.args.numbers.now search
