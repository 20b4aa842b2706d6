-- `writing::write_record` stores the bytes before the letters, and then the letters.
-- Assumes nothing.
use Rattle.book.proofs.numbers.Stores.{record_stored}
use Rattle.book.proofs.writing.write_record.Goals as goal

pub returns : goal.returns
returns c =
    record_stored (record {
      count-place = c.count_place-place.ensures.0;
      head-size = c.head_size-head.ensures.0;
      lane_stored = c.put_lanes.ensures;
      count_stored = c.put_two.ensures;
      letters_stored = c.copy_to.ensures;
    })
