-- `writing::write_appended` writes the records and the new one, and then the trailer with one offset more.
-- Assumes nothing.
use mathlib.Core.Path.{◌∙◌, sym, ap}
use native.Mathlib.Omega.{arith}
use Rattle.coxeter.specs.Kinds.{lanes}
use Rattle.coxeter.proofs.Groups.{kind_of_number}
use Rattle.book_format.proofs.BookLaws.{accepted}
use Rattle.book.proofs.writing.Appended.{appended-written}
use Rattle.book.proofs.writing.write_appended.Goals as goal

pub write_records-requires : goal.write_records-requires
write_records-requires c =
    let b = c.args.book.now in
    let a = accepted _ _ b.accepted in
    omega (arith, a.sized, b.cut, c.requires)

pub write_trailer-requires : goal.write_trailer-requires
write_trailer-requires c =
    let b = c.args.book.now in
    let a = accepted _ _ b.accepted in
    omega (arith, a.sized, b.counted, b.cut, c.requires, c.write_records.auto.out, c.head_size.ensures.0)

pub returns : goal.returns
returns c =
    let b = c.args.book.now in
    let word = c.args.word in
    appended-written (record {
      opens = b.accepted;
      counted = b.counted;
      cut = b.cut;
      head = c.head_size.ensures.0;
      lane_count = c.lanes.ensures ∙ sym (ap (λ k. lanes k word.group.rank) (kind_of_number word.group.kind));
    }) c.args.out.now word.letters.now _ (rw c.number.ensures at c.write_records.ensures) c.write_trailer.ensures
