-- `CheckedBook::open` makes checks 1 to 3 in this order, of a book that has bytes.
-- Assumes nothing.
use mathlib.Core.Path.{◌≡◌, sym, ap, ◌∙◌}
use native.Mathlib.Omega.{arith}
use borrow.Author.Rules.{rules}
use lib.ListN.{length}
use Rattle.coxeter.specs.Checks.{check}
use Rattle.book_format.proofs.BookLaws.{book_refusal-bytes, book_refusal_small, book_refusal_large, book_refusal-count, book_refusal-walk}
use Rattle.book_format.proofs.BookLaws.{count_read, count-bytes, trailer-bytes, trailer_read}
use Rattle.book.proofs.checked.CheckedBook.open.Goals as goal
use Rattle.book.proofs.checked.CheckedBook.open.Goals.{then-bytes-lt2-via-then-bytes-lt2, then-bytes-lt2-via-else-bytes-lt2+then-bytes-gt-LARGEST}

pub invariant_of-result : goal.invariant_of-result
invariant_of-result c =
    let z : length c.args.bytes.now ≡ 0 = search rules in
    record { accepted = book_refusal-bytes _ _ z; counted = sym (count-bytes _ z); cut = sym (trailer-bytes _ z); fits = omega arith; short = omega arith }

pub returns-then-bytes-lt2-clause-refusal : goal.returns-then-bytes-lt2-clause-refusal
returns-then-bytes-lt2-clause-refusal c =
    let f : length c.args.bytes.now ≡ 0 → ⊥ = search rules in
    elim c.then-bytes-lt2.branch [
      | then-bytes-lt2-via-then-bytes-lt2 w ↦ sym (book_refusal_small _ _ f w.if-bytes-lt2.true)
      | then-bytes-lt2-via-else-bytes-lt2+then-bytes-gt-LARGEST w ↦ sym (book_refusal_large _ _ w.if-bytes-lt2.false w.if-bytes-gt-LARGEST.true)
    ]

pub returns-then-bytes-presets-clause-refusal : goal.returns-then-bytes-presets-clause-refusal
returns-then-bytes-presets-clause-refusal c =
    sym
    (book_refusal-count _ _ _ c.if-bytes-lt2.false c.if-bytes-gt-LARGEST.false (count_read _ _ c.two_at-presets.ensures.0) c.if-bytes-presets.true)

pub is_misplaced-requires-clause-c_value : goal.is_misplaced-requires-clause-c_value
is_misplaced-requires-clause-c_value c = count_read _ _ c.two_at-presets.ensures.0

pub returns-then-is_misplaced-clause-refusal : goal.returns-then-is_misplaced-clause-refusal
returns-then-is_misplaced-clause-refusal c =
    sym
    (book_refusal-walk _ _ _ _ c.if-bytes-lt2.false c.if-bytes-gt-LARGEST.false (count_read _ _ c.two_at-presets.ensures.0) c.if-bytes-presets.false c.is_misplaced.ensures
    ∙ ap (check 3) c.if-is_misplaced.true)

pub invariant_of-result-2 : goal.invariant_of-result-2
invariant_of-result-2 c =
    let n = count_read _ _ c.two_at-presets.ensures.0 in
    record {
      accepted =
          book_refusal-walk _ _ _ _ c.if-bytes-lt2.false c.if-bytes-gt-LARGEST.false n c.if-bytes-presets.false c.is_misplaced.ensures
          ∙ ap (check 3) c.if-is_misplaced.false;
      counted = n;
      cut = trailer_read _ _ n;
      fits = omega arith;
      short = c.if-bytes-gt-LARGEST.false;
    }
