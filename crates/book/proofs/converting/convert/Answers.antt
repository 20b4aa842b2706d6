-- `converting::convert` makes the checks, then 14, and writes the new book.
-- Assumes nothing.
use mathlib.Core.Path.{◌≡◌, refl, ap, ◌∙◌}
use native.Mathlib.Omega.{arith}
use borrow.Author.Rules.{rules}
use lib.ListN.{length}
use Rattle.coxeter.specs.answers.Answer.{as_answer}
use Rattle.coxeter.proofs.Groups.{number_positive}
use Rattle.book_format.proofs.BookLaws.{accepted}
use Rattle.book_format.proofs.Converting.{length-converted}
use Rattle.book.proofs.Results.{refused_with}
use Rattle.book.proofs.converting.Conversions.{converting-refused, converting-bytes, converting-short, converting-written}
use Rattle.book.proofs.converting.convert.Goals as goal

pub returns-in_err-book : goal.returns-in_err-book
returns-in_err-book c =
    let h = converting-refused _ _ _ c.in_err-book.ensures.refusal (number_positive _) in
    record { value = ap as_answer (refused_with _ _ c.from_residual.ensures) ∙ h.0; out_after = h.1 }

pub returns-then-is_empty : goal.returns-then-is_empty
returns-then-is_empty c =
    let k = c.in_ok-book.ensures in
    let z : length c.in_ok-book.book.bytes.now ≡ 0 = search rules in
    let h = converting-bytes _ _ _ k.refusal refl (rw k.book.1 at z) in
    record { value = h.0; out_after = h.1 }

pub returns-then-out-size : goal.returns-then-out-size
returns-then-out-size c =
    let k = c.in_ok-book.ensures in
    let b = c.in_ok-book.book in
    let h = converting-short _ _ _ k.refusal refl (rw k.book.1 at b.counted) (rw (k.book.0, k.book.1) at c.converted_size-size.ensures) c.if-out-size.true in
    record { value = h.0; out_after = h.1 }

pub write_converted-requires : goal.write_converted-requires
write_converted-requires c =
    let b = c.in_ok-book.book in
    let l = length-converted _ _ (accepted _ _ b.accepted) in
    let m = rw b.counted at c.converted_size-size.ensures in
    omega (arith, l, m, c.if-out-size.false)

pub returns : goal.returns
returns c =
    let k = c.in_ok-book.ensures in
    let b = c.in_ok-book.book in
    let h =
    converting-written _ _ _ k.refusal refl (rw k.book.1 at b.counted) (rw (k.book.0, k.book.1) at c.converted_size-size.ensures) c.if-out-size.false
    (rw (k.book.0, k.book.1) at c.write_converted.ensures) in
    record { value = h.0; out_after = h.1 }
