-- `CheckedBook::record` reads the offset of the record: in an accepted book the record lies inside the book.
-- Assumes nothing.
use mathlib.Core.Path.{◌≡◌, refl, ap, ◌∙◌}
use mathlib.Core.List.{List}
use Prim.Native.Nat.{ℕ, ◌+◌, ◌*◌}
use native.Mathlib.Omega.{arith}
use Rattle.book_format.specs.Books.{two_at, trailer, offset}
use Rattle.book_format.proofs.BookLaws.{accepted, end_at_read_le}
use Rattle.book.proofs.checked.CheckedBook.record.Goals as goal

offset_from : (b : List ℕ) (t i : ℕ) {o : ℕ} → t ≡ trailer b → o ≡ two_at b (t + 2 * i) → o ≡ offset b i
unfolding offset
offset_from b t i e q = q ∙ ap (λ x. two_at b (x + 2 * i)) e

pub invariant_of-result : goal.invariant_of-result
invariant_of-result c =
    let b = c.args.self.now in
    let o = offset_from _ _ _ b.cut c.two_at-start.ensures.0 in
    record { within = end_at_read_le _ _ _ _ (accepted _ _ b.accepted) (omega (arith, b.counted, c.requires)) o; short = b.short }

pub returns : goal.returns
returns c = (refl, refl, offset_from _ _ _ c.args.self.now.cut c.two_at-start.ensures.0)
