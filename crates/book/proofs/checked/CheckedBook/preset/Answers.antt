-- `CheckedBook::preset` makes check 4, and then those of the record.
-- Assumes nothing.
use mathlib.Core.Path.{refl, sym, ◌∙◌}
use native.Mathlib.Omega.{arith}
use Rattle.book_format.proofs.PresetLaws.{checked_preset-number, checked_preset_record}
use Rattle.book.proofs.checked.CheckedBook.preset.Goals as goal

pub returns-then-self-number : goal.returns-then-self-number
returns-then-self-number c =
    let b = c.args.self.now in
    sym (checked_preset-number _ _ _ _ (sym b.accepted) _ refl b.counted c.if-self-number.true)

pub returns : goal.returns
returns c =
    let b = c.args.self.now in
    let r = c.record.ensures in
    c.check.ensures ∙ rw (r.0, r.1) (sym (checked_preset_record _ _ _ _ b.accepted (omega (arith, b.counted, c.if-self-number.false)) r.2))
