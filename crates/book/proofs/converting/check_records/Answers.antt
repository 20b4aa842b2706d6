-- What `search` leaves open of the proof of `converting::check_records`.
use mathlib.Core.Path.{refl, sym, ◌∙◌}
use Rattle.coxeter.proofs.Groups.{handed_on, number_positive}
use Rattle.book.proofs.converting.ConversionChecks.{checks_stop, checks_next, checks_end}
use Rattle.book.proofs.converting.check_records.Goals as goal

pub returns-in_err-check_conversion : goal.returns-in_err-check_conversion
returns-in_err-check_conversion c =
    let r = c.record.ensures in
    let e = rw (r.0, r.1, r.2) at c.in_err-check_conversion.ensures in
    handed_on _ _ c.from_residual.ensures (sym (c.loop-i.invariant ∙ checks_stop _ _ _ _ _ c.loop-i-test.true e (number_positive _)))

pub loop-i-preserved : goal.loop-i-preserved
loop-i-preserved c =
    let r = c.record.ensures in
    let e = rw (r.0, r.1, r.2) at c.in_ok-check_conversion.ensures in
    c.loop-i.invariant ∙ checks_next _ _ _ _ _ c.loop-i-test.true e refl

pub returns : goal.returns
returns c = sym (c.loop-i.invariant ∙ checks_end _ _ _ _ c.loop-i-test.false)
