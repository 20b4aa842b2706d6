-- `records::book_group` makes the checks of the calls, and then in the first edition the test of its own upper end.
-- Assumes nothing.
use mathlib.Core.Path.{refl, sym, ap, ◌∙◌}
use native.Mathlib.Omega.{arith}
use Rattle.coxeter.proofs.Groups.{handed_on, number_positive}
use Rattle.book_format.proofs.RankLaws.{book_rank_refusal-refused, book_rank_refusal-above, book_rank_refusal_none, book_rank_refusal_second}
use Rattle.book_format.specs.declared.Edition.TheVariants.{First}
use Rattle.book_format.specs.Books.{greatest_in_book}
use Rattle.book.proofs.records.KindNumbers.{number_of_group}
use Rattle.book.proofs.records.book_group.Goals as goal

pub returns-in_err-group-clause-refusal : goal.returns-in_err-group-clause-refusal
returns-in_err-group-clause-refusal c =
    handed_on _ _ c.from_residual.ensures (sym (book_rank_refusal-refused _ _ _ _ c.in_err-group.ensures.refusal (number_positive _)))

pub returns-then-greatest_in_first-rank-clause-refusal : goal.returns-then-greatest_in_first-rank-clause-refusal
returns-then-greatest_in_first-rank-clause-refusal c =
    let h = c.in_ok-group.ensures in
    let e = c.greatest_in_first.ensures ∙ ap (greatest_in_book First) h.group.0 in
    rw c.in-First.is (sym (book_rank_refusal-above _ _ _ _ h.refusal refl (omega (arith, e, c.if-greatest_in_first-rank.true))))

pub returns-else-greatest_in_first-rank-clause-refusal : goal.returns-else-greatest_in_first-rank-clause-refusal
returns-else-greatest_in_first-rank-clause-refusal c =
    let h = c.in_ok-group.ensures in
    let e = c.greatest_in_first.ensures ∙ ap (greatest_in_book First) h.group.0 in
    rw c.in-First.is (sym (book_rank_refusal_none _ _ _ _ h.refusal refl (omega (arith, e, c.if-greatest_in_first-rank.false))))

pub returns-else-greatest_in_first-rank-clause-group : goal.returns-else-greatest_in_first-rank-clause-group
returns-else-greatest_in_first-rank-clause-group c = let h = c.in_ok-group.ensures in (number_of_group _ _ h.refusal h.group.0, h.group.1)

pub returns-in-Second-clause-refusal : goal.returns-in-Second-clause-refusal
returns-in-Second-clause-refusal c = rw c.in-Second.is (sym (book_rank_refusal_second _ _ _ c.in_ok-group.ensures.refusal refl))

pub returns-in-Second-clause-group : goal.returns-in-Second-clause-group
returns-in-Second-clause-group c = let h = c.in_ok-group.ensures in (number_of_group _ _ h.refusal h.group.0, h.group.1)
