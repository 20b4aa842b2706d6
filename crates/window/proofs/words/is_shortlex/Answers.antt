-- What `search` leaves open of the proof of `words::is_shortlex`.
use mathlib.Core.Path.{sym, ◌∙◌}
use Rattle.coxeter.proofs.Order.{shortlex_of_ne, shortlex_of_eq}
use Rattle.window.proofs.words.Orders.{is_lt-before}
use Rattle.window.proofs.words.is_shortlex.Goals as goal

pub returns-then-u-v : goal.returns-then-u-v
returns-then-u-v c = sym (shortlex_of_ne _ _ c.if-u-v.true)

pub returns : goal.returns
returns c =
    let a = c.args in
    let same = c.if-u-v.false in
    rw (c.is_lt.ensures, c.cmp.ensures) (is_lt-before a.u.now a.v.now same ∙ sym (shortlex_of_eq _ _ same))
