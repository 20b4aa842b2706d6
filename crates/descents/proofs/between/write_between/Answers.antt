-- `between::write_between` has the normal form of the window between the two written where there is room for it, and
-- then makes check 19, check 14 and the copy.
-- Assumes nothing.
use native.Mathlib.Omega.{arith}
use Rattle.descents.proofs.between.Leading.{form_never, form_room, form_word, answered}
use Rattle.descents.proofs.between.write_between.Goals as goal

pub returns-in_err-l : goal.returns-in_err-l
returns-in_err-l g c =
    let p = c.args.pair in
    absurd (form_never _ _ _ _ p.group.in_range p.first_accepted p.second_accepted _ c.requires.rank_in_bounds _ c.in_err-l.ensures)

pub shared_whole_as_front-write_allowed : goal.shared_whole_as_front-write_allowed
shared_whole_as_front-write_allowed g c =
    let p = c.args.pair in (
      form_room _ _ _ _ p.group.in_range p.first_accepted p.second_accepted _ c.requires.rank_in_bounds _ c.in_ok-l.ensures,
      omega arith,
    )

pub write_allowed-requires : goal.write_allowed-requires
write_allowed-requires g c =
    let p = c.args.pair in
    form_word _ _ _ _ p.group.in_range p.first_accepted p.second_accepted _ c.requires.rank_in_bounds _ c.in_ok-l.ensures

pub returns : goal.returns
returns g c =
    let p = c.args.pair in
    answered _ _ _ _ p.group.in_range p.first_accepted p.second_accepted _ c.requires.rank_in_bounds _ c.in_ok-l.ensures
    _ _ _ _ c.write_allowed.ensures
