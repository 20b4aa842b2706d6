-- `forms::write_form` makes check 14 and writes the normal form.
-- Assumes nothing.
use Rattle.window.proofs.forms.Rooms.{checked_short, checked_room, checked_written}
use Rattle.window.proofs.forms.write_form.Goals as goal

pub returns-then-lacks_room : goal.returns-then-lacks_room
returns-then-lacks_room c = checked_short _ _ _ _ c.args.w.accepted c.lacks_room.ensures c.if-lacks_room.true

pub write_normal_form-requires : goal.write_normal_form-requires
write_normal_form-requires c = checked_room _ _ _ c.args.out.now c.args.w.accepted c.lacks_room.ensures c.if-lacks_room.false

pub returns : goal.returns
returns c =
    checked_written _ _ _ _ c.args.w.accepted c.lacks_room.ensures c.if-lacks_room.false
    c.write_normal_form.ensures.0 c.write_normal_form.ensures.1
