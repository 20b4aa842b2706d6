-- `forms::lacks_room` compares the room with n × n and, if that is more, with the length.
-- Assumes nothing.
use Rattle.window.proofs.Squares.{square_room}
use Rattle.window.proofs.forms.lacks_room.Goals as goal

pub returns-then-n-room : goal.returns-then-n-room
returns-then-n-room c = square_room _ _ _ _ c.args.w.accepted c.if-n-room.true
