-- `normal::write_turned` stores one run and then the other, by what `write_up` and `write_down` ensure.
-- Assumes nothing.
use mathlib.Core.Path.{◌≡◌}
use mathlib.Core.List.{◌++◌}
use Prim.Native.Nat.{◌-◌, ◌*◌}
use Rattle.coxeter.specs.NormalForm.{rise, fall, block}
use Rattle.coxeter.proofs.Lists.{stored_append}
use Rattle.window.proofs.normal.write_turned.Goals as goal

pub returns : goal.returns
returns c =
    -- the block's two runs
    let runs : let a = c.args in
    let turn = c.turn_of-turn.result in
    block a.shape.kind a.shape.entries a.i a.j ≡ rise a.i turn.top ++ fall turn.high (2 * a.shape.entries - a.j) =
    c.turn_of-turn.ensures.2 _ _ c.requires.turns.1 in
    let up = c.write_up-next in
    rw (runs)
    (stored_append _ _ (rise _ _) (fall _ _) up.ensures c.write_down.ensures)
