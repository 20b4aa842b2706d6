-- `normal::write_block` stores a block that goes up only as one run, and leaves one that turns to `write_turned`.
-- Assumes nothing.
use mathlib.Core.Path.{◌≡◌, sym, ◌∙◌}
use borrow.Author.Rules.{rules}
use Rattle.coxeter.specs.NormalForm.{rise, block}
use Rattle.coxeter.proofs.LetterRuns.{rise-span, block_up}
use Rattle.window.proofs.normal.write_block.Goals as goal

pub write_up-requires : goal.write_up-requires
write_up-requires c =
    let identity : let a = c.args in
    block a.shape.kind a.shape.entries a.i a.j ≡ rise a.i a.j =
    block_up _ _ _ _ c.if-j-shape.true ∙ sym (rise-span _ _) in
    (search rules, rw (identity) at c.requires.j_in_bounds)

pub returns-then-j-shape : goal.returns-then-j-shape
returns-then-j-shape c =
    let identity : let a = c.args in
    block a.shape.kind a.shape.entries a.i a.j ≡ rise a.i a.j =
    block_up _ _ _ _ c.if-j-shape.true ∙ sym (rise-span _ _) in
    rw (identity) c.write_up.ensures
