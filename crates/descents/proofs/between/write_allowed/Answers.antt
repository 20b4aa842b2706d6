-- `between::write_allowed` asks for the letters first, then for room, and writes only then.
-- Assumes nothing.
use mathlib.Core.Bool.{not}
use mathlib.Core.Path.{refl, ap}
use mathlib.Core.List.{List, ◌++◌}
use Prim.Native.Nat.{ℕ}
use lib.ListN.{length, drop}
use Rattle.coxeter.specs.Calls.{front}
use native.Mathlib.Omega.{arith}
use Rattle.coxeter.proofs.Outcomes.{writes-refused, writes_short, writes-written}
use Rattle.descents.proofs.between.Leading.{not_over, all_over}
use Rattle.descents.proofs.between.write_allowed.Goals as goal

pub returns-then-not-are_allowed : goal.returns-then-not-are_allowed
returns-then-not-are_allowed c = writes-refused _ _ 19 _ _ refl (not_over c.are_allowed.ensures (ap not c.if-not-are_allowed.true)) (λ z. omega arith)

pub returns-then-out-l : goal.returns-then-out-l
returns-then-out-l c =
    writes_short _ _ 0 _ _ refl (all_over c.are_allowed.ensures (ap not c.if-not-are_allowed.false)) _ refl refl c.if-out-l.true

pub returns : goal.returns
unfolding front
returns c =
    writes-written _ _ 0 _ _ refl (all_over c.are_allowed.ensures (ap not c.if-not-are_allowed.false)) _ _ refl refl c.if-out-l.false
    (ap (λ (l : List ℕ). l ++ drop (length c.args.word.now) c.args.out.now) c.copy_from_slice.ensures.after)
