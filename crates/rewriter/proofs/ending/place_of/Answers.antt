-- `ending::place_of` goes back from the letter before the lower of the last two, or finds it where the letters rise.
-- Assumes nothing.
use mathlib.Core.Path.{◌≡◌, refl}
use mathlib.Core.Bool.{Bool, true, not}
use Prim.Native.Nat.{ℕ}
use denote.Enum.Bare.{sameb}
use Rattle.coxeter.specs.contracts.Kind.{the_type}
use Rattle.coxeter.specs.declared.Kind.{Kind}
use Rattle.coxeter.specs.declared.Kind.TheVariants.{A, B, D}
use Rattle.coxeter.specs.NormalForm.{levels}
use native.Mathlib.Omega.{arith}
use Rattle.rewriter.proofs.ending.Ends.{begun_falling}
use Rattle.rewriter.proofs.ending.Rising.{stopped_rising}
use Rattle.rewriter.proofs.ending.place_of.Goals as goal

-- every kind but D has as many levels as steps
levels_whole : (k : Kind) (n : ℕ) {r : Bool} → r ≡ not (sameb the_type k D) → r ≡ true → levels k n ≡ n
levels_whole A n e t = refl
levels_whole B n e t = refl
levels_whole D n e t = cc

pub returns-then-word-p : goal.returns-then-word-p
returns-then-word-p c =
    begun_falling _ _ _ _ c.saturating_sub-floor.ensures refl refl c.if-l-x.false
    (stopped_rising c.args.group.in_range.0 c.requires.0 (levels_whole _ _ c.ne.ensures c.if-ne.true) c.if-l-x.false (omega arith)
    c.if-word-p.true)
