-- `carrying::shift` moves letters on by one place, from the last to the first, as long as they commute with the letter
-- that moves, and stores that letter before them.
-- Assumes nothing.
use mathlib.Core.Path.{◌≡◌}
use mathlib.Core.List.{List}
use Prim.Native.Nat.{ℕ, ◌≤◌}
use lib.ListN.{length, get_or}
use Rattle.coxeter.specs.NormalForm.{levels}
use Rattle.rewriter.proofs.carrying.Shifting.{put, CommutesFrom}
use Rattle.rewriter.proofs.carrying.shift.Given as goal

-- the letters from place t to q have moved on by one place, and commute with x
pub record Shifted (rank levels : ℕ) (word₀ : List ℕ) (q x : ℕ) (word : List ℕ) (t : ℕ) : Type 0 where
  pub place_le : t ≤ q
  pub same_size : length word ≡ length word₀
  pub moved : word ≡ put word₀ t q (get_or word₀ t 0)
  pub commute : CommutesFrom rank levels word₀ q x t

abbrev pub invariant-loop-t : goal.invariant-loop-t
invariant-loop-t l = Shifted l.group.rank (levels l.group.kind l.group.rank) l.initial.word l.q l.x l.word l.t
