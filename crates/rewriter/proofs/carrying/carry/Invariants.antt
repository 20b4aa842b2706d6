-- `carrying::carry` moves letters on by one place, from the last to the first, and stores a letter before them.
-- Assumes nothing.
use mathlib.Core.Path.{◌≡◌}
use mathlib.Core.List.{List}
use Prim.Native.Nat.{ℕ, ◌≤◌}
use lib.ListN.{length, get_or}
use Rattle.rewriter.proofs.carrying.Shifting.{put}
use Rattle.rewriter.proofs.carrying.carry.Given as goal

-- the letters from place t to q have moved on by one place
pub record Moved (word₀ : List ℕ) (place q : ℕ) (word : List ℕ) (t : ℕ) : Type 0 where
  pub from_place : place ≤ t
  pub place_le : t ≤ q
  pub same_size : length word ≡ length word₀
  pub moved : word ≡ put word₀ t q (get_or word₀ t 0)

abbrev pub invariant-loop-t : goal.invariant-loop-t
invariant-loop-t l = Moved l.initial.word l.place l.q l.word l.t
