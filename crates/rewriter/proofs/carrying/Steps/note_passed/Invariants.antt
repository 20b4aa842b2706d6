-- `Steps::note_passed` notes step after step, as far as the lists go.
-- Assumes nothing.
use mathlib.Core.Path.{◌≡◌}
use mathlib.Core.List.{List}
use Prim.Native.Nat.{ℕ, suc, ◌-◌, ◌≤◌}
use Rattle.traces.proofs.Tracing.{stores}
use Rattle.rewriter.proofs.carrying.Steps.note_passed.Given as goal

-- the first i of the steps are noted
pub record StepsNoted (families₀ places₀ lengths₀ : List ℕ) (s q left end : ℕ) (families places lengths : List ℕ) (i : ℕ) : Type 0 where
  pub count_le : i ≤ end
  pub families_are : families ≡ stores (λ j. 2) families₀ s i
  pub places_are : places ≡ stores (λ j. q - suc j) places₀ s i
  pub lengths_are : lengths ≡ stores (λ j. left) lengths₀ s i

abbrev pub invariant-loop-i : goal.invariant-loop-i
invariant-loop-i l =
    StepsNoted l.initial.self.families.now l.initial.self.places.now l.initial.self.lengths.now l.s l.q l.left l.end l.self.families.now l.self.places.now l.self.lengths.now l.i
    × (l.self.families.ghost_name ≡ l.initial.self.families.ghost_name) × (l.self.places.ghost_name ≡ l.initial.self.places.ghost_name)
    × (l.self.lengths.ghost_name ≡ l.initial.self.lengths.ghost_name)
