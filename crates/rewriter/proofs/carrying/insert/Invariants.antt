-- `carrying::insert` carries the last letter of a word to its place, turn after turn: by letters that commute,
-- then by the rule that ends with it. The measure is the letter's place.
-- Assumes nothing.
use mathlib.Core.Path.{◌≡◌}
use mathlib.Core.List.{List}
use Prim.Native.Nat.{ℕ}
use Rattle.std.specs.Prelude.{Option}
use lib.ListN.{length}
use Rattle.coxeter.specs.declared.Kind.{Kind}
use Rattle.rewriter.proofs.carrying.CarriedSteps.{noted}
use Rattle.rewriter.proofs.carrying.Inserting.{Moved, reach}
use Rattle.rewriter.specs.declared.carrying.Steps.{Steps}
use Rattle.rewriter.proofs.carrying.insert.Given as goal

-- the word keeps its size and the lists are the same ones, and the letter was moved to a place, or for the last time
pub record MovedInPlace (k : Kind) (rank : ℕ) (rest : List ℕ) (steps₀ : Steps) (word₀ : List ℕ) (steps : Steps) (word : List ℕ)
    (size : ℕ) (place : Option ℕ) : Type 0 where
  pub families_same : steps.families.ghost_name ≡ steps₀.families.ghost_name
  pub places_same : steps.places.ghost_name ≡ steps₀.places.ghost_name
  pub lengths_same : steps.lengths.ghost_name ≡ steps₀.lengths.ghost_name
  pub word_size : length word ≡ length word₀
  pub moved : Moved k rank rest (noted steps₀.made steps₀.families.now steps₀.places.now steps₀.lengths.now word₀)
      (noted steps.made steps.families.now steps.places.now steps.lengths.now word) size place

abbrev pub invariant-loop-place : goal.invariant-loop-place
invariant-loop-place l =
    MovedInPlace l.group.kind l.group.rank l.rest l.initial.steps l.initial.word l.steps l.word l.size l.place

abbrev pub decreases-loop-place : goal.decreases-loop-place
decreases-loop-place l = reach l.place
