-- A run of presets in hand, as the lines of a listing use it.
-- Assumes nothing.
use mathlib.Core.Path.{◌≡◌, sym, ◌∙◌}
use mathlib.Core.List.{List, map}
use Prim.Native.Nat.{ℕ, ◌+◌, ◌-◌, ◌≤◌, ◌<◌}
use native.Mathlib.Omega.{arith}
use lib.ListN.{get_or, get_or-map}
use Rattle.coxeter.specs.Kinds.{up}
use Rattle.book_format.specs.declared.Edition.{Edition}
use Rattle.std.specs.Prelude.{Result}
use Rattle.coxeter.specs.declared.Refusal.{Refusal}
use Rattle.book_format.specs.declared.Preset as code
use Rattle.book_format.specs.declared.Run.{Run}
use Rattle.book_format.specs.answers.Preset.{Preset, as_preset}
use Rattle.book_format.specs.Calls.{checked_preset}
use Rattle.book_format.proofs.RunsOfPresets.{presets_at}

abbrev presets_of : Run → List Preset
presets_of run = map as_preset run.presets

-- a run of presets, which begins no later than with that of line i
pub record Held (ed : Edition) (b : List ℕ) (i : ℕ) (run : Run) : Type 0 where
  pub begins : run.first ≤ i - 1
  pub presets : presets_of run ≡ map (checked_preset ed b) (up run.first 128)

-- x is the number of that preset, as the code computes it
module _ (ed : Edition) (b : List ℕ) (i : ℕ) {x : ℕ} (e : x ≡ i - 1) where
  -- the run is read from there on
  pub held_read : {run r : Run} → run ≡ r → r.first ≡ x → presets_of r ≡ map (checked_preset ed b) (up x 128) → Held ed b i run × (x < run.first + 128)
  held_read q p h = rw q (record { begins = omega arith; presets = rw p h }, omega arith)

  -- or stays as it is
  pub held_kept : {run r : Run} → run ≡ r → Held ed b i r → x < r.first + 128 → Held ed b i run × (x < run.first + 128)
  held_kept q h g = rw q (h, g)

  module _ (run : Run) (h : Held ed b i run) (g : x < run.first + 128) where
    pub held_preset : (d : Result code.Preset Refusal) → as_preset (get_or run.presets (x - run.first) d) ≡ checked_preset ed b (i - 1)
    held_preset d =
        let s = h.begins in
        let at : run.first + (x - run.first) ≡ i - 1 = omega arith in
        sym (get_or-map as_preset run.presets (x - run.first) d)
        ∙ (presets_at ed b run.first (presets_of run) h.presets).1 (x - run.first) (as_preset d) (omega arith) ∙ rw at
