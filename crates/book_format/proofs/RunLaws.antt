-- What reading a run of presets in numbers answers and writes, case by case, in the form in which the code meets it.
--
-- Sections: lengths; reading a run.
-- Assumes nothing.
use mathlib.Core.Path.{◌≡◌, refl, ◌∙◌}
use mathlib.Core.List.{List}
use Prim.Native.Nat.{ℕ, zero, suc, ◌-◌, ◌*◌, ◌/◌, ◌≤◌, ◌<◌, min}
use native.Mathlib.Nat.{min-le_right}
use native.Mathlib.Omega.{arith}
use lib.ListN.{length, length-append}
use lib.Seq.{sets}
use borrow.Author.Tests.{eq-eqb, ne_eqb, lt-ltb, le-ltb, lt-leb, le-leb}
use Rattle.coxeter.specs.answers.Answer as answer
use Rattle.coxeter.specs.Checks.{too_short}
use Rattle.coxeter.specs.Calls.{answer_of, front, written}
use Rattle.coxeter.proofs.FrontLaws.{sets-front}
use Rattle.book_format.specs.declared.Edition.{Edition}
use Rattle.book_format.specs.answers.Preset.{Preset}
use Rattle.book_format.specs.answers.Preset as preset
use Rattle.book_format.specs.Books.{count, no_such_preset, book_refusal}
use Rattle.book_format.specs.Calls.{checked_preset, fields_of, preset_fields, run_length, reading_presets}

-- ---- lengths

pub length-fields_of : (p : Preset) → length (fields_of p) ≡ 5
unfolding fields_of
length-fields_of (preset.Found k n s l) = refl
length-fields_of (preset.Refused r) = refl

pub length-preset_fields : (ed : Edition) (b : List ℕ) (t i : ℕ) → length (preset_fields ed b t i) ≡ 5 * t
unfolding preset_fields
length-preset_fields ed b zero i = refl
length-preset_fields ed b (suc t) i =
    let h = length-fields_of (checked_preset ed b i) in
    let g = length-preset_fields ed b t (suc i) in
    rw length-append (omega arith)

-- ---- reading a run

-- what reading a run from preset i on answers, and the list afterwards: r is the refusal of the book, c the count
module _ (ed : Edition) (b : List ℕ) (i : ℕ) (out : List ℕ) {r : ℕ} (e : r ≡ book_refusal ed b) where
  pub reading_book : (r ≡ 0 → ⊥) → (answer.Refused r ≡ (reading_presets ed b i out).answer) × (out ≡ (reading_presets ed b i out).bytes)
  unfolding reading_presets answer_of written
  reading_book f = rw (← e, ne_eqb r 0 f) (rw (ne_eqb r 0 f) (refl, refl))

  module _ (z : r ≡ 0) {c : ℕ} (q : c ≡ count b) where
    pub reading_number : c ≤ i → (answer.Refused 4 ≡ (reading_presets ed b i out).answer) × (out ≡ (reading_presets ed b i out).bytes)
    unfolding reading_presets no_such_preset answer_of written
    reading_number h = rw (← e, eq-eqb r 0 z, ← q, le-leb c i h) (refl, refl)

    pub reading_short : i < c → length out < 5 → (answer.Refused 14 ≡ (reading_presets ed b i out).answer) × (out ≡ (reading_presets ed b i out).bytes)
    unfolding reading_presets no_such_preset too_short answer_of written
    reading_short h g = rw (← e, eq-eqb r 0 z, ← q, lt-leb c i h, lt-ltb (length out) 5 g) (refl, refl)

    pub reading_run : {t : ℕ} {o : List ℕ} → i < c → 5 ≤ length out → t ≡ min (c - i) (length out / 5) → o ≡ sets out 0 (preset_fields ed b t i)
        → (answer.Length t ≡ (reading_presets ed b i out).answer) × (o ≡ (reading_presets ed b i out).bytes)
    unfolding reading_presets no_such_preset too_short run_length answer_of written
    reading_run {t} {o} h g y p =
        let numbers = preset_fields ed b t i in
        let l = length-preset_fields ed b t i in
        let m = min-le_right (c - i) (length out / 5) in
        let w : o ≡ front numbers out = p ∙ sets-front numbers out (omega arith) in
        rw (← e, eq-eqb r 0 z, ← q, lt-leb c i h, le-ltb (length out) 5 g, ← y) (refl, w)
