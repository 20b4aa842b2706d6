-- A call on a book that is refused changes no byte, and no number, of its output.
-- Assumes nothing.
use mathlib.Core.Path.{◌≡◌}
use mathlib.Core.List.{List}
use Prim.Native.Nat.{ℕ}
use Rattle.book_format.specs.declared.Edition.{Edition}
use Rattle.coxeter.specs.answers.Answer.{Refused}
use Rattle.coxeter.specs.Checks.{check, ◌then◌, too_short}
use Rattle.coxeter.proofs.Unchanged.{kept_whole, writes-unchanged}
use Rattle.coxeter.proofs.AnswersExactly.{answer_of_exactly}
use Rattle.book_format.specs.Books.{no_such_preset, book_refusal}
use Rattle.book_format.specs.Calls.{preset_fields, run_length, reading_presets, appending}
use Rattle.book_format.specs.Conversion.{converting}

pub appending-unchanged : (ed : Edition) (b : List ℕ) (k n : ℕ) (u out : List ℕ) (r : ℕ)
    → (appending ed b k n u out).answer ≡ Refused r → (appending ed b k n u out).bytes ≡ out
unfolding appending
appending-unchanged ed b k n u out = writes-unchanged _ _ out

pub converting-unchanged : (ed : Edition) (b out : List ℕ) (r : ℕ) → (converting ed b out).answer ≡ Refused r → (converting ed b out).bytes ≡ out
unfolding converting
converting-unchanged ed b out = writes-unchanged _ _ out

pub reading_presets-unchanged : (ed : Edition) (b : List ℕ) (i : ℕ) (out : List ℕ) (r : ℕ)
    → (reading_presets ed b i out).answer ≡ Refused r → (reading_presets ed b i out).bytes ≡ out
unfolding reading_presets
reading_presets-unchanged ed b i out r h =
    let s = book_refusal ed b then check 4 (no_such_preset b i) then check 14 (too_short 5 out) in
    let t = run_length b i out in
    kept_whole s (preset_fields ed b t i) out (((answer_of_exactly s t).0 r).0 h)
