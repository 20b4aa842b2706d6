-- A book of no bytes is a book without presets (B10, B22 and B28 of the specification): what each call on a book
-- answers of it, and when check 1 refuses (C1).
-- Assumes nothing.
use mathlib.Core.Path.{◌≡◌, refl}
use mathlib.Core.Logic.{◌⊎◌, inl, inr, ⊎_elim, ◌↔◌}
use mathlib.Core.Bool.{true}
use mathlib.Core.List.{List, [], ◌∷◌}
use Prim.Native.Nat.{ℕ, ◌<◌}
use native.Mathlib.Decide.{ℕ_discrete}
use native.Mathlib.Omega.{arith}
use lib.ListN.{length}
use borrow.Author.Tests.{eq-eqb, ne_eqb, lt-ltb, le-ltb, le-leb, ltb-true}
use Rattle.coxeter.specs.Checks.{too_short}
use Rattle.coxeter.specs.answers.Answer as answer
use Rattle.coxeter.specs.Calls.{answer_of, front, written, writes}
use Rattle.book_format.specs.declared.Edition.{Edition}
use Rattle.book_format.specs.answers.Opened as opened
use Rattle.book_format.specs.answers.Preset as preset
use Rattle.book_format.specs.Books.{two_at, count, trailer, wrong_size, wrong_count, misplaced_from}
use Rattle.book_format.specs.Books.{misplaced, no_such_preset, book_refusal, preset_refusal, appended, append_refusal}
use Rattle.book_format.specs.Calls.{opened_of, preset_of, checked_book, preset_at, checked_preset, letters_of, letters_start, reading_presets, appending}
use Rattle.book_format.specs.Conversion.{converting}
use Rattle.book_format.proofs.BookLaws.{book_refusal-bytes}
use Rattle.book_format.proofs.Converting.{converted-bytes, conversion_bytes}

module _ (ed : Edition) where
  pub opening_no_bytes : checked_book ed [] ≡ opened.Presets 0
  unfolding checked_book opened_of count two_at
  opening_no_bytes = rw (book_refusal-bytes ed [] refl)

  refused_4 : (i : ℕ) → preset_refusal ed [] i ≡ 4
  unfolding preset_refusal no_such_preset count two_at
  refused_4 i = rw (book_refusal-bytes ed [] refl, le-leb 0 i (omega arith))

  pub preset_of_no_bytes : (i : ℕ) → checked_preset ed [] i ≡ preset.Refused 4
  unfolding checked_preset preset_at preset_of
  preset_of_no_bytes i = rw (refused_4 i)

  pub letters_of_no_bytes : (i : ℕ) → (letters_of ed [] i ≡ []) × (letters_start ed [] i ≡ 0)
  unfolding letters_of letters_start
  letters_of_no_bytes i = rw (refused_4 i) (refl, refl)

  pub run_of_no_bytes : (i : ℕ) (out : List ℕ) → ((reading_presets ed [] i out).answer ≡ answer.Refused 4) × ((reading_presets ed [] i out).bytes ≡ out)
  unfolding reading_presets no_such_preset count two_at answer_of written
  run_of_no_bytes i out = rw (book_refusal-bytes ed [] refl, le-leb 0 i (omega arith)) (refl, refl)

  appended_same : (k n : ℕ) (u : List ℕ) → appended ed [] k n u ≡ appended ed (0 ∷ 0 ∷ []) k n u
  unfolding appended trailer count two_at
  appended_same k n u = refl

  two_zeros : book_refusal ed (0 ∷ 0 ∷ []) ≡ 0
  unfolding book_refusal wrong_size wrong_count misplaced misplaced_from trailer count two_at
  two_zeros = refl

  -- the answer and the bytes that appending to the book of two zero bytes gives
  pub append_to_no_bytes : (k n : ℕ) (u out : List ℕ) → appending ed [] k n u out ≡ appending ed (0 ∷ 0 ∷ []) k n u out
  unfolding appending append_refusal
  append_to_no_bytes k n u out = rw (appended_same k n u, book_refusal-bytes ed [] refl, two_zeros)

  pub converting_no_bytes : (out : List ℕ) → ((converting ed [] out).answer ≡ answer.Length 0) × ((converting ed [] out).bytes ≡ out)
  unfolding converting writes answer_of written front too_short
  converting_no_bytes out = rw (conversion_bytes ed [] refl, converted-bytes ed [] refl, le-ltb (length out) 0 (omega arith)) (refl, refl)

-- check 1 refuses a length of 1 and more than 65,535 bytes, and nothing else
pub refusal_1_exactly : (b : List ℕ) → (wrong_size b ≡ true) ↔ ((length b ≡ 1) ⊎ (65535 < length b))
unfolding wrong_size
refusal_1_exactly b = (
  λ h. elim (ℕ_discrete (length b) 1) [ yes z ↦ inl z | no f ↦ inr (ltb-true 65535 (length b) (rw (ne_eqb (length b) 1 f) at h)) ],
  ⊎_elim (λ z. rw (eq-eqb (length b) 1 z)) (λ h. rw (ne_eqb (length b) 1 (omega arith), lt-ltb 65535 (length b) h)),
)
