-- The books of the examples; a book that is one in either edition (B9); and the limit of 65,535 bytes at its edge, as
-- laws for every book: what is too large is refused before the room is looked at.
--
-- Sections: books; either edition; the size limit.
-- Assumes nothing.
use mathlib.Core.Path.{◌≡◌, refl}
use mathlib.Core.Bool.{false}
use mathlib.Core.List.{List, [], ◌∷◌, ◌++◌}
use Prim.Native.Nat.{ℕ, ◌+◌, ◌≤◌, ◌<◌}
use native.Mathlib.Omega.{arith}
use lib.ListN.{length, replicate}
use lib.IntN.{pos}
use borrow.Author.Tests.{lt-ltb}
use Rattle.coxeter.specs.declared.Kind.TheVariants.{B}
use Rattle.coxeter.specs.Kinds.{kind_of, up}
use Rattle.coxeter.specs.Windows.{from, swap, negate_first, act, window_from, identity, window}
use Rattle.coxeter.specs.Checks.{wrong_kind, too_long, wrong_letter, word_refusal, too_short, WordOf}
use Rattle.coxeter.specs.Calls.{answer_of, written, writes}
use Rattle.coxeter.proofs.Vectors.{refused}
use Rattle.book_format.specs.declared.Edition.{Edition}
use Rattle.book_format.specs.declared.Edition.TheVariants.{First, Second}
use Rattle.book_format.specs.answers.Opened as opened
use Rattle.book_format.specs.answers.Preset as preset
use Rattle.book_format.specs.Books.{two_at, count, trailer, offset, wrong_size, wrong_count, misplaced_from, misplaced, no_such_preset}
use Rattle.book_format.specs.Books.{wrong_rank_in_book, wrong_lane_count, book_rank_refusal, book_refusal, record_refusal, preset_refusal, appended, retired}
use Rattle.book_format.specs.Conversion.{records_conversion_refusal, converting}
use Rattle.book_format.proofs.BookLaws.{accepted}
use Rattle.book_format.proofs.Converting.{conversion_too_large, length-converted}
use Rattle.book_format.proofs.WritingLaws.{length-appended, Appendable, append_refusal_large, append_refusal_none}
use Rattle.book_format.specs.Calls.{opened_of, checked_book, preset_of, preset_at, checked_preset, letters_of, appending}

-- ---- books

-- J13: B₂ with 1 2 1 2, D₅ with 5 2 3 5 1 2
abbrev pub book : List ℕ
book = 2 ∷ 2 ∷ 4 ∷ 0 ∷ 1 ∷ 2 ∷ 1 ∷ 2 ∷ 3 ∷ 5 ∷ 6 ∷ 0 ∷ 5 ∷ 2 ∷ 3 ∷ 5 ∷ 1 ∷ 2 ∷ 0 ∷ 0 ∷ 8 ∷ 0 ∷ 2 ∷ 0 ∷ []

-- its presets in the second edition
abbrev pub second_book : List ℕ
second_book =
    2 ∷ 2 ∷ 2 ∷ 4 ∷ 0 ∷ 1 ∷ 2 ∷ 1 ∷ 2 ∷ 3 ∷ 5 ∷ 5 ∷ 6 ∷ 0 ∷ 5 ∷ 2 ∷ 3 ∷ 5 ∷ 1 ∷ 2 ∷ 0 ∷ 0 ∷ 9 ∷ 0 ∷ 2 ∷ 0 ∷ []

-- no presets
abbrev pub empty_book : List ℕ
empty_book = 0 ∷ 0 ∷ []

-- one record with the trailer behind it
abbrev pub book_of : List ℕ → List ℕ
book_of r = r ++ (0 ∷ 0 ∷ 1 ∷ 0 ∷ [])

-- ---- either edition

-- B9: a book whose bytes do not tell its edition, and which shows another window in each: its preset has 258 letters in
-- the first and 257 in the second
pub either_edition : let b : List ℕ = 2 ∷ 2 ∷ 2 ∷ 1 ∷ 1 ∷ (replicate 257 1 ++ (0 ∷ 0 ∷ 1 ∷ 0 ∷ [])) in
    (checked_preset First b 0 ≡ preset.Found 2 2 4 258) × (window B 2 (letters_of First b 0) ≡ pos 1 ∷ pos 2 ∷ [])
    × (checked_preset Second b 0 ≡ preset.Found 2 2 5 257) × (window B 2 (letters_of Second b 0) ≡ pos 2 ∷ pos 1 ∷ [])
unfolding kind_of up from swap negate_first act window_from identity window wrong_kind too_long wrong_letter word_refusal
    two_at count trailer offset wrong_size wrong_count misplaced_from misplaced no_such_preset
    wrong_rank_in_book wrong_lane_count book_rank_refusal book_refusal record_refusal preset_refusal preset_of preset_at checked_preset letters_of
either_edition = (refl, refl, refl, refl)

-- ---- the size limit

-- 65,535 bytes are not too many, 65,536 are
pub largest_book : (b : List ℕ) → length b ≡ 65535 → wrong_size b ≡ false
unfolding wrong_size
largest_book b e = rw e

pub too_large_book : (ed : Edition) (b : List ℕ) → length b ≡ 65536 → checked_book ed b ≡ opened.Refused 1
unfolding wrong_size book_refusal opened_of checked_book
too_large_book ed b e = rw e

-- the size limit, for every accepted book and preset: a new book of 65,536 bytes or more is refused before the room
-- is looked at, a smaller one only where there is no room
module _ (ed : Edition) (b : List ℕ) (k n : ℕ) (u out : List ℕ) (e : book_refusal ed b ≡ 0) (f : book_rank_refusal ed k n ≡ 0) (g : WordOf n u)
    (o : retired k n ≡ false) where
  passes : Appendable ed b k n u
  passes = record { opens = e; ranked = f; word = g; kept = o }

  pub appending_too_large : 65535 < length (appended ed b k n u) → appending ed b k n u out ≡ refused 13 out
  unfolding appending writes answer_of written
  appending_too_large h =
      rw (append_refusal_large passes (rw (length-appended ed b k n u (accepted ed b e)) at h))

  pub appending-without_room : length (appended ed b k n u) ≤ 65535 → length out < length (appended ed b k n u) → appending ed b k n u out ≡ refused 14 out
  unfolding appending writes answer_of written too_short
  appending-without_room h l =
      rw (
        append_refusal_none passes (rw (length-appended ed b k n u (accepted ed b e)) at h),
        lt-ltb (length out) (length (appended ed b k n u)) l,
      )

-- the size limit is the new book's: a book of the first edition with c presets grows by c bytes
pub converting_too_large : (b out : List ℕ) → book_refusal First b ≡ 0 → records_conversion_refusal First b (count b) 0 ≡ 0 → 65535 < length b + count b
    → converting First b out ≡ refused 13 out
unfolding converting writes answer_of written
converting_too_large b out e f h =
    let l = length-converted First b (accepted First b e) in
    rw (conversion_too_large First b e f (omega arith))
