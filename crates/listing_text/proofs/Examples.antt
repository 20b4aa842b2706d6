-- The listing of a book of no bytes, the listing of J13, some more listings, lines that are no book, and pieces of
-- a listing, from the definitions alone: by computing them.
-- Assumes nothing.
use mathlib.Core.Path.{◌≡◌, refl}
use mathlib.Core.List.{List, [], ◌∷◌, ◌++◌, map}
use Prim.Native.Nat.{ℕ}
use Prim.Native.Char.{code}
use Prim.Native.String.{String, len, char_at}
use Prim.Native.String as string
use Rattle.coxeter.specs.Kinds.{kind_of, up}
use Rattle.coxeter.specs.Windows.{from, swap, negate_first, swap_negate, act, window_from, identity, window, place_from, signed}
use Rattle.coxeter.specs.Checks.{wrong_kind, too_long, wrong_letter, word_refusal}
use Rattle.coxeter.specs.NormalForm.{down, rise, fall, block, without, index_of, rest_of, normal_from, normal_form}
use Rattle.coxeter.specs.Calls.{front}
use Rattle.coxeter.proofs.Vectors.{Agree, lent}
use Rattle.book_format.specs.declared.Edition.{Edition}
use Rattle.book_format.specs.declared.Edition.TheVariants.{First, Second}
use Rattle.book_format.specs.Books.{two_at, count, trailer, offset, wrong_size, wrong_count, misplaced_from, misplaced}
use Rattle.book_format.specs.Books.{no_such_preset, wrong_rank_in_book, wrong_lane_count, book_rank_refusal, book_refusal, record_refusal, preset_refusal}
use Rattle.book_format.specs.Calls.{opened_of, preset_of, checked_book, preset_at, checked_preset}
use Rattle.book_format.proofs.Vectors.{book, second_book, empty_book, book_of}
use Rattle.listing_text.specs.Text.{digits, decimal, spaced, letters, entry, entries, kind_letter, head, tail, preset_line}
use Rattle.listing_text.specs.Text.{refused, refused_line, refused_book_line, count_line, word_line, line_by, line_of, lines_from, listing_by, listing}
use Rattle.listing_text.specs.Calls.{line_count_by, line_count, first_line, line, lines, fitting, Piecing, next_piece}

-- P9
pub listing_of_no_bytes : (ed : Edition) → listing ed [] ≡ count_line 0
unfolding two_at count trailer wrong_size wrong_count misplaced_from misplaced book_refusal opened_of checked_book digits decimal count_line lines_from listing_by listing
listing_of_no_bytes ed = refl

-- the ASCII codes of a text
pub codes : String → List ℕ
codes string.[] = []
codes (string.◌∷◌ c t) = code c ∷ codes t

pub listings : List (List ℕ × List ℕ)
listings =
    -- J13
    (listing First book, codes "presets 2\n0 B 2 4: 2 1 2 1 | -1 -2\n1 D 5 6: 5 2 3 5 1 2 | 3 -5 1 4 -2\n")
    -- P6
    ∷ (listing First (book_of (1 ∷ 2 ∷ 0 ∷ 0 ∷ [])), codes "presets 1\n0 A 2 0: | 1 2 3\n")
    -- P7; P8
    ∷ (listing First (book_of (1 ∷ 2 ∷ 1 ∷ 0 ∷ 3 ∷ [])), codes "presets 1\n0 refused 8\n")
    ∷ (listing First (0 ∷ []), codes "book refused 1\n")
    ∷ (listing First (7 ∷ 0 ∷ 0 ∷ []), codes "book refused 3\n")
    -- no presets: a count of 0, and no bytes
    ∷ (listing First empty_book, codes "presets 0\n")
    ∷ (listing First [], codes "presets 0\n")
    ∷ (listing Second [], codes "presets 0\n")
    -- B23: presets of kind A and rank 1
    ∷ (listing First (book_of (1 ∷ 1 ∷ 0 ∷ 0 ∷ [])), codes "presets 1\n0 A 1 0: | 1 2\n")
    ∷ (listing Second (book_of (1 ∷ 1 ∷ 2 ∷ 0 ∷ 0 ∷ [])), codes "presets 1\n0 A 1 0: | 1 2\n")
    -- P2: the same lines from the second edition
    ∷ (listing Second second_book, codes "presets 2\n0 B 2 4: 2 1 2 1 | -1 -2\n1 D 5 6: 5 2 3 5 1 2 | 3 -5 1 4 -2\n")
    ∷ (listing Second (book_of (1 ∷ 2 ∷ 2 ∷ 0 ∷ 0 ∷ [])), codes "presets 1\n0 refused 17\n")
    ∷ []

pub listings_agree : Agree listings
unfolding listings codes
    kind_of up from swap negate_first swap_negate act window_from identity window place_from signed
    wrong_kind too_long wrong_letter word_refusal down rise fall block without index_of rest_of normal_from normal_form
    two_at count trailer offset wrong_size wrong_count misplaced_from misplaced no_such_preset
    wrong_rank_in_book wrong_lane_count book_rank_refusal book_refusal record_refusal preset_refusal
    opened_of preset_of checked_book preset_at checked_preset
    digits decimal spaced letters entry entries kind_letter head tail preset_line refused refused_line refused_book_line count_line
    word_line line_by line_of lines_from listing_by listing
listings_agree = refl

-- J13: the listing of this book is these three lines, character by character
pub worked_listing : let text : String → List ℕ = λ t. map (λ i. code (char_at t i)) (up 0 (len t)) in
    listing First (2 ∷ 2 ∷ 4 ∷ 0 ∷ 1 ∷ 2 ∷ 1 ∷ 2 ∷ 3 ∷ 5 ∷ 6 ∷ 0 ∷ 5 ∷ 2 ∷ 3 ∷ 5 ∷ 1 ∷ 2 ∷ 0 ∷ 0 ∷ 8 ∷ 0 ∷ 2 ∷ 0 ∷ [])
    ≡ text "presets 2\n" ++ (text "0 B 2 4: 2 1 2 1 | -1 -2\n" ++ text "1 D 5 6: 5 2 3 5 1 2 | 3 -5 1 4 -2\n")
unfolding kind_of up from swap negate_first swap_negate act window_from identity window place_from signed
    wrong_kind too_long wrong_letter word_refusal down rise fall block without index_of rest_of normal_from normal_form
    two_at count trailer offset wrong_size wrong_count misplaced_from misplaced no_such_preset
    wrong_rank_in_book wrong_lane_count book_rank_refusal book_refusal record_refusal preset_refusal
    opened_of preset_of checked_book preset_at checked_preset
    digits decimal spaced letters entry entries kind_letter head tail preset_line refused refused_line refused_book_line count_line
    word_line line_by line_of lines_from listing_by listing
worked_listing = refl

-- what a converting program prints in place of a book: that the input was not read, or the number of a refusal.
-- Check 2 refuses each in both editions
pub no_books : Edition → List (ℕ × ℕ)
no_books ed = (book_refusal ed (codes "book not read\n"), 2) ∷ map (λ r. (book_refusal ed (refused_book_line r), 2)) (rise 0 255)

pub no_books_agree : (ed : Edition) → Agree (no_books ed)
unfolding no_books codes up rise two_at count trailer wrong_size wrong_count book_refusal digits decimal refused refused_book_line
no_books_agree ed = refl

-- pieces of J13's listing, whose lines have 10, 25 and 35 bytes: a buffer that two lines fill, one byte less, one
-- byte less than the last line, and no line left
pub piecing : List (Piecing × Piecing)
piecing =
    (next_piece First book 0 (lent 35), record { answer = record { next = 2; end = 35; left = 1 }; bytes = codes "presets 2\n0 B 2 4: 2 1 2 1 | -1 -2\n" })
    ∷ (next_piece First book 0 (lent 34), record { answer = record { next = 1; end = 10; left = 2 }; bytes = codes "presets 2\n" ++ lent 24 })
    ∷ (next_piece First book 2 (lent 34), record { answer = record { next = 2; end = 0; left = 1 }; bytes = lent 34 })
    ∷ (next_piece First book 3 (lent 1), record { answer = record { next = 3; end = 0; left = 0 }; bytes = lent 1 })
    ∷ []

pub piecing_agrees : Agree piecing
unfolding piecing codes
    kind_of up from swap negate_first swap_negate act window_from identity window place_from signed
    wrong_kind too_long wrong_letter word_refusal down rise fall block without index_of rest_of normal_from normal_form
    two_at count trailer offset wrong_size wrong_count misplaced_from misplaced no_such_preset
    wrong_rank_in_book wrong_lane_count book_rank_refusal book_refusal record_refusal preset_refusal
    opened_of preset_of checked_book preset_at checked_preset
    digits decimal spaced letters entry entries kind_letter head tail preset_line refused refused_line refused_book_line count_line
    word_line line_by line_of line_count_by line_count first_line line lines fitting front next_piece
piecing_agrees = refl
