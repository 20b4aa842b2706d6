-- Books between editions (B24 to B28 and I29 of the specification): the book in the other edition, the checks of a
-- conversion, what the call returns and writes for every input, and what holds of a converted book.
use Rattle.std.specs.Prelude.{◌≡◌, Bool, false, List, [], ◌∷◌, ◌++◌, ℕ, zero, suc, ◌<◌, eqb, ltb, length}
use Rattle.coxeter.specs.Kinds.{pick, kind_of}
use Rattle.coxeter.specs.Checks.{check, ◌then◌, wrong_kind, too_long, wrong_letter}
use Rattle.coxeter.specs.Calls.{Outcome, writes}
use Rattle.book_format.specs.declared.Edition.{Edition}
use Rattle.book_format.specs.declared.Edition.TheVariants.{First, Second}
use Rattle.book_format.specs.answers.Preset as preset
use Rattle.book_format.specs.Books.{count, offset, kind_at, rank_at, lanes_at, letters_at}
use Rattle.book_format.specs.Books.{wrong_rank_in_book, wrong_lane_count, too_large, book_refusal, record_refusal}
use Rattle.book_format.specs.Records.{lay_out, records_of}
use Rattle.book_format.specs.Calls.{checked_preset, letters_of}

-- B24: the other edition
abbrev pub other : Edition → Edition
other First = Second
other Second = First

-- B24, B28: the book b of the edition ed in the other one; no bytes give no bytes
unfoldable pub converted : Edition → List ℕ → List ℕ
converted ed b = pick (eqb (length b) 0) [] (lay_out (other ed) (records_of ed b))

-- C18: of the record at byte o
unfoldable pub too_many_lanes : Edition → List ℕ → ℕ → Bool
too_many_lanes First b o = false
too_many_lanes Second b o = ltb 32 (lanes_at Second b o)

-- I29: checks 5, 6, 17, 7, 8 and 18 of a record
unfoldable pub record_conversion_refusal : Edition → List ℕ → ℕ → ℕ
record_conversion_refusal ed b o = record_refusal ed b o then check 18 (too_many_lanes ed b o)

-- B25, CO5: the first refusal of the t records from record i on
unfoldable pub records_conversion_refusal : Edition → List ℕ → ℕ → ℕ → ℕ
records_conversion_refusal ed b zero i = 0
records_conversion_refusal ed b (suc t) i = record_conversion_refusal ed b (offset b i) then records_conversion_refusal ed b t (suc i)

-- I29, CO5: checks 1 to 3 of the book, each record's, then 13 of the new book
unfoldable pub conversion_refusal : Edition → List ℕ → ℕ
conversion_refusal ed b = book_refusal ed b then records_conversion_refusal ed b (count b) 0 then check 13 (too_large (length (converted ed b)))

-- I29: 14 comes last
unfoldable pub converting : Edition → List ℕ → List ℕ → Outcome ℕ
converting ed b out = writes (conversion_refusal ed b) (converted ed b) out

-- CO2, CO5: the tests of record i with their numbers, in order
abbrev pub record_tests : Edition → List ℕ → ℕ → List (ℕ × Bool)
record_tests ed b i =
    let o = offset b i in
    (5, wrong_kind (kind_at b o))
    ∷ (6, wrong_rank_in_book ed (kind_of (kind_at b o)) (rank_at b o))
    ∷ (17, wrong_lane_count ed b o)
    ∷ (7, too_long (letters_at ed b o))
    ∷ (8, wrong_letter (rank_at b o) (letters_at ed b o))
    ∷ (18, too_many_lanes ed b o)
    ∷ []

-- CO5: those of the t records from record i on
unfoldable pub records_tests : Edition → List ℕ → ℕ → ℕ → List (ℕ × Bool)
records_tests ed b zero i = []
records_tests ed b (suc t) i = record_tests ed b i ++ records_tests ed b t (suc i)

-- B24: preset i of two books, each of its edition, is found in both
pub record SamePreset (ed ed' : Edition) (b b' : List ℕ) (i : ℕ) : Type 0 where
  -- B24: the same kind, rank and letter count; where the letters begin may differ
  pub kind : ℕ
  pub rank : ℕ
  pub start : ℕ
  pub start' : ℕ
  pub size : ℕ
  pub found : checked_preset ed b i ≡ preset.Found kind rank start size
  pub found' : checked_preset ed' b' i ≡ preset.Found kind rank start' size
  -- B24: and the same letters
  pub letters : letters_of ed b i ≡ letters_of ed' b' i

-- B24: the book b of the edition ed turned into d
pub record Converted (ed : Edition) (b d : List ℕ) : Type 0 where
  -- B24: it passes checks 1 to 3 of the other edition
  pub unrefused : book_refusal (other ed) d ≡ 0
  -- B24: as many presets
  pub as_many : count d ≡ count b
  -- B24: each the same, in the same order
  pub presets : (i : ℕ) → i < count b → SamePreset ed (other ed) b d i
