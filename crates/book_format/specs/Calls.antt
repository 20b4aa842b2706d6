-- What each call on a book returns and writes, for every input (I25 to I28 and I30 of the specification);
-- conversion is in Conversion.
use Rattle.std.specs.Prelude.{◌≡◌, List, [], ◌∷◌, ◌++◌, ℕ, zero, suc, ◌+◌, ◌-◌, ◌/◌, ◌<◌, min, eqb, length}
use Rattle.book_format.specs.declared.Edition.{Edition}
use Rattle.book_format.specs.answers.Opened.{Opened}
use Rattle.book_format.specs.answers.Opened as opened
use Rattle.book_format.specs.answers.Preset.{Preset}
use Rattle.book_format.specs.answers.Preset as preset
use Rattle.coxeter.specs.Kinds.{pick}
use Rattle.coxeter.specs.Checks.{check, ◌then◌, too_short, word_refusal}
use Rattle.coxeter.specs.Calls.{Outcome, answer_of, written, writes}
use Rattle.book_format.specs.Books.{count, trailer, offset, head_size, kind_at, rank_at, letter_count_at, letters_at}
use Rattle.book_format.specs.Books.{no_such_preset, book_rank_refusal, book_refusal, record_refusal, preset_refusal, appended, append_refusal}

-- I25, G17: the number and the value of each case of `Opened`: its refusal, or with none the number of presets
unfoldable pub opened_of : ℕ → ℕ → Opened
opened_of r c = pick (eqb r 0) (opened.Presets c) (opened.Refused r)

-- I26, G17: the number and the values of each case of `Preset`: its refusal, or with none the kind, the rank, where
-- the letters begin and how many they are
unfoldable pub preset_of : ℕ → ℕ → ℕ → ℕ → ℕ → Preset
preset_of r k n s l = pick (eqb r 0) (preset.Found k n s l) (preset.Refused r)

-- I25
unfoldable pub checked_book : Edition → List ℕ → Opened
checked_book ed b = opened_of (book_refusal ed b) (count b)

-- I26: the preset of the record at byte o, refused with r or not
unfoldable pub preset_at : Edition → ℕ → List ℕ → ℕ → Preset
preset_at ed r b o = preset_of r (kind_at b o) (rank_at b o) (o + head_size ed) (letter_count_at ed b o)

-- I26: the record at byte o, by its own checks alone
unfoldable pub checked_record : Edition → List ℕ → ℕ → Preset
checked_record ed b o = preset_at ed (record_refusal ed b o) b o

-- I26: reading a preset by its number
unfoldable pub checked_preset : Edition → List ℕ → ℕ → Preset
checked_preset ed b i = preset_at ed (preset_refusal ed b i) b (offset b i)

-- I27, B15, B17: where the part of the book begins that is handed out; for a refused preset at byte 0
unfoldable pub letters_start : Edition → List ℕ → ℕ → ℕ
letters_start ed b i = pick (eqb (preset_refusal ed b i) 0) (offset b i + head_size ed) 0

-- I27, B15, B16: the bytes of that part; none for a refused preset
unfoldable pub letters_of : Edition → List ℕ → ℕ → List ℕ
letters_of ed b i = pick (eqb (preset_refusal ed b i) 0) (letters_at ed b (offset b i)) []

-- I30: the five numbers of a preset; the last four are 0 if it is refused
unfoldable pub fields_of : Preset → List ℕ
fields_of (preset.Found k n s l) = 0 ∷ k ∷ n ∷ s ∷ l ∷ []
fields_of (preset.Refused r) = r ∷ 0 ∷ 0 ∷ 0 ∷ 0 ∷ []

-- I30: those of t presets from preset i on
unfoldable pub preset_fields : Edition → List ℕ → ℕ → ℕ → List ℕ
preset_fields ed b zero i = []
preset_fields ed b (suc t) i = fields_of (checked_preset ed b i) ++ preset_fields ed b t (suc i)

-- I30: as many presets from preset i on as there are, and as have room in `out`
unfoldable pub run_length : List ℕ → ℕ → List ℕ → ℕ
run_length b i out = min (count b - i) (length out / 5)

-- I30: checks 1 to 3 of the book, 4 of its first preset, 14 if not even one has room; the other checks are those of
-- each preset. The answer is how many presets were written.
unfoldable pub reading_presets : Edition → List ℕ → ℕ → List ℕ → Outcome ℕ
reading_presets ed b i out =
    let r = book_refusal ed b then check 4 (no_such_preset b i) then check 14 (too_short 5 out) in
    let t = run_length b i out in
    record { answer = answer_of r t; bytes = written r (preset_fields ed b t i) out }

-- I28
unfoldable pub appending : Edition → List ℕ → ℕ → ℕ → List ℕ → List ℕ → Outcome ℕ
appending ed b k n u out = writes (append_refusal ed b k n u) (appended ed b k n u) out

-- B18, B19, B20: the book d is b with the preset k, n, u appended
pub record Grown (ed : Edition) (b : List ℕ) (k n : ℕ) (u d : List ℕ) : Type 0 where
  -- B18: it passes checks 1 to 3
  pub unrefused : book_refusal ed d ≡ 0
  -- B18
  pub one_preset_more : count d ≡ count b + 1
  -- B19
  pub last_preset : checked_preset ed d (count b) ≡ preset_of (book_rank_refusal ed k n then word_refusal n u) k n (trailer b + head_size ed) (length u)
  -- B19: letter by letter as lent
  pub last_letters : letters_of ed d (count b) ≡ pick (eqb (book_rank_refusal ed k n then word_refusal n u) 0) u []
  -- B20
  pub presets_before : (i : ℕ) → i < count b → checked_preset ed d i ≡ checked_preset ed b i
  -- B20
  pub letters_before : (i : ℕ) → i < count b → letters_of ed d i ≡ letters_of ed b i
