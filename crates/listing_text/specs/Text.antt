-- The text of the listing as ASCII codes (P3 to P9 of the specification).
use Rattle.std.specs.Prelude.{List, [], ◌∷◌, ◌++◌, ℕ, zero, suc, ◌+◌, ◌/◌, ◌%◌, ltb, ℤ, pos, negsuc, length, take, drop}
use Rattle.coxeter.specs.declared.Kind.{Kind}
use Rattle.coxeter.specs.declared.Kind.TheVariants.{A, B, D}
use Rattle.coxeter.specs.Kinds.{pick, kind_of}
use Rattle.coxeter.specs.Windows.{window}
use Rattle.coxeter.specs.NormalForm.{word_normal_form}
use Rattle.book_format.specs.declared.Edition.{Edition}
use Rattle.book_format.specs.answers.Opened.{Opened}
use Rattle.book_format.specs.answers.Opened as opened
use Rattle.book_format.specs.answers.Preset.{Preset}
use Rattle.book_format.specs.answers.Preset as preset
use Rattle.book_format.specs.Calls.{checked_book, checked_preset}

-- P5: the decimal digits of x, the most significant first, of which there are at most f
unfoldable pub digits : ℕ → ℕ → List ℕ
digits zero x = []
digits (suc f) x = pick (ltb x 10) ((48 + x) ∷ []) (digits f (x / 10) ++ ((48 + x % 10) ∷ []))

-- P5: x in decimal, without leading zeros; x + 1 digits are enough
unfoldable pub decimal : ℕ → List ℕ
decimal x = digits (suc x) x

-- P5: a number after one space
unfoldable pub spaced : ℕ → List ℕ
spaced x = 32 ∷ decimal x

-- P5: the letters of a word
unfoldable pub letters : List ℕ → List ℕ
letters [] = []
letters (x ∷ u) = spaced x ++ letters u

-- P5: an entry, a negative one with a hyphen
unfoldable pub entry : ℤ → List ℕ
entry (pos x) = spaced x
entry (negsuc x) = 32 ∷ 45 ∷ decimal (suc x)

-- P5: the entries of a window
unfoldable pub entries : List ℤ → List ℕ
entries [] = []
entries (e ∷ w) = entry e ++ entries w

-- K2, P4: `A`, `B`, `D`
unfoldable pub kind_letter : Kind → ℕ
kind_letter A = 65
kind_letter B = 66
kind_letter D = 68

-- P4, P5: the first four fields, with the colon
unfoldable pub head : ℕ → Kind → ℕ → ℕ → List ℕ
head i k n l = decimal i ++ (32 ∷ kind_letter k ∷ []) ++ spaced n ++ spaced l ++ (58 ∷ [])

-- P4, P5, P6: the normal form u, the bar, the window w and the line feed
unfoldable pub tail : List ℕ → List ℤ → List ℕ
tail u w = letters u ++ (32 ∷ 124 ∷ []) ++ entries w ++ (10 ∷ [])

-- P4: a whole line
unfoldable pub preset_line : ℕ → Kind → ℕ → List ℕ → List ℤ → List ℕ
preset_line i k n u w = head i k n (length u) ++ tail u w

-- P7, P8: ` refused `
abbrev pub refused_text : List ℕ
refused_text = 32 ∷ 114 ∷ 101 ∷ 102 ∷ 117 ∷ 115 ∷ 101 ∷ 100 ∷ 32 ∷ []

-- P8: `book`
abbrev pub book_text : List ℕ
book_text = 98 ∷ 111 ∷ 111 ∷ 107 ∷ []

-- P3: `presets `
abbrev pub presets_text : List ℕ
presets_text = 112 ∷ 114 ∷ 101 ∷ 115 ∷ 101 ∷ 116 ∷ 115 ∷ 32 ∷ []

-- P7, P8: ` refused 8`
unfoldable pub refused : ℕ → List ℕ
refused r = refused_text ++ decimal r ++ (10 ∷ [])

-- P7: `0 refused 8`, with the preset's number and its refusal
unfoldable pub refused_line : ℕ → ℕ → List ℕ
refused_line i r = decimal i ++ refused r

-- P8, P11: `book refused 1`
unfoldable pub refused_book_line : ℕ → List ℕ
refused_book_line r = book_text ++ refused r

-- P3: `presets 2`, with the number of presets
unfoldable pub count_line : ℕ → List ℕ
count_line c = presets_text ++ decimal c ++ (10 ∷ [])

-- P4: the line of preset i, a word u of kind k and rank n
unfoldable pub word_line : ℕ → Kind → ℕ → List ℕ → List ℕ
word_line i k n u = preset_line i k n (word_normal_form k n u) (window k n u)

-- P4, P7: the line of preset i of the book b, by what reading it returns
unfoldable pub line_by : List ℕ → ℕ → Preset → List ℕ
line_by b i (preset.Found k n s l) = word_line i (kind_of k) n (take l (drop s b))
line_by b i (preset.Refused r) = refused_line i r

-- P4, P7: the line of preset i of the book b
unfoldable pub line_of : Edition → List ℕ → ℕ → List ℕ
line_of ed b i = line_by b i (checked_preset ed b i)

-- P4: the lines of t presets from preset i on
unfoldable pub lines_from : Edition → List ℕ → ℕ → ℕ → List ℕ
lines_from ed b zero i = []
lines_from ed b (suc t) i = line_of ed b i ++ lines_from ed b t (suc i)

-- P3, P8: the whole listing, by what opening the book returns
unfoldable pub listing_by : Edition → List ℕ → Opened → List ℕ
listing_by ed b (opened.Presets c) = count_line c ++ lines_from ed b c 0
listing_by ed b (opened.Refused r) = refused_book_line r

-- P1, P2: the whole listing of a book of the edition ed
unfoldable pub listing : Edition → List ℕ → List ℕ
listing ed b = listing_by ed b (checked_book ed b)
