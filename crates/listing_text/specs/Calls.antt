-- The listing line by line, and what the call that writes the next piece of it returns and writes, for every input
-- (I32 of the specification).
use Rattle.std.specs.Prelude.{List, [], ◌∷◌, ◌++◌, ℕ, zero, suc, ◌+◌, ◌-◌, leb, length, take}
use Rattle.coxeter.specs.Kinds.{pick}
use Rattle.coxeter.specs.Calls.{front}
use Rattle.book_format.specs.declared.Edition.{Edition}
use Rattle.book_format.specs.answers.Opened.{Opened}
use Rattle.book_format.specs.answers.Opened as opened
use Rattle.book_format.specs.Calls.{checked_book}
use Rattle.listing_text.specs.declared.Piece.{Piece}
use Rattle.listing_text.specs.Text.{refused_book_line, count_line, line_of}

-- ---- lines

-- P3, P4, P8: how many lines the listing has: the first, and one for each preset of a book that is not refused
unfoldable pub line_count_by : Opened → ℕ
line_count_by (opened.Presets c) = suc c
line_count_by (opened.Refused r) = 1

-- P3, P4, P8: the same from the book's bytes
unfoldable pub line_count : Edition → List ℕ → ℕ
line_count ed b = line_count_by (checked_book ed b)

-- P3, P8: `presets 2` or `book refused 1`
unfoldable pub first_line : Opened → List ℕ
first_line (opened.Presets c) = count_line c
first_line (opened.Refused r) = refused_book_line r

-- P3, P4: line 0, and line i + 1, which is that of preset i
unfoldable pub line : Edition → List ℕ → ℕ → List ℕ
line ed b zero = first_line (checked_book ed b)
line ed b (suc i) = line_of ed b i

-- I32: t lines from line i on
unfoldable pub lines : Edition → List ℕ → ℕ → ℕ → List ℕ
lines ed b zero i = []
lines ed b (suc t) i = line ed b i ++ lines ed b t (suc i)

-- ---- pieces

-- I32: how many of the t lines from line i on fit whole, one after the other, in m bytes
unfoldable pub fitting : Edition → List ℕ → ℕ → ℕ → ℕ → ℕ
fitting ed b zero i m = 0
fitting ed b (suc t) i m = let l = length (line ed b i) in pick (leb l m) (suc (fitting ed b t (suc i) (m - l))) 0

-- I32: the answer, and the bytes of the output afterwards
pub record Piecing : Type 0 where
  pub answer : Piece
  pub bytes : List ℕ

-- I32, I2: as many lines from line i on as fit in `out`, at its front; its other bytes stay
unfoldable pub next_piece : Edition → List ℕ → ℕ → List ℕ → Piecing
next_piece ed b i out =
    let left = line_count ed b - i in
    let t = fitting ed b left i (length out) in
    let text = lines ed b t i in
    record { answer = record { next = i + t; end = length text; left = left - t }; bytes = front text out }

-- I32: calls with one output after the other, each from the line where the last piece ended: what the pieces are
-- together
unfoldable pub pieces : Edition → List ℕ → ℕ → List (List ℕ) → List ℕ
pieces ed b i [] = []
pieces ed b i (out ∷ outs) = let p = next_piece ed b i out in take p.answer.end p.bytes ++ pieces ed b p.answer.next outs

-- I32: and the line where they end
unfoldable pub reached : Edition → List ℕ → ℕ → List (List ℕ) → ℕ
reached ed b i [] = i
reached ed b i (out ∷ outs) = reached ed b (next_piece ed b i out).answer.next outs
