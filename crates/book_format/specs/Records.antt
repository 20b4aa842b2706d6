-- A book as the list of its records (B4 to B7 of the specification): the bytes that a list of records lays out, and
-- the records of a book. In either edition a record has its lane count, written or not, so that lists of records
-- are the same for both.
use Rattle.std.specs.Prelude.{◌≡◌, ◌⊎◌, List, [], ◌∷◌, ◌++◌, ℕ, zero, suc, ◌+◌, ◌<◌, length, get_or}
use Rattle.book_format.specs.declared.Edition.{Edition}
use Rattle.book_format.specs.Books.{two, count, offset, kind_at, rank_at, lanes_at, letters_at, record_of, head_size}

-- B6, B7: what a record says
pub record Record : Type 0 where
  pub kind : ℕ
  pub rank : ℕ
  pub lanes : ℕ
  pub letters : List ℕ

-- B5: the records from byte 0 on, without gaps
unfoldable pub record_bytes : Edition → List Record → List ℕ
record_bytes ed [] = []
record_bytes ed (r ∷ rs) = record_of ed r.kind r.rank r.lanes r.letters ++ record_bytes ed rs

-- B4: the offsets of the records from byte o on
unfoldable pub offset_bytes : Edition → ℕ → List Record → List ℕ
offset_bytes ed o [] = []
offset_bytes ed o (r ∷ rs) = two o ++ offset_bytes ed (o + head_size ed + length r.letters) rs

-- B4, B5: records, offsets, count
unfoldable pub lay_out : Edition → List Record → List ℕ
lay_out ed rs = record_bytes ed rs ++ (offset_bytes ed 0 rs ++ two (length rs))

-- B6, B7: the record at byte o
abbrev pub record_at : Edition → List ℕ → ℕ → Record
record_at ed b o = record { kind = kind_at b o; rank = rank_at b o; lanes = lanes_at ed b o; letters = letters_at ed b o }

-- B4: the t records from record i on
unfoldable pub records_from : Edition → List ℕ → ℕ → ℕ → List Record
records_from ed b zero i = []
records_from ed b (suc t) i = record_at ed b (offset b i) ∷ records_from ed b t (suc i)

-- B4: the records of a book, in the order of their offsets
unfoldable pub records_of : Edition → List ℕ → List Record
records_of ed b = records_from ed b (count b) 0

-- B10, B11: books with the same records that are not the same bytes, the only ones: neither has a preset, and one
-- of them has no bytes
abbrev pub Empties : List ℕ → List ℕ → Type 0
Empties b d = ((b ≡ []) × (d ≡ two 0)) ⊎ ((b ≡ two 0) × (d ≡ []))

-- B1: every number of the list is a byte
abbrev pub Bytes : List ℕ → Type 0
Bytes b = (i : ℕ) → get_or b i 0 < 256
