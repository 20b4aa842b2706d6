-- The preset book in its two editions, read from its end, and its checks 1 to 4, 6, 13, 17 and 21 (sections B and C
-- of the specification). `Edition` has two cases, so that no third can be named (B8); what differs between the
-- editions goes by them.
use Rattle.std.specs.Prelude.{Bool, not, ◌&&◌, ◌||◌, List, [], ◌∷◌, ◌++◌, ℕ, zero, suc, ◌+◌, ◌-◌, ◌*◌, ◌/◌, ◌%◌, eqb, leb, ltb, length, get_or, take, drop}
use Rattle.coxeter.specs.declared.Kind.{Kind}
use Rattle.coxeter.specs.declared.Kind.TheVariants.{A, B, D}
use Rattle.coxeter.specs.Kinds.{kind_of, lanes, least, greatest}
use Rattle.coxeter.specs.Checks.{check, ◌then◌, wrong_kind, word_refusal}
use Rattle.book_format.specs.declared.Edition.{Edition}
use Rattle.book_format.specs.declared.Edition.TheVariants.{First, Second}

-- B2: the number of two bytes at byte p
unfoldable pub two_at : List ℕ → ℕ → ℕ
two_at b p = get_or b p 0 + 256 * get_or b (p + 1) 0

-- B2: the two bytes of a number
unfoldable pub two : ℕ → List ℕ
two x = x % 256 ∷ x / 256 % 256 ∷ []

-- B3, B10: the last two bytes; 0 if there are no bytes
unfoldable pub count : List ℕ → ℕ
count b = two_at b (length b - 2)

-- B4: where the trailer begins
unfoldable pub trailer : List ℕ → ℕ
trailer b = length b - (2 * count b + 2)

-- B4: the offset of record i
unfoldable pub offset : List ℕ → ℕ → ℕ
offset b i = two_at b (trailer b + 2 * i)

-- B6, B7: where the letter count stands in a record
abbrev pub count_place : Edition → ℕ
count_place First = 2
count_place Second = 3

-- B6, B7: the bytes of a record before its letters
abbrev pub head_size : Edition → ℕ
head_size ed = count_place ed + 2

-- B6: the kind of the record at byte o
abbrev pub kind_at : List ℕ → ℕ → ℕ
kind_at b o = get_or b o 0

-- B6: its rank
abbrev pub rank_at : List ℕ → ℕ → ℕ
rank_at b o = get_or b (o + 1) 0

-- B7: its lane count, the byte after the rank; the first edition has none, so there it is what kind and rank make
-- it
abbrev pub lanes_at : Edition → List ℕ → ℕ → ℕ
lanes_at First b o = lanes (kind_of (kind_at b o)) (rank_at b o)
lanes_at Second b o = get_or b (o + 2) 0

-- B6: its letter count
abbrev pub letter_count_at : Edition → List ℕ → ℕ → ℕ
letter_count_at ed b o = two_at b (o + count_place ed)

-- B6: its letters
abbrev pub letters_at : Edition → List ℕ → ℕ → List ℕ
letters_at ed b o = take (letter_count_at ed b o) (drop (o + head_size ed) b)

-- B5: where the record at byte o ends
abbrev pub end_at : Edition → List ℕ → ℕ → ℕ
end_at ed b o = o + head_size ed + letter_count_at ed b o

-- C1, B10: 0 bytes pass
unfoldable pub wrong_size : List ℕ → Bool
wrong_size b = eqb (length b) 1 || ltb 65535 (length b)

-- C2, B10: a book of no bytes has no count that could be wrong
unfoldable pub wrong_count : List ℕ → Bool
wrong_count b = not (eqb (length b) 0) && ltb (length b) (2 * count b + 2)

-- C3: t records are left, the next is record i and has to begin at byte o
unfoldable pub misplaced_from : Edition → List ℕ → ℕ → ℕ → ℕ → Bool
misplaced_from ed b zero i o = not (eqb o (trailer b))
misplaced_from ed b (suc t) i o =
    not (eqb (offset b i) o) || (ltb (trailer b) (end_at ed b o) || misplaced_from ed b t (suc i) (end_at ed b o))

-- C3
unfoldable pub misplaced : Edition → List ℕ → Bool
misplaced ed b = misplaced_from ed b (count b) 0 0

-- C4
unfoldable pub no_such_preset : List ℕ → ℕ → Bool
no_such_preset b i = leb (count b) i

-- B12 for the first edition, B13 for the second
abbrev pub greatest_in_book : Edition → Kind → ℕ
greatest_in_book First A = 31
greatest_in_book First B = 32
greatest_in_book First D = 32
greatest_in_book Second k = greatest k

-- C6, by the ranks of B12 and B13
unfoldable pub wrong_rank_in_book : Edition → Kind → ℕ → Bool
wrong_rank_in_book ed k n = ltb n (least k) || ltb (greatest_in_book ed k) n

-- C5, C6: of the kind and the rank of a record, read or appended
unfoldable pub book_rank_refusal : Edition → ℕ → ℕ → ℕ
book_rank_refusal ed k n = check 5 (wrong_kind k) then check 6 (wrong_rank_in_book ed (kind_of k) n)

-- C17: records of the first edition have no lane count and pass
unfoldable pub wrong_lane_count : Edition → List ℕ → ℕ → Bool
wrong_lane_count ed b o = not (eqb (lanes_at ed b o) (lanes (kind_of (kind_at b o)) (rank_at b o)))

-- C13: of the new book's length
unfoldable pub too_large : ℕ → Bool
too_large l = ltb 65535 l

-- CO8: opening makes checks 1 to 3
unfoldable pub book_refusal : Edition → List ℕ → ℕ
book_refusal ed b = check 1 (wrong_size b) then check 2 (wrong_count b) then check 3 (misplaced ed b)

-- I26: checks 5, 6, 17, 7 and 8 of the record at byte o
unfoldable pub record_refusal : Edition → List ℕ → ℕ → ℕ
record_refusal ed b o =
    book_rank_refusal ed (kind_at b o) (rank_at b o) then check 17 (wrong_lane_count ed b o) then word_refusal (rank_at b o) (letters_at ed b o)

-- CO8, I26: reading a preset makes checks 1 to 8, with 17
unfoldable pub preset_refusal : Edition → List ℕ → ℕ → ℕ
preset_refusal ed b i = book_refusal ed b then check 4 (no_such_preset b i) then record_refusal ed b (offset b i)

-- B7: the lane count m as it is written
abbrev pub lane_byte : Edition → ℕ → List ℕ
lane_byte First m = []
lane_byte Second m = m ∷ []

-- K1, B6, B7: a preset as a record's bytes, with the lane count m
unfoldable pub record_of : Edition → ℕ → ℕ → ℕ → List ℕ → List ℕ
record_of ed k n m u = k ∷ n ∷ (lane_byte ed m ++ (two (length u) ++ u))

-- B18: what a preset adds to a book: its record and an offset
abbrev pub added_size : Edition → List ℕ → ℕ
added_size ed u = head_size ed + length u + 2

-- B18, B21, B22: the records, the new record with the lane count of its kind and rank, the offsets, its offset, the
-- count
unfoldable pub appended : Edition → List ℕ → ℕ → ℕ → List ℕ → List ℕ
appended ed b k n u =
    take (trailer b) b
    ++ (record_of ed k n (lanes (kind_of k) n) u ++ (take (2 * count b) (drop (trailer b) b) ++ (two (trailer b) ++ two (count b + 1))))

-- C21, B23: kind A at rank 1
unfoldable pub retired : ℕ → ℕ → Bool
retired k n = eqb k 1 && eqb n 1

-- I28: checks 1 to 3 of the book, 5 to 8 and 21 of the preset, then 13
unfoldable pub append_refusal : Edition → List ℕ → ℕ → ℕ → List ℕ → ℕ
append_refusal ed b k n u =
    book_refusal ed b then book_rank_refusal ed k n then word_refusal n u then check 21 (retired k n) then check 13 (too_large (length (appended ed b k n u)))
