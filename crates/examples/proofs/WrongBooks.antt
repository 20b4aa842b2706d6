-- Wrong answers of the calls on books, of converting them, of the lines of a listing and of its pieces, each of the
-- type of its call's definition. WrongAnswers.antt says where each is wrong.
-- Assumes nothing.
use mathlib.Core.Bool.{Bool, false, not, ◌&&◌, ◌||◌}
use mathlib.Core.List.{List, [], ◌∷◌, ◌++◌, map}
use Prim.Native.Nat.{ℕ, zero, suc, ◌+◌, ◌-◌, ◌*◌, ◌/◌, min}
use lib.Dec.{eqb, ltb}
use lib.IntN.{nat_abs}
use lib.ListN.{length, get_or, take, drop, replicate}
use Rattle.coxeter.specs.declared.Kind.{Kind}
use Rattle.coxeter.specs.Kinds.{pick, kind_of, lanes, up}
use Rattle.coxeter.specs.Windows.{window}
use Rattle.coxeter.specs.Checks.{check, ◌then◌, too_short, word_refusal}
use Rattle.coxeter.specs.NormalForm.{word_normal_form}
use Rattle.coxeter.specs.Calls.{Outcome, answer_of, written, writes, front}
use Rattle.book_format.specs.declared.Edition.{Edition}
use Rattle.book_format.specs.declared.Edition.TheVariants.{First, Second}
use Rattle.book_format.specs.answers.Opened.{Opened}
use Rattle.book_format.specs.answers.Preset.{Preset}
use Rattle.book_format.specs.Books.{two, count, trailer, offset, kind_at, rank_at, lanes_at, letter_count_at, letters_at, end_at, wrong_size, wrong_count, misplaced}
use Rattle.book_format.specs.Books.{no_such_preset, book_rank_refusal, wrong_lane_count, book_refusal, record_refusal, preset_refusal, record_of, appended, append_refusal}
use Rattle.book_format.specs.Books.{head_size, too_large, retired}
use Rattle.book_format.specs.Records.{lay_out, records_of}
use Rattle.book_format.specs.Conversion.{other, converted, too_many_lanes, record_conversion_refusal, records_conversion_refusal, conversion_refusal}
use Rattle.book_format.specs.Calls.{opened_of, checked_book, preset_at, checked_preset, letters_start, letters_of, preset_fields, run_length}
use Rattle.listing_text.specs.Text.{decimal, spaced, letters, kind_letter, head, tail, presets_text, refused, refused_line, refused_book_line}
use Rattle.listing_text.specs.Calls.{line_count, line, lines, fitting, Piecing, next_piece}

-- ---- opening

abbrev pub count_high_byte_first : Edition → List ℕ → Opened
count_high_byte_first ed b = checked_book ed (take (length b - 2) b ++ (get_or b (length b - 1) 0 ∷ get_or b (length b - 2) 0 ∷ []))

abbrev pub book_of65536_bytes : Edition → List ℕ → Opened
book_of65536_bytes ed b = opened_of (check 1 (eqb (length b) 1 || ltb 65536 (length b)) then check 2 (wrong_count b) then check 3 (misplaced ed b)) (count b)

-- a book of no bytes refused, and one of one byte accepted
abbrev pub no_bytes_refused : Edition → List ℕ → Opened
no_bytes_refused ed b = opened_of (check 1 (ltb (length b) 2 || ltb 65535 (length b)) then book_refusal ed b) (count b)

abbrev pub one_byte_accepted : Edition → List ℕ → Opened
one_byte_accepted ed b = opened_of (check 1 (ltb 65535 (length b)) then check 2 (ltb 1 (length b) && wrong_count b) then check 3 (misplaced ed b)) (count b)

-- checks 1 and 2, and check 3 by another test
abbrev pub opened_by : (List ℕ → Bool) → List ℕ → Opened
opened_by test b = opened_of (check 1 (wrong_size b) then check 2 (wrong_count b) then check 3 (test b)) (count b)

-- every offset is held to the trailer's place
abbrev pub offsets_against : List ℕ → ℕ → ℕ → Bool
offsets_against b zero i = false
offsets_against b (suc t) i = not (eqb (offset b i) (trailer b)) || offsets_against b t (suc i)

abbrev pub offset_against_the_trailer : Edition → List ℕ → Opened
offset_against_the_trailer ed = opened_by (λ b. offsets_against b (count b) 0)

-- the last record may end before the trailer
abbrev pub stops_early : Edition → List ℕ → ℕ → ℕ → ℕ → Bool
stops_early ed b zero i o = ltb (trailer b) o
stops_early ed b (suc t) i o = not (eqb (offset b i) o) || (ltb (trailer b) (end_at ed b o) || stops_early ed b t (suc i) (end_at ed b o))

abbrev pub last_record_may_stop_early : Edition → List ℕ → Opened
last_record_may_stop_early ed = opened_by (λ b. stops_early ed b (count b) 0 0)

-- the letters of preset 0 opened as if they were the book
abbrev pub opens_other_bytes : Edition → List ℕ → Opened
opens_other_bytes ed b = checked_book ed (letters_of ed b 0)

-- ---- presets and their letters

-- a preset of kind A and rank 1 refused where it is read
abbrev pub retired_not_read : Edition → List ℕ → ℕ → Preset
retired_not_read ed b i =
    preset_at ed (preset_refusal ed b i then check 21 (retired (kind_at b (offset b i)) (rank_at b (offset b i)))) b (offset b i)

-- a preset of a book without presets refused as a damaged book is
abbrev pub no_presets_refused3 : Edition → List ℕ → ℕ → Preset
no_presets_refused3 ed b i = preset_at ed (book_refusal ed b then check 3 (eqb (count b) 0) then preset_refusal ed b i) b (offset b i)

abbrev pub one_preset_too_many : Edition → List ℕ → ℕ → Preset
one_preset_too_many ed b i = preset_at ed (book_refusal ed b then check 4 (ltb (count b) i) then record_refusal ed b (offset b i)) b (offset b i)

abbrev pub preset0_for_every_number : Edition → List ℕ → ℕ → Preset
preset0_for_every_number ed b i = checked_preset ed b 0

-- checks 1 to 4, and then others of the record at byte o
abbrev pub preset_by : Edition → (ℕ → ℕ) → List ℕ → ℕ → Preset
preset_by ed refusal b i =
    let o = offset b i in
    preset_at ed (book_refusal ed b then check 4 (no_such_preset b i) then refusal o) b o

-- 17 before 6
abbrev pub lane_count_before_rank : Edition → List ℕ → ℕ → Preset
lane_count_before_rank ed b =
    preset_by ed (λ o. check 17 (wrong_lane_count ed b o) then book_rank_refusal ed (kind_at b o) (rank_at b o) then word_refusal (rank_at b o) (letters_at ed b o)) b

-- the lane count n in kind A too
abbrev other_than_rank : Edition → List ℕ → ℕ → Bool
other_than_rank ed b o = not (eqb (lanes_at ed b o) (rank_at b o))

abbrev pub lane_count_is_the_rank : Edition → List ℕ → ℕ → Preset
lane_count_is_the_rank ed b =
    preset_by ed
    (λ o. book_rank_refusal ed (kind_at b o) (rank_at b o) then check 17 (other_than_rank ed b o) then word_refusal (rank_at b o) (letters_at ed b o)) b

-- the ranges of the first edition
abbrev pub ranges_of_the_first : Edition → List ℕ → ℕ → Preset
ranges_of_the_first ed b =
    preset_by ed
    (λ o. book_rank_refusal First (kind_at b o) (rank_at b o) then check 17 (wrong_lane_count ed b o) then word_refusal (rank_at b o) (letters_at ed b o)) b

-- the ranges of the second edition
abbrev pub ranges_of_the_second : Edition → List ℕ → ℕ → Preset
ranges_of_the_second ed b =
    preset_by ed
    (λ o. book_rank_refusal Second (kind_at b o) (rank_at b o) then check 17 (wrong_lane_count ed b o) then word_refusal (rank_at b o) (letters_at ed b o)) b

-- where the part begins, and its bytes, as they should be
abbrev pub handed_out : Edition → List ℕ → ℕ → ℕ × List ℕ
handed_out ed b i = (letters_start ed b i, letters_of ed b i)

abbrev pub letters_from_the_record : Edition → List ℕ → ℕ → ℕ × List ℕ
letters_from_the_record ed b i = (pick (eqb (preset_refusal ed b i) 0) (offset b i) 0, letters_of ed b i)

abbrev pub refused_preset_hands_out_letters : Edition → List ℕ → ℕ → ℕ × List ℕ
refused_preset_hands_out_letters ed b i = (letters_start ed b i, letters_at ed b (offset b i))

-- four bytes of head in either edition
abbrev pub letters_one_byte_early : Edition → List ℕ → ℕ → ℕ × List ℕ
letters_one_byte_early ed b i = let o = offset b i in (o + 4, take (letter_count_at ed b o) (drop (o + 4) b))

-- ---- runs of presets

-- t presets with these numbers, refused with r or not
abbrev read_by : ℕ → ℕ → List ℕ → List ℕ → Outcome ℕ
read_by r t l out = record { answer = answer_of r t; bytes = written r l out }

-- the checks of a run, as they should be
abbrev run_checks : Edition → List ℕ → ℕ → List ℕ → ℕ
run_checks ed b i out = book_refusal ed b then check 4 (no_such_preset b i) then check 14 (too_short 5 out)

-- a line of zeros past the last preset
abbrev pub zeros_past_the_last : Edition → List ℕ → ℕ → List ℕ → Outcome ℕ
zeros_past_the_last ed b i out =
    let t = min (suc (count b - i)) (length out / 5) in
    read_by (run_checks ed b i out) t (take (5 * t) (preset_fields ed b (count b - i) i ++ replicate 5 0)) out

-- a refused record's fields beside its refusal
abbrev fields_of_every : Edition → List ℕ → ℕ → ℕ → List ℕ
fields_of_every ed b zero i = []
fields_of_every ed b (suc t) i =
    let o = offset b i in
    preset_refusal ed b i ∷ kind_at b o ∷ rank_at b o ∷ (o + head_size ed) ∷ letter_count_at ed b o ∷ fields_of_every ed b t (suc i)

abbrev pub fields_of_a_refused_record : Edition → List ℕ → ℕ → List ℕ → Outcome ℕ
fields_of_a_refused_record ed b i out = read_by (run_checks ed b i out) (run_length b i out) (fields_of_every ed b (run_length b i out) i) out

-- check 14 before check 4
abbrev pub room_before_the_number : Edition → List ℕ → ℕ → List ℕ → Outcome ℕ
room_before_the_number ed b i out =
    read_by (book_refusal ed b then check 14 (too_short 5 out) then check 4 (no_such_preset b i)) (run_length b i out)
    (preset_fields ed b (run_length b i out) i) out

-- what a run of 128 presets is, as it should be: the opened book, the first number and the presets
abbrev pub run_from : Edition → List ℕ → ℕ → Opened × ℕ × List Preset
run_from ed b first = (checked_book ed b, first, map (checked_preset ed b) (up first 128))

abbrev pub run_from_the_next : Edition → List ℕ → ℕ → Opened × ℕ × List Preset
run_from_the_next ed b first = (checked_book ed b, first, map (checked_preset ed b) (up (suc first) 128))

-- the last preset again for every number past it
abbrev pub last_preset_again : Edition → List ℕ → ℕ → Opened × ℕ × List Preset
last_preset_again ed b first = (checked_book ed b, first, map (λ i. checked_preset ed b (min i (count b - 1))) (up first 128))

-- ---- appending

-- a record of the first edition
abbrev pub lane_count_left_out : Edition → List ℕ → ℕ → ℕ → List ℕ → List ℕ → Outcome ℕ
lane_count_left_out ed b k n u out = writes (append_refusal ed b k n u) (appended First b k n u) out

abbrev pub last_offset_dropped : Edition → List ℕ → ℕ → ℕ → List ℕ → List ℕ → Outcome ℕ
last_offset_dropped ed b k n u out =
    writes (append_refusal ed b k n u)
    (take (trailer b) b ++ (record_of ed k n (lanes (kind_of k) n) u ++ (take (2 * count b) (drop (trailer b) b) ++ two (count b + 1)))) out

abbrev pub kind_and_rank_swapped : Edition → List ℕ → ℕ → ℕ → List ℕ → List ℕ → Outcome ℕ
kind_and_rank_swapped ed b k n u out = writes (append_refusal ed b k n u) (appended ed b n k u) out

-- check 14 before the others
abbrev pub room_before_the_size_limit : Edition → List ℕ → ℕ → ℕ → List ℕ → List ℕ → Outcome ℕ
room_before_the_size_limit ed b k n u out =
    writes (check 14 (too_short (length (appended ed b k n u)) out) then append_refusal ed b k n u) (appended ed b k n u) out

-- kind A at rank 1 appended; refused before its letters are looked at; and rank 1 refused 21 in every kind
abbrev pub retired_appended : Edition → List ℕ → ℕ → ℕ → List ℕ → List ℕ → Outcome ℕ
retired_appended ed b k n u out =
    writes (book_refusal ed b then book_rank_refusal ed k n then word_refusal n u then check 13 (too_large (length (appended ed b k n u)))) (appended ed b k n u) out

abbrev pub retired_before_letters : Edition → List ℕ → ℕ → ℕ → List ℕ → List ℕ → Outcome ℕ
retired_before_letters ed b k n u out =
    writes (book_refusal ed b then book_rank_refusal ed k n then check 21 (retired k n) then append_refusal ed b k n u) (appended ed b k n u) out

abbrev pub retired_in_every_kind : Edition → List ℕ → ℕ → ℕ → List ℕ → List ℕ → Outcome ℕ
retired_in_every_kind ed b k n u out = writes (book_refusal ed b then check 21 (eqb n 1) then append_refusal ed b k n u) (appended ed b k n u) out

-- ---- converting

-- the last record left out of the new book
abbrev pub last_record_dropped : Edition → List ℕ → List ℕ → Outcome ℕ
last_record_dropped ed b out = writes (conversion_refusal ed b) (lay_out (other ed) (take (count b - 1) (records_of ed b))) out

-- 18 before the record's other checks
abbrev pub lane_limit_first : Edition → List ℕ → List ℕ → Outcome ℕ
lane_limit_first ed b out = writes (book_refusal ed b then check 18 (too_many_lanes ed b 0) then conversion_refusal ed b) (converted ed b) out

-- only the first record is checked
abbrev pub later_records_unchecked : Edition → List ℕ → List ℕ → Outcome ℕ
later_records_unchecked ed b out = writes (book_refusal ed b then record_conversion_refusal ed b (offset b 0)) (converted ed b) out

-- 13 by the size of the old book
abbrev pub size_limit_of_the_old_book : Edition → List ℕ → List ℕ → Outcome ℕ
size_limit_of_the_old_book ed b out =
    writes (book_refusal ed b then records_conversion_refusal ed b (count b) 0 then check 13 (too_large (length b))) (converted ed b) out

-- ---- lines of the listing

abbrev pub count_without_line_feed : ℕ → List ℕ
count_without_line_feed c = presets_text ++ decimal c

abbrev pub book_refusal_always1 : ℕ → List ℕ
book_refusal_always1 r = refused_book_line 1

-- the line of a refused book as a call writes it, as it should be; `book` left out; and as much of it as has room
abbrev pub refused_book : ℕ → List ℕ → Outcome ℕ
refused_book r out = writes 0 (refused_book_line r) out

abbrev pub book_left_out : ℕ → List ℕ → Outcome ℕ
book_left_out r out = writes 0 (refused r) out

abbrev pub refused_book_cut_off : ℕ → List ℕ → Outcome ℕ
refused_book_cut_off r out = writes 0 (take (length out) (refused_book_line r)) out

abbrev pub preset_refusal_always1 : ℕ → ℕ → List ℕ
preset_refusal_always1 i r = refused_line i 1

abbrev pub length_before_rank : ℕ → Kind → ℕ → List ℕ → List ℕ
length_before_rank i k n u =
    let v = word_normal_form k n u in
    decimal i ++ (32 ∷ kind_letter k ∷ []) ++ spaced (length v) ++ spaced n ++ (58 ∷ []) ++ tail v (window k n u)

abbrev pub minus_left_out : ℕ → Kind → ℕ → List ℕ → List ℕ
minus_left_out i k n u =
    let v = word_normal_form k n u in
    head i k n (length v) ++ letters v ++ (32 ∷ 124 ∷ []) ++ letters (map nat_abs (window k n u)) ++ (10 ∷ [])

-- ---- pieces of the listing

-- the first line is all there is
abbrev pub no_preset_line : Edition → List ℕ → ℕ → List ℕ → Piecing
no_preset_line ed b i out =
    let text = pick (eqb i 0) (line ed b 0) [] in
    record { answer = record { next = 1; end = length text; left = 0 }; bytes = front text out }

-- the last line is never written
abbrev pub last_line_left_out : Edition → List ℕ → ℕ → List ℕ → Piecing
last_line_left_out ed b i out =
    let left = line_count ed b - i in
    let t = fitting ed b (left - 1) i (length out) in
    let text = lines ed b t i in
    record { answer = record { next = i + t; end = length text; left = left - t }; bytes = front text out }

-- the buffer is filled to its last byte
abbrev pub line_cut_off : Edition → List ℕ → ℕ → List ℕ → Piecing
line_cut_off ed b i out =
    let text = take (length out) (lines ed b (line_count ed b - i) i) in
    record { answer = record { next = line_count ed b; end = length text; left = 0 }; bytes = front text out }

-- a line that just fits is left out: the last byte of the buffer is never used
abbrev pub last_byte_unused : Edition → List ℕ → ℕ → List ℕ → Piecing
last_byte_unused ed b i out =
    let m = length out - 1 in
    let p = next_piece ed b i (take m out) in
    record { answer = p.answer; bytes = p.bytes ++ drop m out }
