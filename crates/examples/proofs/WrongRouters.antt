-- No row of the table of wrong routers gets through: a test of a row, sound for every row, computes to true over
-- the whole table, and over the further rows beside it. The test compares the numbers of what the call and the wrong
-- router tell. Then the wrong answers that no row can show: at books too large to compute with, by the laws of books.
-- Parts handed back and places kept, which are not values of a definition, are in `HandedBack`.
--
-- Sections: the test; the table; the largest book.
-- Assumes nothing.
use mathlib.Core.Path.{◌≡◌, refl, sym, ap, ◌∙◌}
use mathlib.Core.Bool.{Bool, true, false, not, ◌&&◌, true≢false, and-eq-true_iff}
use mathlib.Core.Logic.{⊎_elim}
use mathlib.Core.List.Memᴰ
use mathlib.Core.List.{List, [], ◌∷◌, ◌++◌, map, Memᴰ}
use Prim.Native.Nat.{ℕ, ◌+◌, ◌≤◌, ◌<◌}
use native.Mathlib.Omega.{arith}
use lib.IntN.{ℤ, pos}
use lib.ListN.{length}
use borrow.Author.Tests.{lt-ltb, le-ltb}
use Rattle.coxeter.specs.answers.Answer.{Answer}
use Rattle.coxeter.specs.answers.Answer as answers
use Rattle.coxeter.specs.answers.Verdict.{Verdict}
use Rattle.coxeter.specs.answers.Verdict as verdicts
use Rattle.coxeter.specs.answers.Choice.{Choice}
use Rattle.coxeter.specs.answers.Choice as choices
use Rattle.coxeter.specs.answers.Counted.{Counted}
use Rattle.coxeter.specs.answers.Counted as counts
use Rattle.coxeter.specs.answers.Lanes.{Lanes}
use Rattle.coxeter.specs.answers.Lanes as lane_counts
use Rattle.rules.specs.declared.Rewrite.{Rewrite}
use Rattle.rules.specs.declared.Rewrite.TheVariants as rewrites
use Rattle.shortest_words.specs.answers.Fallback.{Fallback}
use Rattle.shortest_words.specs.answers.Fallback as fallbacks
use Rattle.shortest_words.specs.answers.Split.{Split}
use Rattle.shortest_words.specs.answers.Split as splits
use Rattle.traces.specs.answers.ToEnd.{ToEnd}
use Rattle.traces.specs.answers.ToEnd as ends
use Rattle.distribution.specs.answers.Table.{Table}
use Rattle.distribution.specs.answers.Table as tables
use Rattle.book_format.specs.declared.Edition.{Edition}
use Rattle.book_format.specs.declared.Edition.TheVariants.{First}
use Rattle.book_format.specs.answers.Opened.{Opened}
use Rattle.book_format.specs.answers.Opened as books
use Rattle.book_format.specs.answers.Preset.{Preset}
use Rattle.book_format.specs.answers.Preset as presets
use Rattle.listing_text.specs.declared.Piece.{Piece}
use Rattle.coxeter.specs.Kinds.{kind_of, up}
use Rattle.coxeter.specs.Windows.{from, swap, negate_first, swap_negate, act, window_from, identity, window, at, product, signed, place_from, inverse}
use Rattle.coxeter.specs.Length.{later, negative, one, later_than, inversions, negative_sum_pairs, negatives, crossings, total, window_length}
use Rattle.coxeter.specs.Parity.{flipped}
use Rattle.coxeter.specs.Dictionary.{before, shortlex}
use Rattle.coxeter.specs.Checks.{check, ◌then◌, wrong_kind, wrong_rank, too_long, wrong_letter, wrong_lanes, has_size, negative_in_A, wrong_at}
use Rattle.coxeter.specs.Checks.{wrong_entry, odd, odd_negatives, too_short, rank_refusal, word_refusal, window_refusal, WordOf}
use Rattle.coxeter.specs.NormalForm.{down, rise, fall, block, without, index_of, rest_of, normal_from, normal_form}
use Rattle.coxeter.specs.Calls.{answer_of, verdict_of, front, written, writes, window_of_word, product_of_windows, inverse_of_window, normal_form_of_window}
use Rattle.coxeter.specs.Calls.{normal_form_of_word, product_of_words, inverse_of_word, length_of_window, length_of_word, same_entry, same_window}
use Rattle.coxeter.specs.Calls.{equal_words, same_presets, presets_equal, hands_back, choice, Outcome, lanes_of, counted_of, crossings_of_window, crossings_of_word}
use Rattle.coxeter.proofs.Order.{same_window_of_eq}
use Rattle.coxeter.proofs.TestLaws.{impossible}
use Rattle.rules.specs.Rules.{concat_map, family1, family2, family3, family4, families5to7, rules, begins, fits, first_fitting, rewritten}
use Rattle.rules.specs.Calls.{past_end, rewrite_by, rewrite_at}
use Rattle.shortest_words.specs.Fallback.{some_subword, is_fallback}
use Rattle.shortest_words.specs.Descents.{is_descent}
use Rattle.shortest_words.specs.Split.{lowest, stripped, rest_inverse, first_word, second_word}
use Rattle.shortest_words.specs.SplitCalls.{split_of, split_outcome, splitting}
use Rattle.shortest_words.specs.Calls.{fallback_of, fallback_answer}
use Rattle.shortest_words.specs.Allowed.{over, allows, wrong_set, set_refusal}
use Rattle.shortest_words.specs.Between.{between, reachable}
use Rattle.shortest_words.specs.BetweenCalls.{unreachable, between_refusal, between_windows}
use Rattle.traces.specs.Traces.{lowest_from, lowest_redex, trace_within, trace, too_few_places, to_end_of, traced_by, rewriting_to_end, number_of_steps}
use Rattle.distribution.specs.AllWindows.{keep, lists}
use Rattle.distribution.specs.AllWindows as all
use Rattle.distribution.specs.Distribution.{of_length, distribution, sum}
use Rattle.distribution.specs.Longest.{all_negative, longest}
use Rattle.distribution.specs.Calls.{untabled, table_refusal, table_of, room_refusal, delay_table}
use Rattle.distribution.specs.Calls as tabling
use Rattle.book_format.specs.Books.{two_at, two, count, trailer, offset, wrong_size, wrong_count, misplaced_from, misplaced, no_such_preset}
use Rattle.book_format.specs.Books.{too_large, retired, wrong_rank_in_book, wrong_lane_count, book_rank_refusal, book_refusal, record_refusal}
use Rattle.book_format.specs.Books.{preset_refusal, record_of, appended, append_refusal}
use Rattle.book_format.specs.Calls.{opened_of, preset_of, checked_book, preset_at, checked_preset, letters_start, letters_of, appending}
use Rattle.book_format.specs.Calls.{fields_of, preset_fields, run_length, reading_presets}
use Rattle.book_format.specs.Records.{record_bytes, offset_bytes, lay_out, records_from, records_of}
use Rattle.book_format.specs.Conversion.{converted, too_many_lanes, record_conversion_refusal, records_conversion_refusal, conversion_refusal, converting}
use Rattle.listing_text.specs.Text.{digits, decimal, spaced, letters, entry, entries, kind_letter, head, tail, preset_line, refused}
use Rattle.listing_text.specs.Text.{refused_line, refused_book_line, count_line, word_line, line_by, line_of}
use Rattle.listing_text.specs.Calls.{line_count_by, line_count, first_line, line, lines, fitting, next_piece}
use Rattle.messages.specs.Messages.{codes_from, codes, messages, message, refusal_message}
use Rattle.book_format.proofs.BookLaws.{accepted}
use Rattle.book_format.proofs.Vectors.{too_large_book, appending_too_large, converting_too_large}
use Rattle.examples.proofs.WrongBooks.{book_of65536_bytes, room_before_the_size_limit, size_limit_of_the_old_book}
use Rattle.examples.proofs.WrongTraces.{behind_last, ones}
use Rattle.examples.proofs.WrongAnswers as told
use Rattle.examples.proofs.WrongAnswers.{Result, WrongRouter, table, further}

-- ---- the test

-- the numbers of an answer: which case it is, and its values
of_answer : Answer → List ℤ
of_answer (answers.Length l) = pos 0 ∷ pos l ∷ []
of_answer (answers.Refused r) = pos 1 ∷ pos r ∷ []

of_verdict : Verdict → List ℤ
of_verdict verdicts.Yes = pos 0 ∷ []
of_verdict verdicts.No = pos 1 ∷ []
of_verdict (verdicts.Refused r) = pos 2 ∷ pos r ∷ []

of_choice : Choice → List ℤ
of_choice choices.First = pos 0 ∷ []
of_choice choices.Second = pos 1 ∷ []
of_choice choices.Neither = pos 2 ∷ []

of_counted : Counted → List ℤ
of_counted (counts.Crossings i p m) = pos 0 ∷ pos i ∷ pos p ∷ pos m ∷ []
of_counted (counts.Refused r) = pos 1 ∷ pos r ∷ []

of_lanes : Lanes → List ℤ
of_lanes (lane_counts.Count m) = pos 0 ∷ pos m ∷ []
of_lanes (lane_counts.Refused r) = pos 1 ∷ pos r ∷ []

of_rewrite : Rewrite → List ℤ
of_rewrite (rewrites.Used f i j l) = pos 0 ∷ pos f ∷ pos i ∷ pos j ∷ pos l ∷ []
of_rewrite rewrites.NoneFits = pos 1 ∷ []
of_rewrite (rewrites.Refused r) = pos 2 ∷ pos r ∷ []

of_end : ToEnd → List ℤ
of_end (ends.Ended s l) = pos 0 ∷ pos s ∷ pos l ∷ []
of_end (ends.Refused r) = pos 1 ∷ pos r ∷ []

of_fallback : Fallback → List ℤ
of_fallback (fallbacks.Kept l) = pos 0 ∷ pos l ∷ []
of_fallback fallbacks.No = pos 1 ∷ []
of_fallback (fallbacks.Refused r) = pos 2 ∷ pos r ∷ []

of_split : Split → List ℤ
of_split (splits.Words a b) = pos 0 ∷ pos a ∷ pos b ∷ []
of_split (splits.Refused r) = pos 1 ∷ pos r ∷ []

of_table : Table → List ℤ
of_table (tables.Written c e l) = pos 0 ∷ pos c ∷ pos e ∷ pos l ∷ []
of_table (tables.Refused r) = pos 1 ∷ pos r ∷ []

of_opened : Opened → List ℤ
of_opened (books.Presets c) = pos 0 ∷ pos c ∷ []
of_opened (books.Refused r) = pos 1 ∷ pos r ∷ []

of_preset : Preset → List ℤ
of_preset (presets.Found k n s l) = pos 0 ∷ pos k ∷ pos n ∷ pos s ∷ pos l ∷ []
of_preset (presets.Refused r) = pos 1 ∷ pos r ∷ []

of_presets : List Preset → List ℤ
of_presets [] = []
of_presets (p ∷ ps) = of_preset p ++ of_presets ps

of_piece : Piece → List ℤ
of_piece p = pos p.next ∷ pos p.end ∷ pos p.left ∷ []

-- the numbers of all that is told
numbers : Result → List ℤ
numbers (told.entries o) = of_answer o.answer ++ o.bytes
numbers (told.bytes o) = of_answer o.answer ++ map pos o.bytes
numbers (told.rewrite s) = of_rewrite s.answer ++ map pos (s.outputs ++ s.word)
numbers (told.traced t) = of_end t.answer ++ map pos ((t.families ++ t.places) ++ (t.lengths ++ t.bytes))
numbers (told.tabled t) = (of_table t.answer ++ map pos t.counts) ++ (t.entries ++ map pos t.letters)
numbers (told.split p) = of_split p.answer ++ map pos (p.first ++ p.second)
numbers (told.piece p) = of_piece p.answer ++ map pos p.bytes
numbers (told.answer a) = of_answer a
numbers (told.verdict v) = of_verdict v
numbers (told.choice c) = of_choice c
numbers (told.counted c) = of_counted c
numbers (told.lane_count l) = of_lanes l
numbers (told.fallback f) = of_fallback f
numbers (told.opened o) = of_opened o
numbers (told.preset p) = of_preset p
numbers (told.run r) = of_opened r.0 ++ (pos r.1 ∷ of_presets r.2)
numbers (told.number r) = pos r ∷ []
numbers (told.part p) = pos p.0 ∷ map pos p.1
numbers (told.text t) = map pos t

-- the test of a row
differs : WrongRouter → Bool
differs r = not (same_window (numbers r.right) (numbers r.wrong))

-- a row that passes is wrong
sound : (r : WrongRouter) → differs r ≡ true → r.right ≡ r.wrong → ⊥
unfolding differs
sound r h e = true≢false (sym h ∙ ap not (same_window_of_eq (numbers r.right) (numbers r.wrong) (ap numbers e)))

-- ---- the table

all_differ : List WrongRouter → Bool
all_differ [] = true
all_differ (r ∷ rs) = differs r && all_differ rs

-- the one computed fact, with the definitions that the rows pass through, layer by layer
all-differ : all_differ table ≡ true
unfolding table all_differ differs numbers of_answer of_verdict of_choice of_rewrite of_end of_fallback of_split of_table of_opened of_preset of_piece
    kind_of up from swap negate_first swap_negate act window_from identity window at product signed place_from inverse
    later negative one later_than inversions negative_sum_pairs negatives crossings total window_length before shortlex
    wrong_kind wrong_rank too_long wrong_letter wrong_lanes has_size negative_in_A wrong_at wrong_entry odd odd_negatives too_short
    rank_refusal word_refusal window_refusal
    down rise fall block without index_of rest_of normal_from normal_form
    answer_of verdict_of front written writes window_of_word product_of_windows inverse_of_window normal_form_of_window normal_form_of_word product_of_words inverse_of_word
    length_of_window length_of_word same_entry same_window equal_words same_presets presets_equal hands_back choice
    concat_map family1 family2 family3 family4 families5to7 rules begins fits first_fitting rewritten past_end rewrite_by rewrite_at
    lowest_from lowest_redex trace_within trace too_few_places to_end_of traced_by rewriting_to_end number_of_steps behind_last ones
    some_subword is_fallback fallback_of fallback_answer
    is_descent allows wrong_set set_refusal lowest stripped rest_inverse first_word second_word split_of split_outcome splitting
    over between reachable unreachable between_refusal between_windows
    keep all.cons_all lists all.possible_entries all.windows of_length distribution sum all_negative longest
    untabled table_refusal table_of room_refusal tabling.tables delay_table
    two_at two count trailer offset wrong_size wrong_count misplaced_from misplaced no_such_preset too_large retired wrong_rank_in_book wrong_lane_count book_rank_refusal
    book_refusal record_refusal preset_refusal record_of appended append_refusal opened_of preset_of
    checked_book preset_at checked_preset letters_start letters_of appending
    record_bytes offset_bytes lay_out records_from records_of converted too_many_lanes record_conversion_refusal records_conversion_refusal conversion_refusal converting
    digits decimal spaced letters entry entries kind_letter head tail preset_line refused refused_line refused_book_line count_line word_line line_by line_of
    line_count_by line_count first_line line lines fitting next_piece
all-differ = refl

-- the same of the further rows, which pass through fewer
further-differ : all_differ further ≡ true
unfolding further all_differ differs numbers of_answer of_counted of_lanes of_opened of_preset of_presets
    kind_of up from swap negate_first swap_negate act window_from identity window at product signed place_from inverse
    later negative one later_than inversions negative_sum_pairs negatives crossings total window_length flipped
    wrong_kind wrong_rank too_long wrong_letter wrong_lanes has_size negative_in_A wrong_at wrong_entry odd odd_negatives too_short
    rank_refusal word_refusal window_refusal wrong_set set_refusal untabled table_refusal
    down rise fall block without index_of rest_of normal_from normal_form
    answer_of front written writes lanes_of counted_of crossings_of_window crossings_of_word same_entry same_window
    two_at two count trailer offset wrong_size wrong_count misplaced_from misplaced no_such_preset retired wrong_rank_in_book wrong_lane_count book_rank_refusal
    book_refusal record_refusal preset_refusal opened_of preset_of
    checked_book preset_at checked_preset letters_start letters_of fields_of preset_fields run_length reading_presets
    digits decimal refused refused_book_line codes_from codes messages message refusal_message
further-differ = refl

all_sound : (rs : List WrongRouter) → all_differ rs ≡ true → (r : WrongRouter) → Memᴰ r rs → r.right ≡ r.wrong → ⊥
unfolding all_differ
all_sound [] h r m = absurd (Memᴰ.not-nil m)
all_sound (x ∷ rs) h r m =
    let t = (and-eq-true_iff (differs x) (all_differ rs)).0 h in
    ⊎_elim (λ q. sound r (ap differs q ∙ t.0)) (all_sound rs t.1 r) (Memᴰ.cases_cons m)

-- what a wrong router of the table returns is not what the call returns
pub ruled_out : (r : WrongRouter) → Memᴰ r table → r.right ≡ r.wrong → ⊥
ruled_out = all_sound table all-differ

-- so many rows, lest one be lost
pub table-length : length table ≡ 125
unfolding table
table-length = refl

-- nor is what a wrong router of the further rows returns
pub further_ruled_out : (r : WrongRouter) → Memᴰ r further → r.right ≡ r.wrong → ⊥
further_ruled_out = all_sound further further-differ

-- so many of them
pub further-length : length further ≡ 34
unfolding further
further-length = refl

-- ---- the largest book

opened_late : (s t : Bool) (c : ℕ) → opened_of (check 2 s then check 3 t) c ≡ books.Refused 1 → ⊥
unfolding opened_of
opened_late true t c e = let z : ◌≡◌ {A = ℕ} 2 1 = cc in omega arith
opened_late false true c e = let z : ◌≡◌ {A = ℕ} 3 1 = cc in omega arith
opened_late false false c e = impossible (cc)

-- every book of 65,536 bytes rules this one out
pub book_of65536_bytes_ruled_out : (ed : Edition) (b : List ℕ) → length b ≡ 65536 → checked_book ed b ≡ book_of65536_bytes ed b → ⊥
book_of65536_bytes_ruled_out ed b e h =
    opened_late (wrong_count b) (misplaced ed b) (count b) (rw e at (sym h) ∙ too_large_book ed b e)

-- and every preset that would make an accepted book larger than 65,535 bytes rules this one out, if the output is
-- shorter than the new book
pub room_before_the_size_limit_ruled_out : (ed : Edition) (b : List ℕ) (k n : ℕ) (u out : List ℕ)
    → book_refusal ed b ≡ 0 → book_rank_refusal ed k n ≡ 0 → WordOf n u → retired k n ≡ false
    → 65535 < length (appended ed b k n u) → length out < length (appended ed b k n u)
    → appending ed b k n u out ≡ room_before_the_size_limit ed b k n u out → ⊥
unfolding writes answer_of too_short
room_before_the_size_limit_ruled_out ed b k n u out e f g o large short h =
    let w : (room_before_the_size_limit ed b k n u out).answer ≡ answers.Refused 14 = rw (lt-ltb (length out) (length (appended ed b k n u)) short) in
    let r = ap (λ (o : Outcome ℕ). o.answer) (appending_too_large ed b k n u out e f g o large) in
    let z : ◌≡◌ {A = ℕ} 13 14 = cc (ap (λ (o : Outcome ℕ). o.answer) h) in
    omega arith

-- and every accepted book of the first edition that would grow beyond 65,535 bytes rules this one out, if the output
-- has room
pub size_limit_of_the_old_book_ruled_out : (b out : List ℕ) → book_refusal First b ≡ 0 → records_conversion_refusal First b (count b) 0 ≡ 0
    → 65535 < length b + count b → length (converted First b) ≤ length out → converting First b out ≡ size_limit_of_the_old_book First b out → ⊥
unfolding writes answer_of too_short too_large
size_limit_of_the_old_book_ruled_out b out e f large room h =
    let a = accepted First b e in
    let m : length b ≤ 65535 = omega arith in
    let w : (size_limit_of_the_old_book First b out).answer ≡ answers.Length (length (converted First b)) =
    rw (e, f, le-ltb 65535 (length b) m, le-ltb (length out) (length (converted First b)) room) in
    let r = ap (λ (o : Outcome ℕ). o.answer) (converting_too_large b out e f large) in
    impossible (cc (ap (λ (o : Outcome ℕ). o.answer) h))
