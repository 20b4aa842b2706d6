-- Every line of a listing has at most 16,896 bytes, by the ranges of its fields. So a call with a buffer of that
-- many bytes writes a line where one is left.
--
-- Sections: letters and entries; lines of presets; every line; progress.
-- Assumes nothing.
use mathlib.Core.Path.{◌≡◌, refl, sym}
use mathlib.Core.Bool.{false}
use mathlib.Core.List.{List, [], ◌∷◌}
use Prim.Native.Nat.{ℕ, zero, suc, ◌+◌, ◌-◌, ◌*◌, ◌^◌, ◌≤◌, ◌<◌}
use native.Mathlib.Nat.{lt_of_not-le}
use native.Mathlib.Omega.{arith}
use lib.IntN.{ℤ, pos, negsuc, nat_abs}
use lib.ListN.{length, take, drop, length-append}
use Rattle.coxeter.specs.declared.Kind.{Kind}
use Rattle.coxeter.specs.Kinds.{kind_of}
use Rattle.coxeter.specs.Windows.{window}
use Rattle.coxeter.specs.Checks.{wrong_letter, RankOf}
use Rattle.coxeter.specs.NormalForm.{word_normal_form}
use Rattle.coxeter.proofs.Acceptance.{rank_accepted}
use Rattle.coxeter.proofs.Fronts.{length-window_le, length_form_le}
use Rattle.coxeter.proofs.Levels.{Between, window_accepted}
use Rattle.coxeter.proofs.LetterLaws.{letter_within_cons}
use Rattle.coxeter.proofs.NormalForms.{normal_form-letters}
use Rattle.book_format.specs.declared.Edition.{Edition}
use Rattle.book_format.specs.answers.Opened.{Opened}
use Rattle.book_format.specs.answers.Opened as opened
use Rattle.book_format.specs.answers.Preset.{Preset}
use Rattle.book_format.specs.answers.Preset as preset
use Rattle.book_format.specs.Calls.{checked_book, checked_preset}
use Rattle.book_format.proofs.BookLaws.{accepted}
use Rattle.book_format.proofs.Outcomes.{book_refusal_le, preset_refusal_le}
use Rattle.book_format.proofs.PresetLaws.{checked_book_exactly, presets_opened, found, found_rank, refused_is}
use Rattle.listing_text.specs.declared.Piece.{Piece}
use Rattle.listing_text.specs.Text.{spaced, letters, entry, entries, head, tail, preset_line, refused}
use Rattle.listing_text.specs.Text.{refused_line, refused_book_line, count_line, word_line, line_by, line_of}
use Rattle.listing_text.specs.Calls.{line_count_by, line_count, first_line, line, next_piece}
use Rattle.listing_text.proofs.Decimals.{length-decimal_byte, length-decimal_word}
use Rattle.listing_text.proofs.Pieces.{fitting_more}

-- room for 4,096 letters, 64 entries and five numbers of 64 bits
abbrev pub longest : ℕ
longest = 16896

-- ---- letters and entries

length-letters_le : (n : ℕ) (u : List ℕ) → n < 256 → wrong_letter n u ≡ false → length (letters u) ≤ 4 * length u
unfolding letters spaced
length-letters_le n [] h g = omega arith
length-letters_le n (x ∷ u) h g =
    let w = letter_within_cons n x u g in
    let l = length-letters_le n u h w.2 in
    rw (length-append (spaced x) (letters u)) (omega (arith, length-decimal_byte x (omega (arith, w.1))))

length-entry_le : (e : ℤ) → nat_abs e < 256 → length (entry e) ≤ 5
unfolding entry spaced
length-entry_le (pos x) h = omega (arith, length-decimal_byte x h)
length-entry_le (negsuc x) h = omega (arith, length-decimal_byte (suc x) h)

length-entries_le : (c : ℕ) (w : List ℤ) → c ≤ 256 → Between 1 c w → length (entries w) ≤ 5 * length w
unfolding entries
length-entries_le c [] h g = omega arith
length-entries_le c (e ∷ w) h g =
    let l = length-entries_le c w h g.2 in
    rw (length-append (entry e) (entries w)) (omega (arith, length-entry_le e (omega (arith, g.1))))

-- ---- lines of presets

length-head_le : (i : ℕ) (k : Kind) (n l : ℕ) → i < 2 ^ 64 → n < 256 → l < 2 ^ 64 → length (head i k n l) ≤ 48
unfolding head spaced
length-head_le i k n l h g f =
    simp length-append (omega (arith, length-decimal_word i h, length-decimal_byte n g, length-decimal_word l f))

length-word_line_le : (i k n : ℕ) (u : List ℕ) → i < 2 ^ 64 → RankOf k n → length (word_line i (kind_of k) n u) ≤ longest
unfolding word_line preset_line tail
length-word_line_le i k n u h g =
    let w = window (kind_of k) n u in
    let v = word_normal_form (kind_of k) n u in
    let a = window_accepted (kind_of k) n u in
    let small = (rank_accepted k n g).1 in
    let m = length-window_le k n u g in
    let l = length_form_le k n u g in
    let first = length-head_le i (kind_of k) n (length v) h (omega arith) (omega arith) in
    let second = length-letters_le n v (omega arith) (normal_form-letters (kind_of k) n w a) in
    let third = length-entries_le (1 + length w) w (omega arith) a.level.between in
    simp length-append (omega arith)

-- ---- every line

-- what opening a book answered
refused_opened : (ed : Edition) (b : List ℕ) (r : ℕ) → opened.Refused r ≡ checked_book ed b → r ≤ 3
refused_opened ed b r e = omega (arith, book_refusal_le ed b, (((checked_book_exactly ed b).0 r).0 (sym e)).0)

-- at most so many presets, since each has two bytes in the trailer
presets_le : (ed : Edition) (b : List ℕ) (c : ℕ) → opened.Presets c ≡ checked_book ed b → c ≤ 32767
presets_le ed b c e =
    let p = presets_opened ed b c e in
    let a = accepted ed b p.0 in
    omega (arith, p.1)

pub line_count_le : (ed : Edition) (b : List ℕ) → line_count ed b ≤ 32768
unfolding line_count line_count_by
line_count_le ed b = line_count_le_by_answer (checked_book ed b) refl
  where
    line_count_le_by_answer : (o : Opened) → o ≡ checked_book ed b → line_count_by o ≤ 32768
    line_count_le_by_answer (opened.Presets c) e = omega (arith, presets_le ed b c e)
    line_count_le_by_answer (opened.Refused r) e = omega arith

length-first_line_le : (ed : Edition) (b : List ℕ) → length (first_line (checked_book ed b)) ≤ 29
unfolding first_line count_line refused_book_line refused
length-first_line_le ed b = length-first_line_le_by_answer (checked_book ed b) refl
  where
    length-first_line_le_by_answer : (o : Opened) → o ≡ checked_book ed b → length (first_line o) ≤ 29
    length-first_line_le_by_answer (opened.Presets c) e =
        let l = presets_le ed b c e in
        simp length-append (omega (arith, length-decimal_word c (omega arith)))
    length-first_line_le_by_answer (opened.Refused r) e =
        let l = refused_opened ed b r e in
        simp length-append (omega (arith, length-decimal_byte r (omega arith)))

length-line_of_le : (ed : Edition) (b : List ℕ) (i : ℕ) → i < 2 ^ 64 → length (line_of ed b i) ≤ longest
unfolding line_of line_by refused_line refused
length-line_of_le ed b i h = length-line_of_le_by_answer (checked_preset ed b i) refl
  where
    length-line_of_le_by_answer : (p : Preset) → p ≡ checked_preset ed b i → length (line_by b i p) ≤ longest
    length-line_of_le_by_answer (preset.Found k n s l) e = length-word_line_le i k n (take l (drop s b)) h (found_rank (found e))
    length-line_of_le_by_answer (preset.Refused r) e =
        let l = preset_refusal_le ed b i in
        let q = refused_is ed b i r e in
        simp length-append (omega (arith, length-decimal_word i h, length-decimal_byte r (omega arith)))

pub length-line_le : (ed : Edition) (b : List ℕ) (i : ℕ) → i < line_count ed b → length (line ed b i) ≤ longest
unfolding line
length-line_le ed b zero h = omega (arith, length-first_line_le ed b)
length-line_le ed b (suc i) h = length-line_of_le ed b i (omega (arith, line_count_le ed b))

-- ---- progress

pub piece_progress : (ed : Edition) (b : List ℕ) (i : ℕ) (out : List ℕ) → i < line_count ed b → longest ≤ length out → i < (next_piece ed b i out).answer.next
unfolding next_piece
piece_progress ed b i out h g =
    let l = length-line_le ed b i h in
    let e : line_count ed b - i ≡ suc (line_count ed b - suc i) = omega arith in
    rw (e, fitting_more ed b (line_count ed b - suc i) i (length out) (omega arith)) (omega arith)

left_le : (ed : Edition) (b : List ℕ) (i : ℕ) (out : List ℕ) (p : Piece) → p ≡ (next_piece ed b i out).answer → p.left ≤ line_count ed b - i
unfolding next_piece
left_le ed b i out p e = rw e (omega arith)

-- where lines are left after a piece, they are fewer than before it
pub piece_falls : (ed : Edition) (b : List ℕ) (i : ℕ) (out : List ℕ) (p : Piece) → p ≡ (next_piece ed b i out).answer → longest ≤ length out → (p.left ≡ 0 → ⊥)
    → line_count ed b - p.next < line_count ed b - i
piece_falls ed b i out p e g f =
    let l = left_le ed b i out p e in
    let more : i < line_count ed b = lt_of_not-le (λ h. f (omega arith)) in
    let on = piece_progress ed b i out more g in
    rw e (omega arith)
