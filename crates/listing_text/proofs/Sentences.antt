-- The listing in plain terms (P3 to P9 of the specification), of what a call on a book answered and the bytes that
-- it left.
--
-- Sections: a book of no bytes; the line of a preset; appending; converting; kind A at rank 1.
-- Assumes nothing.
use mathlib.Core.Path.{◌≡◌, refl, sym, ap, ◌∙◌}
use mathlib.Core.List.{List, [], ◌∷◌, ◌++◌, append_assoc, append-nil}
use Prim.Native.Nat.{ℕ, zero, suc, ◌+◌, ◌-◌, ◌≤◌, ◌<◌}
use native.Mathlib.Nat.{add-zero, zero-add, add-suc, suc-add}
use native.Mathlib.Numerals.{add-one}
use native.Mathlib.Omega.{arith}
use lib.ListN.{length, take, drop}
use Rattle.coxeter.specs.answers.Answer.{Length}
use Rattle.coxeter.specs.declared.Kind.TheVariants.{A}
use Rattle.coxeter.specs.Kinds.{kind_of}
use Rattle.coxeter.specs.Checks.{WordOf}
use Rattle.coxeter.specs.Calls.{Yields}
use Rattle.book_format.specs.declared.Edition.{Edition}
use Rattle.book_format.specs.answers.Preset.{Preset}
use Rattle.book_format.specs.answers.Preset as preset
use Rattle.book_format.specs.Books.{count, offset, kind_at, rank_at, lanes_at, letters_at, book_refusal}
use Rattle.book_format.specs.Calls.{checked_preset, letters_of, appending}
use Rattle.book_format.specs.Conversion.{other, converting}
use Rattle.book_format.proofs.PresetLaws.{checked_book_presets, found, letters_of-found}
use Rattle.book_format.proofs.Converting.{conversion_opens}
use Rattle.book_format.proofs.NoBytes.{opening_no_bytes}
use Rattle.book_format.proofs.Sentences.{append_opens, append_last, append-before, convert_answers, convert_opens, convert_preset}
use Rattle.book_format.proofs.ReadingSentences.{rank_1_read}
use Rattle.listing_text.specs.Text.{digits, decimal, presets_text, count_line, refused_line, word_line, line_by, line_of, lines_from, listing_by, listing}
use Rattle.listing_text.specs.Calls.{line_count_by, line_count, first_line, line, fitting, next_piece, pieces, reached}
use Rattle.listing_text.proofs.Pieces.{fitting_more, pieces_whole}
use Rattle.listing_text.proofs.Examples.{listing_of_no_bytes}

-- ---- a book of no bytes

-- P9
pub no_bytes-listed : (ed : Edition) → listing ed [] ≡ presets_text ++ (48 ∷ 10 ∷ [])
unfolding count_line decimal digits
no_bytes-listed ed = listing_of_no_bytes ed

-- P9, I32: and one call with room for that line writes it
line-count : (ed : Edition) → line_count ed [] ≡ 1
unfolding line_count line_count_by
line-count ed = ap line_count_by (opening_no_bytes ed)

line_zero : (ed : Edition) → line ed [] 0 ≡ presets_text ++ (48 ∷ 10 ∷ [])
unfolding line first_line count_line decimal digits
line_zero ed = ap first_line (opening_no_bytes ed)

one_line : (ed : Edition) (out : List ℕ) → 10 ≤ length out → line_count ed [] ≤ reached ed [] 0 (out ∷ [])
unfolding reached next_piece
one_line ed out h =
    let m = length out in
    let room : length (line ed [] 0) ≤ m = rw (line_zero ed) h in
    let one : fitting ed [] 1 0 m ≡ suc (fitting ed [] 0 1 (m - length (line ed [] 0))) = fitting_more ed [] 0 0 m room in
    rw (line-count ed, one) (omega arith)

-- P9, I32
pub no_bytes_printed : (ed : Edition) (out : List ℕ) → 10 ≤ length out → pieces ed [] 0 (out ∷ []) ≡ presets_text ++ (48 ∷ 10 ∷ [])
no_bytes_printed ed out h = pieces_whole ed [] (out ∷ []) (one_line ed out h) ∙ no_bytes-listed ed

-- ---- the line of a preset

-- P4: by what reading it answers
pub line-found : (ed : Edition) (b : List ℕ) (i k n s m : ℕ) → checked_preset ed b i ≡ preset.Found k n s m
    → line_of ed b i ≡ word_line i (kind_of k) n (letters_of ed b i)
unfolding line_of line_by
line-found ed b i k n s m e =
    let d : s + m - s ≡ m = omega arith in
    let w : take m (drop s b) ≡ letters_of ed b i = rw d at (letters_of-found (found (sym e))) in
    ap (line_by b i) e ∙ ap (word_line i (kind_of k) n) w

-- P7: by what reading it answers
pub line_refused : (ed : Edition) (b : List ℕ) (i r : ℕ) → checked_preset ed b i ≡ preset.Refused r → line_of ed b i ≡ refused_line i r
unfolding line_of line_by
line_refused ed b i r e = ap (line_by b i) e

-- P4: one preset more is one line more behind the others
pub lines_snoc : (ed : Edition) (b : List ℕ) (t i : ℕ) → lines_from ed b (suc t) i ≡ lines_from ed b t i ++ line_of ed b (i + t)
unfolding lines_from
lines_snoc ed b zero i = rw (add-zero i) (append-nil (line_of ed b i))
lines_snoc ed b (suc t) i =
    ap (λ (l : List ℕ). line_of ed b i ++ l) (lines_snoc ed b t (suc i))
    ∙ sym (append_assoc (line_of ed b i) (lines_from ed b t (suc i)) (line_of ed b (suc i + t)))
    ∙ rw (add-suc i t, ← suc-add i t)

-- two books whose lines agree one by one
lines_same : (ed ed' : Edition) (b d : List ℕ) (c t i : ℕ) → i + t ≤ c → ((j : ℕ) → j < c → line_of ed' d j ≡ line_of ed b j)
    → lines_from ed' d t i ≡ lines_from ed b t i
unfolding lines_from
lines_same ed ed' b d c zero i h p = refl
lines_same ed ed' b d c (suc t) i h p = rw (p i (omega arith), lines_same ed ed' b d c t (suc i) (omega arith) p)

-- ---- appending

module _ (ed : Edition) (b : List ℕ) (k n : ℕ) (u before after : List ℕ) (l : ℕ) (c : Yields (appending ed b k n u before) (Length l) after) where
  -- B20, P4: the line of each preset before is that of the old book
  pub append-line : (i : ℕ) → i < count b → line_of ed (take l after) i ≡ line_of ed b i
  append-line i h =
      let q = append-before ed b k n u before after l c i h in
      append-line_by_answer (checked_preset ed b i) refl q.0 q.1
    where
      append-line_by_answer : (p : Preset) → p ≡ checked_preset ed b i → checked_preset ed (take l after) i ≡ checked_preset ed b i
          → letters_of ed (take l after) i ≡ letters_of ed b i
          → line_of ed (take l after) i ≡ line_of ed b i
      append-line_by_answer (preset.Found x y s m) e f g =
          line-found ed (take l after) i x y s m (f ∙ sym e) ∙ ap (word_line i (kind_of x) y) g ∙ sym (line-found ed b i x y s m (sym e))
      append-line_by_answer (preset.Refused r) e f g = line_refused ed (take l after) i r (f ∙ sym e) ∙ sym (line_refused ed b i r (sym e))

  -- B18, B19, P3: the listing of the new book: its count, the lines of the old one, and the line of the preset
  -- appended
  pub append-listed : listing ed (take l after) ≡ count_line (count b + 1) ++ (lines_from ed b (count b) 0 ++ word_line (count b) (kind_of k) n u)
  unfolding listing listing_by
  append-listed =
      let d = take l after in
      let last = append_last ed b k n u before after l c in
      ap (listing_by ed d) (append_opens ed b k n u before after l c).1
      ∙ ap (λ (t : List ℕ). count_line (count b + 1) ++ t)
      (rw (add-one (count b))
      (lines_snoc ed d (count b) 0
      ∙ rw (zero-add (count b), lines_same ed ed b d (count b) (count b) 0 (omega arith) append-line)
      (ap (λ (t : List ℕ). lines_from ed b (count b) 0 ++ t)
      (line-found ed d (count b) k n _ (length u) last.0 ∙ ap (word_line (count b) (kind_of k) n) last.1))))

-- ---- converting

-- P2, B24: of the book that converting left, the lines are those of the first book
pub convert_listed : (ed : Edition) (b before after : List ℕ) (l : ℕ) → Yields (converting ed b before) (Length l) after
    → listing (other ed) (take l after) ≡ listing ed b
unfolding listing listing_by
convert_listed ed b before after l c =
    let d = take l after in
    let z = conversion_opens ed b ((convert_answers ed b before after (Length l) c l).0 refl).0 in
    ap (listing_by (other ed) d) (convert_opens ed b before after l c).1
    ∙ ap (λ (t : List ℕ). count_line (count b) ++ t) (lines_same ed (other ed) b d (count b) (count b) 0 (omega arith) same)
    ∙ sym (ap (listing_by ed b) (checked_book_presets ed b (book_refusal ed b) (count b) refl z refl))
  where
    same : (i : ℕ) → i < count b → line_of (other ed) (take l after) i ≡ line_of ed b i
    same i h =
        let p = convert_preset ed b before after l c i h in
        line-found (other ed) (take l after) i p.kind p.rank p.start' p.size p.found'
        ∙ ap (word_line i (kind_of p.kind) p.rank) (sym p.letters)
        ∙ sym (line-found ed b i p.kind p.rank p.start p.size p.found)

-- ---- kind A at rank 1

-- B23: preset i is of kind A and rank 1, with its lane count, 2, and with letters that pass
pub rank_1_listed : (ed : Edition) (b : List ℕ) (i : ℕ) → book_refusal ed b ≡ 0 → i < count b → kind_at b (offset b i) ≡ 1 → rank_at b (offset b i) ≡ 1
    → lanes_at ed b (offset b i) ≡ 2 → WordOf 1 (letters_at ed b (offset b i)) → line_of ed b i ≡ word_line i A 1 (letters_at ed b (offset b i))
unfolding kind_of
rank_1_listed ed b i z h k n m w =
    let p = rank_1_read ed b i z h k n m w in
    line-found ed b i 1 1 _ _ p.0 ∙ ap (word_line i A 1) p.1
