-- The text of the listing field by field (P3 to P8 and P11 of the specification): numbers in decimal, the letters and
-- the entries with their spaces, the fields of a line, the lines of a listing in their order, and the line that no
-- edition takes for a book.
--
-- Sections: numbers; fields; lines; the listing; a refused conversion.
-- Assumes nothing.
use mathlib.Core.Path.{◌≡◌, refl, sym, ap, ◌∙◌}
use mathlib.Core.List.{List, [], ◌∷◌, ◌++◌, map, append_assoc, append-nil}
use Prim.Native.Nat.{ℕ, suc, ◌+◌, ◌-◌, ◌*◌, ◌/◌, ◌%◌, ◌≤◌, ◌<◌}
use Prim.Native.Char.{code}
use Prim.Native.String.{String, len, char_at}
use native.Mathlib.Decide.{dec_le}
use native.Mathlib.Nat.{zero-add}
use native.Mathlib.Numerals.{add-one}
use native.Mathlib.Omega.{arith}
use lib.IntN.{ℤ, pos, negsuc}
use lib.ListN.{length, take, drop, length-append}
use Rattle.coxeter.specs.declared.Kind.{Kind}
use Rattle.coxeter.specs.declared.Kind.TheVariants.{A, B, D}
use Rattle.coxeter.specs.Kinds.{kind_of, up}
use Rattle.coxeter.specs.Windows.{window}
use Rattle.coxeter.specs.NormalForm.{word_normal_form}
use Rattle.book_format.specs.declared.Edition.{Edition}
use Rattle.book_format.specs.answers.Opened as opened
use Rattle.book_format.specs.answers.Preset as preset
use Rattle.book_format.specs.Books.{count}
use Rattle.book_format.specs.Calls.{checked_book, checked_preset}
use Rattle.book_format.proofs.BookBytes.{low_byte_first}
use Rattle.book_format.proofs.OpenedExactly.{refused_2_exactly}
use Rattle.listing_text.specs.Text.{decimal, spaced, letters, entry, entries, kind_letter, head, tail, preset_line, refused_text, book_text}
use Rattle.listing_text.specs.Text.{refused, refused_line, refused_book_line, count_line, word_line, line_by, line_of, lines_from, listing_by, listing}
use Rattle.listing_text.proofs.Decimals.{decimal_digit, decimal_more, length-decimal_byte}
use Rattle.listing_text.proofs.Sentences.{lines_snoc}

-- ---- numbers

-- P5: a number below 10 is one digit, and 10 x + d, with x at least 1, is the digits of x and then the digit d
pub decimal_exactly : ((x : ℕ) → x < 10 → decimal x ≡ (code "0" + x) ∷ [])
    × ((x d : ℕ) → 1 ≤ x → d < 10 → decimal (10 * x + d) ≡ decimal x ++ ((code "0" + d) ∷ []))
decimal_exactly = (
  decimal_digit,
  λ x d h g.
      let q : (10 * x + d) / 10 ≡ x = omega arith in
      let r : (10 * x + d) % 10 ≡ d = omega arith in
      rw (decimal_more (10 * x + d) (omega arith), q, r),
)

-- ---- fields

letters-append : (u v : List ℕ) → letters (u ++ v) ≡ letters u ++ letters v
unfolding letters
letters-append [] v = refl
letters-append (x ∷ u) v = rw (letters-append u v) (sym (append_assoc (spaced x) (letters u) (letters v)))

entries-append : (v w : List ℤ) → entries (v ++ w) ≡ entries v ++ entries w
unfolding entries
entries-append [] w = refl
entries-append (e ∷ v) w = rw (entries-append v w) (sym (append_assoc (entry e) (entries v) (entries w)))

-- P5: one space stands before each letter and before each entry, and a hyphen before a negative number
pub spaces_exactly : (letters [] ≡ [])
    × ((u v : List ℕ) → letters (u ++ v) ≡ letters u ++ letters v)
    × ((x : ℕ) → letters (x ∷ []) ≡ code " " ∷ decimal x)
    × (entries [] ≡ [])
    × ((v w : List ℤ) → entries (v ++ w) ≡ entries v ++ entries w)
    × ((x : ℕ) → entries (pos x ∷ []) ≡ code " " ∷ decimal x)
    × ((x : ℕ) → entries (negsuc x ∷ []) ≡ code " " ∷ code "-" ∷ decimal (x + 1))
unfolding letters entries entry spaced
spaces_exactly = (
  refl,
  letters-append,
  λ x. append-nil (32 ∷ decimal x),
  refl,
  entries-append,
  λ x. append-nil (32 ∷ decimal x),
  λ x. rw (add-one x) (append-nil (32 ∷ 45 ∷ decimal (suc x))),
)

-- P4, P5, P6: a line is the number, the kind, the rank, the length of the normal form u with a colon, u itself, a
-- bar, the window w and a line feed, with one space before each field but the first
pub line_fields : (i : ℕ) (k : Kind) (n : ℕ) (u : List ℕ) (w : List ℤ)
    → preset_line i k n u w
    ≡ decimal i
    ++ (code " " ∷ kind_letter k ∷ code " " ∷ (decimal n
    ++ (code " " ∷ (decimal (length u) ++ (code ":" ∷ (letters u ++ (code " " ∷ code "|" ∷ (entries w ++ (code "\n" ∷ [])))))))))
unfolding preset_line head tail spaced
line_fields i k n u w = simp append_assoc

-- K2, P4: the letters of the kinds
pub kind_letters : (kind_letter A ≡ code "A") × (kind_letter B ≡ code "B") × (kind_letter D ≡ code "D")
unfolding kind_letter
kind_letters = (refl, refl, refl)

-- ---- lines

-- P4: the line of a preset that is found has the normal form and the window of its letters
pub line_of_found : (ed : Edition) (b : List ℕ) (i k n s l : ℕ) → checked_preset ed b i ≡ preset.Found k n s l
    → let u = take l (drop s b) in line_of ed b i ≡ preset_line i (kind_of k) n (word_normal_form (kind_of k) n u) (window (kind_of k) n u)
unfolding line_of line_by word_line
line_of_found ed b i k n s l e = ap (line_by b i) e

-- P3, P7, P8: the first line of a listing, the line of a refused preset, and the line of a refused book
pub other-lines : let text : String → List ℕ = λ t. map (λ i. code (char_at t i)) (up 0 (len t)) in
    ((c : ℕ) → count_line c ≡ text "presets " ++ (decimal c ++ (code "\n" ∷ [])))
    × ((i r : ℕ) → refused_line i r ≡ decimal i ++ (text " refused " ++ (decimal r ++ (code "\n" ∷ []))))
    × ((r : ℕ) → refused_book_line r ≡ text "book refused " ++ (decimal r ++ (code "\n" ∷ [])))
unfolding up count_line refused_line refused_book_line refused
other-lines = (λ c. refl, λ i r. refl, λ r. refl)

-- ---- the listing

-- P1, P3, P8: the listing of a book that opens is the line of its count and then the lines of its presets, and that
-- of a refused book is the line of its refusal alone
pub listing_exactly : (ed : Edition) (b : List ℕ)
    → ((c : ℕ) → checked_book ed b ≡ opened.Presets c → listing ed b ≡ count_line c ++ lines_from ed b c 0)
    × ((r : ℕ) → checked_book ed b ≡ opened.Refused r → listing ed b ≡ refused_book_line r)
unfolding listing listing_by
listing_exactly ed b = (λ c e. ap (listing_by ed b) e, λ r e. ap (listing_by ed b) e)

-- P4: one line for each preset, in order
pub lines_in_order : (ed : Edition) (b : List ℕ)
    → (lines_from ed b 0 0 ≡ []) × ((t : ℕ) → lines_from ed b (t + 1) 0 ≡ lines_from ed b t 0 ++ line_of ed b t)
unfolding lines_from
lines_in_order ed b = (refl, λ t. rw (add-one t) (lines_snoc ed b t 0 ∙ rw (zero-add t)))

-- ---- a refused conversion

last_digit : (x : ℕ) → (v : List ℕ) × (d : ℕ) × (decimal x ≡ v ++ ((48 + d) ∷ []))
last_digit x = elim (dec_le 10 x) [ yes h ↦ (decimal (x / 10), x % 10, decimal_more x h) | no f ↦ ([], x, decimal_digit x (omega arith)) ]

-- a short line that ends with the byte d and a line feed has too great a count
short-line : (ed : Edition) (b x : List ℕ) (d : ℕ) → b ≡ x ++ (d ∷ 10 ∷ []) → length b < 5000 → checked_book ed b ≡ opened.Refused 2
unfolding count
short-line ed b x d e h =
    let l : length b ≡ length x + 2 = ap length e ∙ length-append x (d ∷ 10 ∷ []) in
    let p : length b - 2 ≡ length x = omega arith in
    let c : count b ≡ d + 256 * 10 = rw (p, e) ((low_byte_first d 10).0 x []) in
    (refused_2_exactly ed b).1 (omega arith, omega arith, omega arith)

-- P11: the line that is printed in place of a converted book is a book of neither edition: check 2 refuses it
pub refused-line_no_book : (ed : Edition) (r : ℕ) → r < 256 → checked_book ed (refused_book_line r) ≡ opened.Refused 2
unfolding refused_book_line refused
refused-line_no_book ed r h =
    let l = length-decimal_byte r h in
    let e = last_digit r in
    let x = book_text ++ (refused_text ++ e.0) in
    short-line ed (refused_book_line r) x (48 + e.1) (rw e.2 (simp append_assoc)) (simp length-append (omega arith))
