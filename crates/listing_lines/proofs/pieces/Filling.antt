-- A piece of a listing, filled line by line: the piece from the first line on is the piece from the next line on,
-- behind what is written already.
--
-- Sections: lines; the line of a refused book; what is left of a piece; the line of a turn; filling.
-- Assumes nothing.
use mathlib.Core.Path.{◌≡◌, refl, sym, ap, ◌∙◌}
use mathlib.Core.List.{List, [], ◌∷◌, ◌++◌}
use Prim.Native.Nat.{ℕ, zero, suc, ◌+◌, ◌-◌, ◌≤◌, ◌<◌}
use native.Mathlib.Numerals.{add-one}
use native.Mathlib.Omega.{arith}
use lib.ListN.{length, take, length-append}
use lib.Seq.{sets, length-sets}
use Rattle.coxeter.specs.answers.Answer.{Length, Refused}
use Rattle.coxeter.specs.Calls.{Yields, writes}
use Rattle.coxeter.proofs.Lists.{Stored, sets-append}
use Rattle.coxeter.proofs.Outcomes.{writes_short, writes-written}
use Rattle.coxeter.proofs.FrontLaws.{sets-front, take-front}
use Rattle.book_format.specs.declared.Edition.{Edition}
use Rattle.book_format.specs.answers.Opened.{Opened}
use Rattle.book_format.specs.answers.Preset.{Preset}
use Rattle.book_format.specs.Calls.{checked_book, checked_preset}
use Rattle.listing_text.specs.Text.{decimal, refused_text, book_text, refused, refused_book_line, line_by, line_of}
use Rattle.listing_text.specs.Calls.{line_count_by, line_count, first_line, line, lines, fitting, Piecing, next_piece}
use Rattle.listing_text.proofs.Pieces.{fitting_more, fitting_none, length-fitting_le}
use Rattle.listing_text.proofs.Answered.{line_from}
use Rattle.listing_text.proofs.Decimals.{length-decimal_byte}
use Rattle.listing_text.proofs.Room.{length-line_le}

-- ---- lines

pub line_count-by : (ed : Edition) (b : List ℕ) (a : Opened) → a ≡ checked_book ed b → line_count_by a ≡ line_count ed b
unfolding line_count
line_count-by ed b a e = rw e

pub line_from_first : (b : List ℕ) (o : Opened) (i : ℕ) (a : Preset) → i ≡ 0 → line_from b o i a ≡ first_line o
unfolding line_from
line_from_first b o i a e = rw e

pub line_from_preset : (b : List ℕ) (o : Opened) (i : ℕ) (a : Preset) → (i ≡ 0 → ⊥) → line_from b o i a ≡ line_by b (i - 1) a
unfolding line_from
line_from_preset b o zero a f = absurd (f refl)
line_from_preset b o (suc i) a f = let e : suc i - 1 ≡ i = omega arith in rw e

-- o is what opening the book answered, a what reading the preset of the line did
pub line-from : (ed : Edition) (b : List ℕ) (i : ℕ) {o : Opened} {a : Preset} → o ≡ checked_book ed b → a ≡ checked_preset ed b (i - 1)
    → line_from b o i a ≡ line ed b i
unfolding line_from line line_of
line-from ed b zero p q = rw p
line-from ed b (suc i) p q = let e : suc i - 1 ≡ i = omega arith in rw (q, e)

-- a text at the front of a buffer
stored_front : (o u v : List ℕ) (m : ℕ) → length u ≤ length o → Stored o 0 u v m → (m ≡ length u) × (take m v ≡ u)
stored_front o u v m h p =
    let s : m ≡ length u = omega (arith, p.0) in
    (s, rw (p.1, sets-front u o h) (take-front u o m (sym s)))

-- ---- the line of a refused book

-- such a line as the code puts it together
abbrev pub refused_parts : ℕ → List ℕ
refused_parts r = (book_text ++ refused_text) ++ decimal r ++ (10 ∷ [])

pub refused_room : (r : ℕ) → r < 256 → length (refused_parts r) ≤ 4096
refused_room r h = simp length-append (omega (arith, length-decimal_byte r h))

-- it is made in a buffer o, which is then v, and has m bytes
module _ (r : ℕ) (h : r < 256) (o v : List ℕ) (m : ℕ) (g : 4096 ≡ length o) (p : Stored o 0 (refused_parts r) v m) where
  made : (m ≡ length (refused_book_line r)) × (take m v ≡ refused_book_line r)
  unfolding refused_book_line refused
  made = stored_front o (refused_parts r) v m (omega (arith, refused_room r h)) p

  pub refused_inside : m ≤ length v
  refused_inside =
      let l : length v ≡ length o = ap length p.1 ∙ length-sets o 0 (refused_parts r) in
      omega (arith, p.0, refused_room r h)

  module _ (out : List ℕ) where
    pub refused-short : length out < m → Yields (writes 0 (refused_book_line r) out) (Refused 14) out
    refused-short l = writes_short (writes 0 (refused_book_line r) out) 0 0 (refused_book_line r) out refl refl m refl (sym made.0) l

    pub refused_copied : m ≤ length out → (after : List ℕ) (n : ℕ) → Stored out 0 (take m v) after n
        → Yields (writes 0 (refused_book_line r) out) (Length n) after
    refused_copied l after n s =
        let e = rw made.1 at s in
        writes-written (writes 0 (refused_book_line r) out) 0 0 (refused_book_line r) out refl refl n after refl (omega (arith, e.0))
        (omega (arith, e.0, made.0))
        (e.1 ∙ sets-front (refused_book_line r) out (omega (arith, made.0)))

-- ---- what is left of a piece

-- the piece of as many of t lines from line i on as fit, in `out` from the place `at` on
unfoldable pub piece_from : Edition → List ℕ → ℕ → ℕ → List ℕ → ℕ → Piecing
piece_from ed b t i out at =
    let s = fitting ed b t i (length out - at) in
    let text = lines ed b s i in
    record { answer = record { next = i + s; end = at + length text; left = t - s }; bytes = sets out at text }

next_piece-from : (ed : Edition) (b : List ℕ) (i : ℕ) (out : List ℕ) → next_piece ed b i out ≡ piece_from ed b (line_count ed b - i) i out 0
unfolding next_piece piece_from
next_piece-from ed b i out =
    let s = fitting ed b (line_count ed b - i) i (length out) in
    let text = lines ed b s i in
    let m : length out - 0 ≡ length out = omega arith in
    let e : 0 + length text ≡ length text = omega arith in
    rw (m, e, sets-front text out (length-fitting_le ed b (line_count ed b - i) i (length out)))

-- nothing more is written
abbrev pub stopped : ℕ → ℕ → ℕ → List ℕ → Piecing
stopped next end left out = record { answer = record { next = next; end = end; left = left }; bytes = out }

module _ (ed : Edition) (b : List ℕ) (i : ℕ) (out : List ℕ) (at : ℕ) where
  piece_from_none : piece_from ed b 0 i out at ≡ stopped i at 0 out
  unfolding piece_from fitting lines
  piece_from_none =
      let n : i + 0 ≡ i = omega arith in
      let e : at + 0 ≡ at = omega arith in
      let l : 0 - 0 ≡ 0 = omega arith in
      rw (n, e)

  piece_from_full : (t : ℕ) → length out - at < length (line ed b i) → piece_from ed b (suc t) i out at ≡ stopped i at (suc t) out
  unfolding piece_from lines
  piece_from_full t h =
      let n : i + 0 ≡ i = omega arith in
      let e : at + 0 ≡ at = omega arith in
      let l : suc t - 0 ≡ suc t = omega arith in
      rw (fitting_none ed b t i (length out - at) h, n, e, l)

  piece_from_next : (t : ℕ) → length (line ed b i) ≤ length out - at
      → piece_from ed b (suc t) i out at ≡ piece_from ed b t (suc i) (sets out at (line ed b i)) (at + length (line ed b i))
  unfolding piece_from lines
  piece_from_next t h =
      let m : length (sets out at (line ed b i)) - (at + length (line ed b i)) ≡ length out - at - length (line ed b i) = rw length-sets (omega arith) in
      let s = fitting ed b t (suc i) (length out - at - length (line ed b i)) in
      let n : suc i + s ≡ i + suc s = omega arith in
      let l : suc t - suc s ≡ t - s = omega arith in
      let text = lines ed b s (suc i) in
      let e : at + length (line ed b i ++ text) ≡ at + length (line ed b i) + length text = rw length-append (omega arith) in
      rw (fitting_more ed b t i (length out - at) h, m, n, l, e, sets-append out at (line ed b i) text)

-- ---- the line of a turn

-- line i, made at the front of a buffer, which is then v, and has m bytes
pub record LineMade (ed : Edition) (b : List ℕ) (i : ℕ) (v : List ℕ) (m : ℕ) : Type 0 where
  pub size : m ≡ length (line ed b i)
  pub text : take m v ≡ line ed b i
  pub inside : m ≤ length v

-- o is what opening the book answered, a what reading the preset of the line did, and u the buffer
module _ (ed : Edition) (b : List ℕ) (i : ℕ) (o : Opened) (a : Preset) (u : List ℕ) (p : o ≡ checked_book ed b) (q : a ≡ checked_preset ed b (i - 1))
    (h : i < line_count ed b) (g : 65536 ≡ length u) where
  pub line_room : length (line_from b o i a) ≤ length u
  line_room = rw (line-from ed b i p q) (omega (arith, length-line_le ed b i h))

  pub line_made : (v : List ℕ) (m : ℕ) → Stored u 0 (line_from b o i a) v m → LineMade ed b i v m
  line_made v m s =
      let t : Stored u 0 (line ed b i) v m = rw (line-from ed b i p q) at s in
      let f = stored_front u (line ed b i) v m (omega (arith, length-line_le ed b i h)) t in
      let l : length v ≡ length u = ap length t.1 ∙ length-sets u 0 (line ed b i) in
      record { size = f.0; text = f.1; inside = omega (arith, f.0, length-line_le ed b i h) }

-- ---- filling

-- lines up to `next` are written in `out` up to `end`
pub record Filling (ed : Edition) (b : List ℕ) (first : ℕ) (o out : List ℕ) (next end : ℕ) : Type 0 where
  pub size : length out ≡ length o
  pub inside : end ≤ length out
  pub same : next_piece ed b first o ≡ piece_from ed b (line_count ed b - next) next out end

pub filling_none : {ed : Edition} {b : List ℕ} {first : ℕ} {o : List ℕ} → Filling ed b first o o first 0
filling_none {ed} {b} {first = first} {o} = record { size = refl; inside = omega arith; same = next_piece-from ed b first o }

module _ {ed : Edition} {b : List ℕ} {first : ℕ} {o out : List ℕ} {next end : ℕ} (f : Filling ed b first o out next end) where
  -- the line of a turn, made in a buffer v
  module _ {v : List ℕ} {m : ℕ} (h : next < line_count ed b) (made : LineMade ed b next v m) where
    lines_left : line_count ed b - next ≡ suc (line_count ed b - (next + 1))
    lines_left = omega arith

    pub filling_next : m ≤ length out - end → {out' : List ℕ} {end' : ℕ} → Stored out end (take m v) out' end' → Filling ed b first o out' (next + 1) end'
    filling_next room {out'} {end'} p =
        let t = line_count ed b - (next + 1) in
        let l : length (line ed b next) ≤ length out - end = omega (arith, made.size) in
        let k : length (take m v) ≡ length (line ed b next) = ap length made.text in
        let e : end' ≡ end + length (line ed b next) = omega (arith, p.0) in
        let w : out' ≡ sets out end (line ed b next) = rw made.text at p.1 in
        let i = f.inside in
        record {
          size = ap length w ∙ length-sets out end (line ed b next) ∙ f.size;
          inside = rw w (rw length-sets (omega (arith, p.0)));
          same = f.same ∙ ap (λ (m : ℕ). piece_from ed b m next out end) lines_left ∙ piece_from_next ed b next out end t l ∙ rw (w, add-one next, e);
        }

    pub filling_full : {left : ℕ} → left ≡ line_count ed b - next → length out - end < m
        → ((stopped next end left out).answer ≡ (next_piece ed b first o).answer) × (out ≡ (next_piece ed b first o).bytes)
    filling_full {left} e g =
        let t = line_count ed b - (next + 1) in
        let q : next_piece ed b first o ≡ stopped next end left out =
        f.same ∙ ap (λ (s : ℕ). piece_from ed b s next out end) lines_left ∙ piece_from_full ed b next out end t (omega (arith, made.size))
        ∙ ap (λ (s : ℕ). stopped next end s out) (sym lines_left ∙ sym e) in
        rw q (refl, refl)

  pub filling_done : {last : ℕ} → last ≡ next → line_count ed b ≤ next
      → ((stopped last end 0 out).answer ≡ (next_piece ed b first o).answer) × (out ≡ (next_piece ed b first o).bytes)
  filling_done e h =
      let t : line_count ed b - next ≡ 0 = omega arith in
      let q : next_piece ed b first o ≡ stopped next end 0 out = f.same ∙ rw t (piece_from_none ed b next out end) in
      rw (e, q) (refl, refl)
