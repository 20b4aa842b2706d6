-- The pieces that successive calls write are the listing: joined, with the lines that are left behind them,
-- whatever the buffers; and where no line is left, exactly.
--
-- Sections: lines; the lines that fit; pieces.
-- Assumes nothing.
use mathlib.Core.Path.{◌≡◌, refl, sym, ap, ◌∙◌}
use mathlib.Core.List.{List, [], ◌∷◌, ◌++◌, append_assoc, append-nil}
use Prim.Native.Nat.{ℕ, zero, suc, ◌+◌, ◌-◌, ◌≤◌, ◌<◌}
use native.Mathlib.Decide.{dec_le}
use native.Mathlib.Nat.{add-zero, zero-add, add-suc, suc-add}
use native.Mathlib.Omega.{arith}
use lib.ListN.{length, length-append}
use borrow.Author.Tests.{le-leb, lt-leb}
use Rattle.book_format.specs.declared.Edition.{Edition}
use Rattle.book_format.specs.answers.Opened.{Opened}
use Rattle.book_format.specs.answers.Opened as opened
use Rattle.book_format.specs.Calls.{checked_book}
use Rattle.listing_text.specs.declared.Piece.{Piece}
use Rattle.listing_text.specs.Text.{lines_from, listing_by, listing}
use Rattle.listing_text.specs.Calls.{line_count_by, line_count, first_line, line, lines, fitting, next_piece, pieces, reached}
use Rattle.coxeter.proofs.FrontLaws.{take-front}

-- ---- lines

-- the lines after the first are those of the presets
lines_presets : (ed : Edition) (b : List ℕ) (t i : ℕ) → lines ed b t (suc i) ≡ lines_from ed b t i
unfolding lines line lines_from
lines_presets ed b zero i = refl
lines_presets ed b (suc t) i = rw (lines_presets ed b t (suc i))

-- all lines are the listing
pub lines_all : (ed : Edition) (b : List ℕ) → lines ed b (line_count ed b) 0 ≡ listing ed b
unfolding line_count listing line_count_by lines line first_line listing_by
lines_all ed b = lines_all_by_answer (checked_book ed b) refl
  where
    lines_all_by_answer : (o : Opened) → o ≡ checked_book ed b → lines ed b (line_count_by o) 0 ≡ listing_by ed b o
    lines_all_by_answer (opened.Presets c) e = rw (← e, lines_presets ed b c 0)
    lines_all_by_answer (opened.Refused r) e = rw (← e) (append-nil _)

pub lines-append : (ed : Edition) (b : List ℕ) (s t i : ℕ) → lines ed b s i ++ lines ed b t (i + s) ≡ lines ed b (s + t) i
unfolding lines
lines-append ed b zero t i = rw (add-zero, zero-add)
lines-append ed b (suc s) t i = rw (append_assoc, suc-add, add-suc, ← suc-add, lines-append ed b s t (suc i))

-- ---- the lines that fit

module _ (ed : Edition) (b : List ℕ) (t i m : ℕ) where
  pub fitting_more : length (line ed b i) ≤ m → fitting ed b (suc t) i m ≡ suc (fitting ed b t (suc i) (m - length (line ed b i)))
  unfolding fitting
  fitting_more h = rw (le-leb (length (line ed b i)) m h)

  pub fitting_none : m < length (line ed b i) → fitting ed b (suc t) i m ≡ 0
  unfolding fitting
  fitting_none h = rw (lt-leb (length (line ed b i)) m h)

pub fitting_le : (ed : Edition) (b : List ℕ) (t i m : ℕ) → fitting ed b t i m ≤ t
fitting_le ed b zero i m = unfold fitting in omega arith
fitting_le ed b (suc t) i m = elim (dec_le (length (line ed b i)) m) [
  | yes h ↦ rw (fitting_more ed b t i m h) (let l = fitting_le ed b t (suc i) (m - length (line ed b i)) in omega arith)
  | no h ↦ rw (fitting_none ed b t i m (omega arith)) (omega arith)
]

pub length-fitting_le : (ed : Edition) (b : List ℕ) (t i m : ℕ) → length (lines ed b (fitting ed b t i m) i) ≤ m
unfolding lines
length-fitting_le ed b zero i m = unfold fitting in omega arith
length-fitting_le ed b (suc t) i m = elim (dec_le (length (line ed b i)) m) [
  | yes h ↦
      let l = length-fitting_le ed b t (suc i) (m - length (line ed b i)) in
      rw (fitting_more ed b t i m h, length-append) (omega arith)
  | no h ↦ rw (fitting_none ed b t i m (omega arith)) (omega arith)
]

-- ---- pieces

-- a piece ends inside its buffer
pub piece_inside : (ed : Edition) (b : List ℕ) (i : ℕ) (out : List ℕ) (p : Piece) → p ≡ (next_piece ed b i out).answer → p.end ≤ length out
unfolding next_piece
piece_inside ed b i out p e = rw e (length-fitting_le ed b (line_count ed b - i) i (length out))

-- a piece and the lines after it are the lines from its first on
piece_lines : (ed : Edition) (b : List ℕ) (i t : ℕ) → t ≤ line_count ed b - i
    → lines ed b t i ++ lines ed b (line_count ed b - (i + t)) (i + t) ≡ lines ed b (line_count ed b - i) i
piece_lines ed b i t h = let e : t + (line_count ed b - (i + t)) ≡ line_count ed b - i = omega arith in lines-append ed b t (line_count ed b - (i + t)) i ∙ rw e

-- for every list of buffers
pieces-lines : (ed : Edition) (b : List ℕ) (i : ℕ) (outs : List (List ℕ))
    → let r = reached ed b i outs in pieces ed b i outs ++ lines ed b (line_count ed b - r) r ≡ lines ed b (line_count ed b - i) i
unfolding pieces reached next_piece
pieces-lines ed b i [] = refl
pieces-lines ed b i (out ∷ outs) =
    let t = fitting ed b (line_count ed b - i) i (length out) in
    let text = lines ed b t i in
    rw (take-front text out (length text) refl, append_assoc, pieces-lines ed b (i + t) outs)
    (piece_lines ed b i t (fitting_le ed b (line_count ed b - i) i (length out)))

-- the pieces from the first line on, and the lines that are left, are the listing
pub pieces-listing : (ed : Edition) (b : List ℕ) (outs : List (List ℕ))
    → let r = reached ed b 0 outs in pieces ed b 0 outs ++ lines ed b (line_count ed b - r) r ≡ listing ed b
pieces-listing ed b outs =
    let e : line_count ed b - 0 ≡ line_count ed b = omega arith in
    pieces-lines ed b 0 outs ∙ rw e (lines_all ed b)

-- where no line is left the pieces are the listing
pub pieces_whole : (ed : Edition) (b : List ℕ) (outs : List (List ℕ)) → line_count ed b ≤ reached ed b 0 outs → pieces ed b 0 outs ≡ listing ed b
pieces_whole ed b outs h =
    let r = reached ed b 0 outs in
    let e : line_count ed b - r ≡ 0 = omega arith in
    let n : lines ed b (line_count ed b - r) r ≡ [] = rw e (unfold lines in refl) in
    sym (append-nil (pieces ed b 0 outs)) ∙ ap (λ (l : List ℕ). pieces ed b 0 outs ++ l) (sym n) ∙ pieces-listing ed b outs
