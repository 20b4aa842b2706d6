-- The lines of a listing by their numbers, and the call that writes the next piece of it (I32 of the specification):
-- how many lines it writes, what it answers, and which bytes it leaves.
-- Assumes nothing.
use mathlib.Core.Path.{◌≡◌, refl, sym, ap, ◌∙◌}
use mathlib.Core.List.{List, [], ◌∷◌, ◌++◌, append_assoc, append-nil}
use Prim.Native.Nat.{ℕ, zero, suc, ◌+◌, ◌-◌, ◌≤◌, ◌<◌}
use native.Mathlib.Numerals.{add-one}
use native.Mathlib.Omega.{arith}
use lib.ListN.{length, take, drop, length-append}
use Rattle.book_format.specs.declared.Edition.{Edition}
use Rattle.book_format.specs.answers.Opened as opened
use Rattle.book_format.specs.Calls.{checked_book}
use Rattle.listing_text.specs.Text.{refused_book_line, count_line, line_of}
use Rattle.listing_text.specs.Calls.{line_count_by, line_count, first_line, line, lines, fitting, next_piece, pieces, reached}
use Rattle.listing_text.proofs.Pieces.{lines-append, fitting_more, fitting_le, length-fitting_le}
use Rattle.listing_text.proofs.Room.{piece_progress}
use Rattle.coxeter.proofs.FrontLaws.{front_parts}

module _ (ed : Edition) (b : List ℕ) where
  -- P3, P4, P8, I32: line 0 is the line of the count, or of the refusal, which is then the only line, and line i + 1
  -- is that of preset i
  pub lines-numbered : ((c : ℕ) → checked_book ed b ≡ opened.Presets c → (line_count ed b ≡ c + 1) × (line ed b 0 ≡ count_line c))
      × ((r : ℕ) → checked_book ed b ≡ opened.Refused r → (line_count ed b ≡ 1) × (line ed b 0 ≡ refused_book_line r))
      × ((i : ℕ) → line ed b (i + 1) ≡ line_of ed b i)
  unfolding line_count line_count_by line first_line
  lines-numbered = (
    λ c e. (ap line_count_by e ∙ sym (add-one c), ap first_line e),
    λ r e. (ap line_count_by e, ap first_line e),
    λ i. rw (add-one i),
  )

  -- I32: the lines from line i on stand one after the other
  pub lines-joined : (i : ℕ) → (lines ed b 0 i ≡ []) × ((t : ℕ) → lines ed b (t + 1) i ≡ lines ed b t i ++ line ed b (i + t))
  unfolding lines
  lines-joined i = (refl, λ t. sym (lines-append ed b t 1 i) ∙ ap (λ l. lines ed b t i ++ l) (append-nil (line ed b (i + t))))

  most_fitting : (t i m s : ℕ) → s ≤ t → length (lines ed b s i) ≤ m → s ≤ fitting ed b t i m
  unfolding lines
  most_fitting t i m zero h g = omega arith
  most_fitting zero i m (suc s) h g = absurd (omega arith)
  most_fitting (suc t) i m (suc s) h g =
      let l = length-append (line ed b i) (lines ed b s (suc i)) in
      let more = most_fitting t (suc i) (m - length (line ed b i)) s (omega arith) (omega arith) in
      rw (fitting_more ed b t i m (omega arith)) (omega arith)

  -- I32: a call writes as many lines from line i on as there are and as fit whole, and answers the line after them,
  -- the number of bytes written and the number of lines left; what lies behind them stays
  pub piece_exactly : (i : ℕ) (out : List ℕ) → let p = next_piece ed b i out in
      (t : ℕ)
      × (p.answer.next ≡ i + t)
      × (p.answer.end ≡ length (lines ed b t i))
      × (p.answer.left ≡ line_count ed b - (i + t))
      × (p.bytes ≡ lines ed b t i ++ drop (length (lines ed b t i)) out)
      × (t ≤ line_count ed b - i)
      × (length (lines ed b t i) ≤ length out)
      × ((s : ℕ) → s ≤ line_count ed b - i → length (lines ed b s i) ≤ length out → s ≤ t)
  unfolding next_piece
  piece_exactly i out =
      let n = line_count ed b - i in
      let text = lines ed b (fitting ed b n i (length out)) i in (
        fitting ed b n i (length out),
        refl,
        refl,
        omega arith,
        sym (front_parts text out (length text) text refl refl),
        fitting_le ed b n i (length out),
        length-fitting_le ed b n i (length out),
        most_fitting n i (length out),
      )

  -- I32: with 16,896 bytes or more a call writes a line as long as one is left
  pub piece_has_a_line : (i : ℕ) (out : List ℕ) → i < line_count ed b → 16896 ≤ length out → i < (next_piece ed b i out).answer.next
  piece_has_a_line = piece_progress ed b

  pieces_snoc : (i : ℕ) (outs : List (List ℕ)) (out : List ℕ) → let p = next_piece ed b (reached ed b i outs) out in
      (pieces ed b i (outs ++ (out ∷ [])) ≡ pieces ed b i outs ++ take p.answer.end p.bytes)
      × (reached ed b i (outs ++ (out ∷ [])) ≡ p.answer.next)
  unfolding pieces reached
  pieces_snoc i [] out = (append-nil _, refl)
  pieces_snoc i (o ∷ outs) out =
      let p = next_piece ed b i o in
      let r = pieces_snoc p.answer.next outs out in
      (rw r.0 (sym (append_assoc (take p.answer.end p.bytes) _ _)), r.1)

  -- I32: each of successive calls begins at the line that the call before it answered
  pub pieces_in_turn : (i : ℕ)
      → (pieces ed b i [] ≡ [])
      × (reached ed b i [] ≡ i)
      × ((outs : List (List ℕ)) (out : List ℕ) → let p = next_piece ed b (reached ed b i outs) out in
      (pieces ed b i (outs ++ (out ∷ [])) ≡ pieces ed b i outs ++ take p.answer.end p.bytes)
      × (reached ed b i (outs ++ (out ∷ [])) ≡ p.answer.next))
  unfolding pieces reached
  pieces_in_turn i = (refl, refl, pieces_snoc i)
