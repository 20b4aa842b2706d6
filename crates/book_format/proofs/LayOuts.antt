-- What a list of records lays out is a book with these records: it passes checks 1 to 3, has as many presets, and
-- its records are those of the list. Shown record by record: each begins where the bytes of those before it end.
--
-- Sections: parts; numbers; one record; the records.
-- Assumes nothing.
use mathlib.Core.Path.{◌≡◌, refl, sym, ap, ◌∙◌}
use mathlib.Core.Bool.{false}
use mathlib.Core.List.{List, [], ◌∷◌, ◌++◌, append_assoc, append-nil}
use Prim.Native.Nat.{ℕ, suc, ◌+◌, ◌-◌, ◌*◌, ◌/◌, ◌%◌, ◌≤◌, ◌<◌}
use native.Mathlib.Nat.{add-zero, zero-add}
use native.Mathlib.Numerals.{add-one}
use native.Mathlib.Omega.{arith}
use lib.ListN.{length, length-append}
use lib.Seq.{take_at}
use Rattle.coxeter.specs.Kinds.{kind_of, lanes}
use Rattle.book_format.specs.declared.Edition.{Edition}
use Rattle.book_format.specs.declared.Edition.TheVariants.{First, Second}
use Rattle.book_format.specs.Books.{two, count, trailer, offset, kind_at, rank_at, lanes_at, letter_count_at, letters_at, end_at}
use Rattle.book_format.specs.Books.{misplaced_from, misplaced, book_refusal, lane_byte, record_of, head_size}
use Rattle.book_format.specs.Records.{Record, record_bytes, offset_bytes, lay_out, record_at, records_from, records_of}
use Rattle.book_format.proofs.BookLaws.{trailer_read}
use Rattle.book_format.proofs.WritingLaws.{length_two, length-record_of}
use Rattle.book_format.proofs.AppendedParts.{two_at-written}
use Rattle.book_format.proofs.Appending.{walk-one, walk_ended, book_refusal_none}
use Rattle.book_format.proofs.BookBytes.{record_in_first, record_in_second}

-- the lane count of a record is the one that its kind and rank make
abbrev pub LanesRight : Record → Type 0
LanesRight r = r.lanes ≡ lanes (kind_of r.kind) r.rank

-- it has to be in the first edition, which has no byte for it
abbrev pub AllRight : Edition → List Record → Type 0
AllRight ed [] = Unit {0}
AllRight ed (r ∷ rs) = (ed ≡ First → LanesRight r) × AllRight ed rs

-- what the record at byte o of a book says
pub record RecordIn (ed : Edition) (b : List ℕ) (o : ℕ) (r : Record) : Type 0 where
  pub kind : kind_at b o ≡ r.kind
  pub rank : rank_at b o ≡ r.rank
  pub lane : lane_byte ed (lanes_at ed b o) ≡ lane_byte ed r.lanes
  pub size : letter_count_at ed b o ≡ length r.letters
  pub word : letters_at ed b o ≡ r.letters

record_in : (ed : Edition) (x y : List ℕ) (r : Record) → length r.letters < 65536
    → RecordIn ed (x ++ (record_of ed r.kind r.rank r.lanes r.letters ++ y)) (length x) r
unfolding record_of two
record_in First x y r h =
    let l = length r.letters in
    let n : l % 256 + 256 * (l / 256 % 256) ≡ l = omega arith in
    let f = record_in_first x (r.letters ++ y) r.kind r.rank (l % 256) (l / 256 % 256) in
    record { kind = f.0; rank = f.1; lane = refl; size = f.3 ∙ n; word = f.4 ∙ rw n (take_at r.letters y l refl) }
record_in Second x y r h =
    let l = length r.letters in
    let n : l % 256 + 256 * (l / 256 % 256) ≡ l = omega arith in
    let f = record_in_second x (r.letters ++ y) r.kind r.rank r.lanes (l % 256) (l / 256 % 256) in
    record {
      kind = f.0;
      rank = f.1;
      lane = ap (λ m. m ∷ []) f.2;
      size = f.3 ∙ n;
      word = f.4 ∙ rw n (take_at r.letters y l refl);
    }

record_at_in : (ed : Edition) (b : List ℕ) (o : ℕ) (r : Record) → RecordIn ed b o r → (ed ≡ First → LanesRight r) → record_at ed b o ≡ r
record_at_in First b o r i h = rw (i.word, i.kind, i.rank, ← h refl)
record_at_in Second b o r i h =
    let e = i.lane in
    let m : lanes_at Second b o ≡ r.lanes = cc in
    rw (i.word, i.kind, i.rank, m)

module _ (ed : Edition) where
  -- ---- parts

  pub record_bytes-append : (rs ss : List Record) → record_bytes ed (rs ++ ss) ≡ record_bytes ed rs ++ record_bytes ed ss
  unfolding record_bytes
  record_bytes-append [] ss = refl
  record_bytes-append (r ∷ rs) ss =
      rw (record_bytes-append rs ss, append_assoc (record_of ed r.kind r.rank r.lanes r.letters) (record_bytes ed rs) (record_bytes ed ss))

  pub length_none : length (record_bytes ed []) ≡ 0
  unfolding record_bytes
  length_none = refl

  length_record : (r : Record) (rs : List Record) → length (record_bytes ed (r ∷ rs)) ≡ head_size ed + length r.letters + length (record_bytes ed rs)
  unfolding record_bytes
  length_record r rs = simp (length-append, length-record_of)

  length-record_bytes : (rs ss : List Record) → length (record_bytes ed (rs ++ ss)) ≡ length (record_bytes ed rs) + length (record_bytes ed ss)
  length-record_bytes rs ss = ap length (record_bytes-append rs ss) ∙ length-append (record_bytes ed rs) (record_bytes ed ss)

  pub offset_bytes-append : (rs ss : List Record) (o : ℕ) → offset_bytes ed o (rs ++ ss)
      ≡ offset_bytes ed o rs ++ offset_bytes ed (o + length (record_bytes ed rs)) ss
  unfolding offset_bytes
  offset_bytes-append [] ss o = rw (length_none, add-zero o)
  offset_bytes-append (r ∷ rs) ss o =
      let next = o + head_size ed + length r.letters in
      let e : next + length (record_bytes ed rs) ≡ o + length (record_bytes ed (r ∷ rs)) = omega (arith, length_record r rs) in
      rw (offset_bytes-append rs ss next, e, append_assoc (two o) (offset_bytes ed next rs) (offset_bytes ed (o + length (record_bytes ed (r ∷ rs))) ss))

  pub length-offset_bytes : (o : ℕ) (rs : List Record) → length (offset_bytes ed o rs) ≡ 2 * length rs
  unfolding offset_bytes
  length-offset_bytes o [] = refl
  length-offset_bytes o (r ∷ rs) =
      let h = length-offset_bytes (o + head_size ed + length r.letters) rs in
      simp (length-append, length_two) (omega arith)

  pub length-lay_out : (rs : List Record) → length (lay_out ed rs) ≡ length (record_bytes ed rs) + 2 * length rs + 2
  unfolding lay_out
  length-lay_out rs = let h = length-offset_bytes 0 rs in simp (length-append, length_two) (omega arith)

  -- ---- numbers

  -- the book b is what the records rs lay out
  module _ (b : List ℕ) (small : length b ≤ 65535) (rs : List Record) (e : b ≡ lay_out ed rs) where
    before-count : b ≡ (record_bytes ed rs ++ offset_bytes ed 0 rs) ++ (two (length rs) ++ [])
    unfolding lay_out
    before-count = e ∙ simp (append_assoc, append-nil)

    laid_length : length b ≡ length (record_bytes ed rs) + 2 * length rs + 2
    laid_length = ap length e ∙ length-lay_out rs

    pub laid_count : count b ≡ length rs
    unfolding count
    laid_count =
        let l = laid_length in
        let front = record_bytes ed rs ++ offset_bytes ed 0 rs in
        let f : length front ≡ length (record_bytes ed rs) + 2 * length rs =
        length-append (record_bytes ed rs) (offset_bytes ed 0 rs) ∙ rw (length-offset_bytes 0 rs) in
        two_at-written b front [] (length b - 2) (length rs) before-count (omega arith) (omega arith)

    laid_trailer : trailer b ≡ length (record_bytes ed rs)
    laid_trailer =
        let l = laid_length in
        let r = trailer_read b (length rs) (sym laid_count) in
        omega arith

  -- ---- one record

  pub length_around : (qs : List Record) (r : Record) (rs : List Record)
      → length (record_bytes ed (qs ++ (r ∷ rs))) ≡ length (record_bytes ed qs) + head_size ed + length r.letters + length (record_bytes ed rs)
  length_around qs r rs = omega (arith, length-record_bytes qs (r ∷ rs), length_record r rs)

  -- of the book b the record r comes after the records qs and before the records rs
  module _ (b : List ℕ) (small : length b ≤ 65535) (qs : List Record) (r : Record) (rs : List Record) (e : b ≡ lay_out ed (qs ++ (r ∷ rs))) where
    pub laid_offset : offset b (length qs) ≡ length (record_bytes ed qs)
    unfolding offset lay_out offset_bytes
    laid_offset =
        let all = qs ++ (r ∷ rs) in
        let o = length (record_bytes ed qs) in
        let front = record_bytes ed all ++ offset_bytes ed 0 qs in
        let back = offset_bytes ed (o + head_size ed + length r.letters) rs ++ two (length all) in
        let split : b ≡ front ++ (two o ++ back) = e ∙ rw (offset_bytes-append qs (r ∷ rs) 0, zero-add o) (simp append_assoc) in
        let place : trailer b + 2 * length qs ≡ length front =
        rw (laid_trailer b small all e, length-append (record_bytes ed all) (offset_bytes ed 0 qs), length-offset_bytes 0 qs) in
        let l = laid_length b small all e in
        let s = length_around qs r rs in
        two_at-written b front back (trailer b + 2 * length qs) o split place (omega arith)

    pub laid_record : RecordIn ed b (length (record_bytes ed qs)) r
    unfolding lay_out record_bytes
    laid_record =
        let all = qs ++ (r ∷ rs) in
        let back = record_bytes ed rs ++ (offset_bytes ed 0 all ++ two (length all)) in
        let split : b ≡ record_bytes ed qs ++ (record_of ed r.kind r.rank r.lanes r.letters ++ back) =
        e ∙ rw (record_bytes-append qs (r ∷ rs)) (simp append_assoc) in
        let l = laid_length b small all e in
        let s = length_around qs r rs in
        rw split (record_in ed (record_bytes ed qs) back r (omega arith))

    laid_end : end_at ed b (length (record_bytes ed qs)) ≡ length (record_bytes ed (qs ++ (r ∷ [])))
    laid_end =
        let s = length_around qs r [] in
        let n = length_none in
        rw laid_record.size (omega arith)

    laid_room : length (record_bytes ed (qs ++ (r ∷ []))) ≤ trailer b
    laid_room =
        let t = laid_trailer b small (qs ++ (r ∷ rs)) e in
        let s = length_around qs r rs in
        let f = length_around qs r [] in
        let n = length_none in
        omega arith

    laid_next : b ≡ lay_out ed ((qs ++ (r ∷ [])) ++ rs)
    laid_next = e ∙ ap (lay_out ed) (sym (append_assoc qs (r ∷ []) rs))

  -- ---- the records

  pub length_snoc : (qs : List Record) (r : Record) → length (qs ++ (r ∷ [])) ≡ suc (length qs)
  length_snoc qs r = length-append qs (r ∷ []) ∙ add-one (length qs)

  -- of the book b the records qs have been read, and the records rs are left
  module _ (b : List ℕ) (small : length b ≤ 65535) where
    laid_walk : (rs qs : List Record) → b ≡ lay_out ed (qs ++ rs) → misplaced_from ed b (length rs) (length qs) (length (record_bytes ed qs)) ≡ false
    laid_walk [] qs e =
        walk_ended ed b (length qs) (length (record_bytes ed qs)) (sym (laid_trailer b small qs (e ∙ ap (lay_out ed) (append-nil qs))))
    laid_walk (r ∷ rs) qs e =
        walk-one ed b (length rs) (length qs) (length (record_bytes ed qs)) (length (record_bytes ed (qs ++ (r ∷ [])))) (laid_offset b small qs r rs e)
        (laid_end b small qs r rs e)
        (laid_room b small qs r rs e)
        ∙ rw (← length_snoc qs r) (laid_walk rs (qs ++ (r ∷ [])) (laid_next b small qs r rs e))

    laid_from : (rs qs : List Record) → b ≡ lay_out ed (qs ++ rs) → AllRight ed rs → records_from ed b (length rs) (length qs) ≡ rs
    unfolding records_from
    laid_from [] qs e h = refl
    laid_from (r ∷ rs) qs e h =
        rw (
          laid_offset b small qs r rs e,
          record_at_in ed b (length (record_bytes ed qs)) r (laid_record b small qs r rs e) h.0,
          ← length_snoc qs r,
          laid_from rs (qs ++ (r ∷ [])) (laid_next b small qs r rs e) h.1,
        )

  -- it passes checks 1 to 3
  pub laid_opens : (rs : List Record) → length (lay_out ed rs) ≤ 65535 → book_refusal ed (lay_out ed rs) ≡ 0
  unfolding misplaced record_bytes
  laid_opens rs small =
      let b = lay_out ed rs in
      let c = laid_count b small rs refl in
      let l = laid_length b small rs refl in
      book_refusal_none ed b (omega arith) small (omega arith) (rw c (laid_walk b small rs [] refl))

  -- its records are those of the list
  pub laid_records : (rs : List Record) → AllRight ed rs → length (lay_out ed rs) ≤ 65535 → records_of ed (lay_out ed rs) ≡ rs
  unfolding records_of
  laid_records rs h small =
      let b = lay_out ed rs in
      rw (laid_count b small rs refl) (laid_from b small rs [] refl h)
