-- The whole bytes of an appended book (B18 and C13 of the specification): what the old records and the new one lay
-- out, whatever its length, also where it is too large to be written.
--
-- Sections: the parts of a book; the new book.
-- Assumes nothing.
use mathlib.Core.Path.{◌≡◌, refl, sym, ap, ◌∙◌}
use mathlib.Core.List.{List, [], ◌∷◌, ◌++◌, append_assoc, append-nil}
use Prim.Native.Nat.{ℕ, ◌*◌}
use native.Mathlib.Decide.{ℕ_discrete}
use native.Mathlib.Nat.{zero-add}
use native.Mathlib.Numerals.{add-one}
use native.Mathlib.Omega.{arith}
use lib.ListN.{length, take, drop}
use lib.Seq.{take_at, drop_at}
use Rattle.coxeter.specs.Kinds.{kind_of, lanes}
use Rattle.book_format.specs.declared.Edition.{Edition}
use Rattle.book_format.specs.Books.{two, count, trailer, book_refusal, record_of, appended}
use Rattle.book_format.specs.Records.{Record, record_bytes, offset_bytes, lay_out, records_from, records_of, Bytes}
use Rattle.book_format.proofs.BookLaws.{accepted, count-bytes, trailer-bytes}
use Rattle.book_format.proofs.WritingLaws.{length-appended}
use Rattle.book_format.proofs.RecordLaws.{lay_out-records_of, length-records_from, placed_from}
use Rattle.book_format.proofs.LayOuts.{record_bytes-append, offset_bytes-append, length-offset_bytes, length-lay_out}
use Rattle.book_format.proofs.LayOuts.{length_none, length_around, length_snoc}
use Rattle.book_format.proofs.Converting.{length-records}

module _ (ed : Edition) (b : List ℕ) (z : book_refusal ed b ≡ 0) where
  -- ---- the parts of a book

  as_many : length (records_of ed b) ≡ count b
  unfolding records_of
  as_many = length-records_from ed b (count b) 0

  end_of_records : length (record_bytes ed (records_of ed b)) ≡ trailer b
  unfolding records_of
  end_of_records =
      sym (zero-add (length (record_bytes ed (records_from ed b (count b) 0)))) ∙ length-records ed b (count b) 0 0 (placed_from ed b (accepted ed b z))

  -- the bytes before the trailer are the records, those before the count the offsets
  module _ (w : Bytes b) where
    parts_some : (length b ≡ 0 → ⊥)
        → (take (trailer b) b ≡ record_bytes ed (records_of ed b)) × (take (2 * count b) (drop (trailer b) b) ≡ offset_bytes ed 0 (records_of ed b))
    unfolding lay_out
    parts_some f =
        let rs = records_of ed b in
        let back = offset_bytes ed 0 rs ++ two (length rs) in
        let e : b ≡ record_bytes ed rs ++ back = sym (lay_out-records_of ed b w z f) in
        let size : length (offset_bytes ed 0 rs) ≡ 2 * count b = length-offset_bytes ed 0 rs ∙ rw as_many in (
          ap (take (trailer b)) e ∙ take_at (record_bytes ed rs) back (trailer b) end_of_records,
          ap (λ l. take (2 * count b) (drop (trailer b) l)) e
              ∙ ap (take (2 * count b)) (drop_at (record_bytes ed rs) back (trailer b) end_of_records)
              ∙ take_at (offset_bytes ed 0 rs) (two (length rs)) (2 * count b) size,
        )

    parts_none : length b ≡ 0
        → (take (trailer b) b ≡ record_bytes ed (records_of ed b)) × (take (2 * count b) (drop (trailer b) b) ≡ offset_bytes ed 0 (records_of ed b))
    unfolding record_bytes offset_bytes records_of records_from
    parts_none n = rw (trailer-bytes b n, count-bytes b n) (refl, refl)

    parts : (take (trailer b) b ≡ record_bytes ed (records_of ed b)) × (take (2 * count b) (drop (trailer b) b) ≡ offset_bytes ed 0 (records_of ed b))
    parts = elim (ℕ_discrete (length b) 0) [ yes n ↦ parts_none n | no f ↦ parts_some f ]

-- ---- the new book

-- what one record lays out
one_record : (ed : Edition) (r : Record) → record_bytes ed (r ∷ []) ≡ record_of ed r.kind r.rank r.lanes r.letters
unfolding record_bytes
one_record ed r = append-nil (record_of ed r.kind r.rank r.lanes r.letters)

one-offset : (ed : Edition) (o : ℕ) (r : Record) → offset_bytes ed o (r ∷ []) ≡ two o
unfolding offset_bytes
one-offset ed o r = append-nil (two o)

-- B18, C13: an appended book is the old records and the new one, with the lane count of its kind and rank, laid out
-- again from the first byte to the count, however long it is
pub appended_laid_out : (ed : Edition) (b : List ℕ) (k n : ℕ) (u : List ℕ) → Bytes b → book_refusal ed b ≡ 0
    → appended ed b k n u ≡ lay_out ed (records_of ed b ++ (record { kind = k; rank = n; lanes = lanes (kind_of k) n; letters = u } ∷ []))
unfolding appended lay_out
appended_laid_out ed b k n u w z =
    let rs = records_of ed b in
    let r : Record = record { kind = k; rank = n; lanes = lanes (kind_of k) n; letters = u } in
    let p = parts ed b z w in
    rw (
      p.0,
      p.1,
      record_bytes-append ed rs (r ∷ []),
      one_record ed r,
      offset_bytes-append ed rs (r ∷ []) 0,
      zero-add (length (record_bytes ed rs)),
      end_of_records ed b z,
      one-offset ed (trailer b) r,
      length_snoc ed rs r,
      as_many ed b z,
      ← add-one (count b),
    )
    (simp append_assoc)

-- its length, also where the numbers lent are no bytes
pub length_laid_out : (ed : Edition) (b : List ℕ) (k n : ℕ) (u : List ℕ) → book_refusal ed b ≡ 0
    → length (appended ed b k n u)
    ≡ length (lay_out ed (records_of ed b ++ (record { kind = k; rank = n; lanes = lanes (kind_of k) n; letters = u } ∷ [])))
length_laid_out ed b k n u z =
    let rs = records_of ed b in
    let r : Record = record { kind = k; rank = n; lanes = lanes (kind_of k) n; letters = u } in
    let a = accepted ed b z in
    let s = a.sized in
    let l = length-lay_out ed (rs ++ (r ∷ [])) in
    let m = length_around ed rs r [] in
    omega (arith, length-appended ed b k n u a, end_of_records ed b z, as_many ed b z, length_snoc ed rs r, length_none ed)
