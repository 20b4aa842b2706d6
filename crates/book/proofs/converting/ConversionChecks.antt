-- The checks of a conversion as the code makes them, record by record.
--
-- Sections: records by their number; the checks.
-- Assumes nothing.
use mathlib.Core.Path.{◌≡◌, sym, ◌∙◌}
use mathlib.Core.Bool.{Bool}
use mathlib.Core.List.{List}
use Prim.Native.Nat.{ℕ, suc, ◌+◌, ◌-◌, ◌≤◌, ◌<◌}
use native.Mathlib.Numerals.{add-one}
use native.Mathlib.Omega.{arith}
use lib.ListN.{length}
use borrow.Author.Tests.{eq-eqb, ne_eqb, lt-ltb, le-ltb}
use Rattle.coxeter.specs.Checks.{check}
use Rattle.coxeter.proofs.Refusals.{then_some, then_none}
use Rattle.book_format.specs.declared.Edition.{Edition}
use Rattle.book_format.specs.answers.Preset as preset
use Rattle.book_format.specs.Books.{count, offset}
use Rattle.book_format.specs.Books.{end_at, too_large, book_refusal}
use Rattle.book_format.specs.Calls.{checked_record}
use Rattle.book_format.specs.Conversion.{converted, too_many_lanes, record_conversion_refusal, records_conversion_refusal, conversion_refusal}
use Rattle.book_format.proofs.BookLaws.{accepted, end_at_read_le}
use Rattle.book_format.proofs.PresetLaws.{record_found, record_refused}
use Rattle.book_format.proofs.Converting.{size_of, length-converted}

-- ---- records by their number

-- a record of an accepted book lies before its trailer
pub end_at_inside : (ed : Edition) (b : List ℕ) (c i o : ℕ) → book_refusal ed b ≡ 0 → c ≡ count b → i < c → o ≡ offset b i → end_at ed b o ≤ length b
end_at_inside ed b c i o z e h q = end_at_read_le ed b i o (accepted ed b z) (omega arith) q

-- ---- the checks

-- the record at byte o: what its own checks answered, t whether it has too many lanes
pub refused_by_itself : (ed : Edition) (b : List ℕ) (o : ℕ) {r : ℕ} → preset.Refused r ≡ checked_record ed b o → r ≡ record_conversion_refusal ed b o
unfolding record_conversion_refusal
refused_by_itself ed b o {r} q =
    let s = record_refused ed b o r q in
    rw s.0 (sym (then_some r (check 18 (too_many_lanes ed b o)) s.1))

pub lanes_decide : (ed : Edition) (b : List ℕ) (o : ℕ) {k n s l : ℕ} {t : Bool} → preset.Found k n s l ≡ checked_record ed b o → t ≡ too_many_lanes ed b o
    → check 18 t ≡ record_conversion_refusal ed b o
unfolding record_conversion_refusal
lanes_decide ed b o {k} {n} {s} {l} q w = rw (record_found ed b o k n s l q, ← w)

-- those of the records from record i on, of c in all: r is that of record i
module _ (ed : Edition) (b : List ℕ) (c i : ℕ) where
  pub checks_end : c ≤ i → records_conversion_refusal ed b (c - i) i ≡ 0
  unfolding records_conversion_refusal
  checks_end h = let e : c - i ≡ 0 = omega arith in rw e

  module _ (r : ℕ) (h : i < c) (q : r ≡ record_conversion_refusal ed b (offset b i)) where
    pub checks_stop : (r ≡ 0 → ⊥) → records_conversion_refusal ed b (c - i) i ≡ r
    unfolding records_conversion_refusal
    checks_stop f = let e : c - i ≡ suc (c - (i + 1)) = omega arith in rw (e, ← q) (then_some r (records_conversion_refusal ed b (c - (i + 1)) (suc i)) f)

    pub checks_next : r ≡ 0 → records_conversion_refusal ed b (c - i) i ≡ records_conversion_refusal ed b (c - (i + 1)) (i + 1)
    unfolding records_conversion_refusal
    checks_next z = let e : c - i ≡ suc (c - suc i) = omega arith in rw (e, ← q, add-one i) (then_none r (records_conversion_refusal ed b (c - suc i) (suc i)) z)

-- all of them: r is the refusal of the book, s that of the records, m the size of the new book
module _ (ed : Edition) (b : List ℕ) {r : ℕ} (e : r ≡ book_refusal ed b) where
  pub conversion_book : (r ≡ 0 → ⊥) → r ≡ conversion_refusal ed b
  unfolding conversion_refusal
  conversion_book f = rw (← e, ne_eqb r 0 f)

  module _ (z : r ≡ 0) {c s : ℕ} (n : c ≡ count b) (q : s ≡ records_conversion_refusal ed b c 0) where
    pub conversion_records : (s ≡ 0 → ⊥) → s ≡ conversion_refusal ed b
    unfolding conversion_refusal
    conversion_records f = rw (← e, eq-eqb r 0 z, ← n, ← q, ne_eqb s 0 f)

    module _ (y : s ≡ 0) {m : ℕ} (w : m ≡ size_of ed (length b) c) where
      size_is : length (converted ed b) ≡ m
      size_is = length-converted ed b (accepted ed b (sym e ∙ z)) ∙ rw (w, n)

      pub conversion_large : 65535 < m → 13 ≡ conversion_refusal ed b
      unfolding conversion_refusal too_large
      conversion_large h = rw (← e, eq-eqb r 0 z, ← n, ← q, eq-eqb s 0 y, size_is, lt-ltb 65535 m h)

      pub conversion_none : m ≤ 65535 → 0 ≡ conversion_refusal ed b
      unfolding conversion_refusal too_large
      conversion_none h = rw (← e, eq-eqb r 0 z, ← n, ← q, eq-eqb s 0 y, size_is, le-ltb 65535 m h)
