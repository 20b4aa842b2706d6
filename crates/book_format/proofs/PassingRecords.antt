-- A record that passes the checks of a conversion has a rank and few enough lanes in the other edition too, and so has
-- each record of such a book. Converting.antt has the whole book.
--
-- Sections: one record; the records.
-- Assumes nothing.
use mathlib.Core.Path.{◌≡◌, refl, sym}
use mathlib.Core.Bool.{false}
use mathlib.Core.List.{List}
use Prim.Native.Nat.{ℕ, zero, suc, ◌+◌, ◌≤◌, ◌<◌}
use native.Mathlib.Nat.{add-zero, add-suc, suc-add}
use native.Mathlib.Omega.{arith}
use borrow.Author.Tests.{le-ltb, ltb-false}
use Rattle.coxeter.specs.declared.Kind.{Kind}
use Rattle.coxeter.specs.declared.Kind.TheVariants.{A, B, D}
use Rattle.coxeter.specs.Kinds.{kind_of, lanes}
use Rattle.coxeter.specs.Checks.{check, WordOf}
use Rattle.coxeter.proofs.Acceptance.{rank_within}
use Rattle.coxeter.proofs.Refusals.{then_zero, check_zero}
use Rattle.book_format.specs.declared.Edition.{Edition}
use Rattle.book_format.specs.declared.Edition.TheVariants.{First, Second}
use Rattle.book_format.specs.Books.{offset, kind_at, rank_at}
use Rattle.book_format.specs.Books.{lanes_at, letters_at}
use Rattle.book_format.specs.Books.{greatest_in_book, book_rank_refusal, record_refusal}
use Rattle.book_format.specs.Records.{record_at, records_from}
use Rattle.book_format.specs.Conversion.{other, too_many_lanes, record_conversion_refusal, records_conversion_refusal}
use Rattle.book_format.proofs.RankLaws.{book_rank_accepted, book_rank_refusal_none, book_rank_within}
use Rattle.book_format.proofs.PresetLaws.{record_tests}
use Rattle.book_format.proofs.LayOuts.{LanesRight, AllRight}

-- ---- one record

-- a record that no check of a conversion refuses
pub record PassingRecord (ed : Edition) (b : List ℕ) (o : ℕ) : Type 0 where
  pub rank : book_rank_refusal ed (kind_at b o) (rank_at b o) ≡ 0
  pub lanes_right : LanesRight (record_at ed b o)
  pub word : WordOf (rank_at b o) (letters_at ed b o)
  pub few : too_many_lanes ed b o ≡ false

pub passing : (ed : Edition) (b : List ℕ) (o : ℕ) → record_conversion_refusal ed b o ≡ 0 → PassingRecord ed b o
unfolding record_conversion_refusal
passing ed b o z =
    let a = then_zero (record_refusal ed b o) (check 18 (too_many_lanes ed b o)) z in
    let t = record_tests ed b o a.0 in
    record { rank = t.0; lanes_right = t.1; word = t.2; few = check_zero 18 (too_many_lanes ed b o) refl a.1 }

-- a rank of the first edition has at most 32 lanes, and one with so few is a rank of the first
few_lanes : (k : Kind) (n : ℕ) → n ≤ greatest_in_book First k → lanes k n ≤ 32
few_lanes A n h = omega arith
few_lanes B n h = omega arith
few_lanes D n h = omega arith

of_few_lanes : (k : Kind) (n : ℕ) → lanes k n ≤ 32 → n ≤ greatest_in_book First k
of_few_lanes A n h = omega arith
of_few_lanes B n h = omega arith
of_few_lanes D n h = omega arith

-- its rank is one of the other edition too
pub rank_other : (ed : Edition) (b : List ℕ) (o : ℕ) → PassingRecord ed b o → book_rank_refusal (other ed) (kind_at b o) (rank_at b o) ≡ 0
unfolding too_many_lanes
rank_other First b o p =
    let r = book_rank_accepted First (kind_at b o) (rank_at b o) p.rank in
    book_rank_refusal_none Second (kind_at b o) (rank_at b o) 0 (sym r) refl (rank_within (kind_at b o) (rank_at b o) r).1
rank_other Second b o p =
    let r = book_rank_accepted Second (kind_at b o) (rank_at b o) p.rank in
    let h : lanes (kind_of (kind_at b o)) (rank_at b o) ≤ 32 = rw (← p.lanes_right) (ltb-false 32 (lanes_at Second b o) p.few) in
    book_rank_refusal_none First (kind_at b o) (rank_at b o) 0 (sym r) refl (of_few_lanes (kind_of (kind_at b o)) (rank_at b o) h)

-- and going back it has few enough lanes
pub few_other : (ed : Edition) (b d : List ℕ) (o p : ℕ) → PassingRecord ed b o → lanes_at (other ed) d p ≡ lanes_at ed b o → too_many_lanes (other ed) d p ≡ false
unfolding too_many_lanes
few_other First b d o p w e =
    let h = few_lanes (kind_of (kind_at b o)) (rank_at b o) (book_rank_within First (kind_at b o) (rank_at b o) w.rank).1 in
    rw (e, le-ltb 32 (lanes (kind_of (kind_at b o)) (rank_at b o)) h)
few_other Second b d o p w e = refl

-- ---- the records

-- each of the t records from record i on passes
module _ (ed : Edition) (b : List ℕ) where
  pub record_passes : (t i j : ℕ) → records_conversion_refusal ed b t i ≡ 0 → j < t → PassingRecord ed b (offset b (i + j))
  unfolding records_conversion_refusal
  record_passes zero i j z h = absurd (omega arith)
  record_passes (suc t) i zero z h =
      rw (add-zero i) (passing ed b (offset b i) (then_zero (record_conversion_refusal ed b (offset b i)) (records_conversion_refusal ed b t (suc i)) z).0)
  record_passes (suc t) i (suc j) z h =
      rw (add-suc i j, ← suc-add i j)
      (record_passes t (suc i) j (then_zero (record_conversion_refusal ed b (offset b i)) (records_conversion_refusal ed b t (suc i)) z).1 (omega arith))

  pub lanes_all_right : (t i : ℕ) → records_conversion_refusal ed b t i ≡ 0 → AllRight (other ed) (records_from ed b t i)
  unfolding records_conversion_refusal records_from
  lanes_all_right zero i z = tt
  lanes_all_right (suc t) i z =
      let a = then_zero (record_conversion_refusal ed b (offset b i)) (records_conversion_refusal ed b t (suc i)) z in
      (λ e. (passing ed b (offset b i) a.0).lanes_right, lanes_all_right t (suc i) a.1)

-- books with the same records have them place by place
pub record_same : (ed ed' : Edition) (b d : List ℕ) (t i j : ℕ) → records_from ed b t i ≡ records_from ed' d t i → j < t
    → record_at ed b (offset b (i + j)) ≡ record_at ed' d (offset d (i + j))
unfolding records_from
record_same ed ed' b d zero i j e h = absurd (omega arith)
record_same ed ed' b d (suc t) i zero e h = rw (add-zero i) (cc)
record_same ed ed' b d (suc t) i (suc j) e h =
    let rest : records_from ed b t (suc i) ≡ records_from ed' d t (suc i) = cc in
    rw (add-suc i j, ← suc-add i j) (record_same ed ed' b d t (suc i) j rest (omega arith))
