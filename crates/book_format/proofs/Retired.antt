-- Kind A at rank 1 (K5, B23 and C21 of the specification): only appending asks for it. A record of such a preset
-- passes the checks of reading and of converting, in either edition, as any other does; and the calls on words and
-- windows take its rank.
-- Assumes nothing.
use mathlib.Core.Path.{◌≡◌, refl, ◌∙◌}
use mathlib.Core.Logic.{◌↔◌}
use mathlib.Core.Bool.{Bool, true, false, and-eq-true_iff}
use mathlib.Core.List.{List}
use Prim.Native.Nat.{ℕ}
use lib.Dec.{eqb}
use borrow.Author.Tests.{eq-eqb, eqb-true}
use Rattle.coxeter.specs.Kinds.{kind_of}
use Rattle.coxeter.specs.Checks.{wrong_kind, wrong_rank, rank_refusal, RankOf, WordOf}
use Rattle.book_format.specs.declared.Edition.{Edition}
use Rattle.book_format.specs.declared.Edition.TheVariants.{First, Second}
use Rattle.book_format.specs.Books.{kind_at, rank_at, lanes_at, letters_at, wrong_rank_in_book, book_rank_refusal, record_refusal, retired}
use Rattle.book_format.specs.Conversion.{too_many_lanes, record_conversion_refusal}
use Rattle.book_format.proofs.Appending.{record_refusal_of}

-- 21 is for this kind and rank alone
pub retired_exactly : (k n : ℕ) → (retired k n ≡ true) ↔ ((k ≡ 1) × (n ≡ 1))
unfolding retired
retired_exactly k n =
    (λ h. let t = (and-eq-true_iff (eqb k 1) (eqb n 1)).0 h in (eqb-true k 1 t.0, eqb-true n 1 t.1), λ p. rw (eq-eqb k 1 p.0, eq-eqb n 1 p.1))

-- and no other is
pub not_retired : (k n : ℕ) → ((k ≡ 1) × (n ≡ 1) → ⊥) → retired k n ≡ false
not_retired k n f = not_retired_by_cases (retired k n) refl
  where
    not_retired_by_cases : (t : Bool) → retired k n ≡ t → retired k n ≡ false
    not_retired_by_cases true e = absurd (f ((retired_exactly k n).0 e))
    not_retired_by_cases false e = e

-- the calls on words and windows, and the records of a book
pub rank_1_taken : RankOf 1 1
unfolding rank_refusal wrong_kind wrong_rank kind_of
rank_1_taken = refl

pub rank_1_in_book : (ed : Edition) → book_rank_refusal ed 1 1 ≡ 0
unfolding book_rank_refusal wrong_kind wrong_rank_in_book kind_of
rank_1_in_book First = refl
rank_1_in_book Second = refl

few_lanes : (ed : Edition) (b : List ℕ) (o : ℕ) → lanes_at ed b o ≡ 2 → too_many_lanes ed b o ≡ false
unfolding too_many_lanes
few_lanes First b o m = refl
few_lanes Second b o m = rw m

-- a record of this kind and rank, with its lane count, 2, whose letters pass: u are its letters
module _ (ed : Edition) (b : List ℕ) (o : ℕ) (u : List ℕ) (k : kind_at b o ≡ 1) (n : rank_at b o ≡ 1) (m : lanes_at ed b o ≡ 2) (l : letters_at ed b o ≡ u)
    (w : WordOf 1 u) where
  pub retired_read : record_refusal ed b o ≡ 0
  unfolding kind_of
  retired_read = record_refusal_of ed b o k n m l ∙ rw (rank_1_in_book ed, w)

  pub retired-converted : record_conversion_refusal ed b o ≡ 0
  unfolding record_conversion_refusal
  retired-converted = rw (retired_read, few_lanes ed b o m)
