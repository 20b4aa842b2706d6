-- Checks 5 and 6 of a record beside those of a call: a book's ranges lie inside the calls' ranges, so what the
-- calls refuse is refused with the same number, and what is left to test is the book's own upper end.
-- Assumes nothing.
use mathlib.Core.Path.{◌≡◌, refl, sym, ◌∙◌}
use mathlib.Core.Bool.{Bool, true, false, ◌||◌}
use Prim.Native.Nat.{ℕ, ◌≤◌, ◌<◌}
use native.Mathlib.Decide.{ℕ_discrete}
use native.Mathlib.Omega.{arith}
use lib.Dec.{ltb}
use borrow.Author.Tests.{lt-ltb, le-ltb, ltb-true, ltb-false}
use Rattle.coxeter.specs.declared.Kind.{Kind}
use Rattle.coxeter.specs.declared.Kind.TheVariants.{A, B, D}
use Rattle.coxeter.specs.Kinds.{kind_of, least, greatest}
use Rattle.coxeter.specs.Checks.{check, ◌then◌, wrong_kind, wrong_rank, rank_refusal, RankOf}
use Rattle.coxeter.proofs.Acceptance.{rank_within}
use Rattle.coxeter.proofs.Basics.{or_false_left, or_false_right}
use Rattle.coxeter.proofs.Refusals.{then_zero, check_zero}
use Rattle.book_format.specs.declared.Edition.{Edition}
use Rattle.book_format.specs.declared.Edition.TheVariants.{First, Second}
use Rattle.book_format.specs.Books.{greatest_in_book, wrong_rank_in_book, book_rank_refusal}

greatest_in_book_le : (ed : Edition) (k : Kind) → greatest_in_book ed k ≤ greatest k
greatest_in_book_le First A = omega arith
greatest_in_book_le First B = omega arith
greatest_in_book_le First D = omega arith
greatest_in_book_le Second k = omega arith

or_wider : (low high higher : Bool) → (high ≡ true → higher ≡ true) → (low || high) ≡ true → (low || higher) ≡ true
or_wider true high higher f h = refl
or_wider false high higher f h = f h

wrong_rank-in_book : (ed : Edition) (k : Kind) (n : ℕ) → wrong_rank k n ≡ true → wrong_rank_in_book ed k n ≡ true
unfolding wrong_rank wrong_rank_in_book
wrong_rank-in_book ed k n =
    or_wider (ltb n (least k)) (ltb (greatest k) n) (ltb (greatest_in_book ed k) n)
    (λ t. let h = ltb-true (greatest k) n t in lt-ltb (greatest_in_book ed k) n (omega (arith, greatest_in_book_le ed k)))

sixth : (kind rank in_book : Bool) → (rank ≡ true → in_book ≡ true) → ((check 5 kind then check 6 rank) ≡ 0 → ⊥)
    → (check 5 kind then check 6 in_book) ≡ (check 5 kind then check 6 rank)
sixth true rank in_book h f = refl
sixth false true in_book h f = rw (h refl)
sixth false false in_book h f = absurd (f refl)

-- r is the refusal of the kind and the rank by the calls' ranges
module _ (ed : Edition) (k n r : ℕ) (e : r ≡ rank_refusal k n) where
  pub book_rank_refusal-refused : (r ≡ 0 → ⊥) → book_rank_refusal ed k n ≡ r
  unfolding rank_refusal book_rank_refusal
  book_rank_refusal-refused f =
      sixth (wrong_kind k) (wrong_rank (kind_of k) n) (wrong_rank_in_book ed (kind_of k) n) (wrong_rank-in_book ed (kind_of k) n) (λ z. f (e ∙ z)) ∙ sym e

  module _ (z : r ≡ 0) where
    right_kind : check 5 (wrong_kind k) ≡ 0
    unfolding rank_refusal
    right_kind = (then_zero (check 5 (wrong_kind k)) (check 6 (wrong_rank (kind_of k) n)) (sym e ∙ z)).0

    pub book_rank_refusal-above : greatest_in_book ed (kind_of k) < n → book_rank_refusal ed k n ≡ 6
    unfolding book_rank_refusal wrong_rank_in_book
    book_rank_refusal-above h = rw (right_kind, lt-ltb (greatest_in_book ed (kind_of k)) n h, le-ltb n (least (kind_of k)) (rank_within k n (sym e ∙ z)).0)

    pub book_rank_refusal_none : n ≤ greatest_in_book ed (kind_of k) → book_rank_refusal ed k n ≡ 0
    unfolding book_rank_refusal wrong_rank_in_book
    book_rank_refusal_none h = rw (right_kind, le-ltb (greatest_in_book ed (kind_of k)) n h, le-ltb n (least (kind_of k)) (rank_within k n (sym e ∙ z)).0)

-- the second edition has the ranges of the calls
pub book_rank_refusal_second : (k n r : ℕ) → r ≡ rank_refusal k n → r ≡ 0 → book_rank_refusal Second k n ≡ 0
book_rank_refusal_second k n r e z = book_rank_refusal_none Second k n r e z (rank_within k n (sym e ∙ z)).1

-- a kind and a rank that a record may have, every call takes
pub book_rank_accepted : (ed : Edition) (k n : ℕ) → book_rank_refusal ed k n ≡ 0 → RankOf k n
book_rank_accepted ed k n h =
    elim (ℕ_discrete (rank_refusal k n) 0) [ yes z ↦ z | no f ↦ absurd (f (sym (book_rank_refusal-refused ed k n (rank_refusal k n) refl f) ∙ h)) ]

-- a rank that a record may have lies in its range
pub book_rank_within : (ed : Edition) (k n : ℕ) → book_rank_refusal ed k n ≡ 0 → (least (kind_of k) ≤ n) × (n ≤ greatest_in_book ed (kind_of k))
unfolding book_rank_refusal wrong_rank_in_book
book_rank_within ed k n h =
    let six = (then_zero (check 5 (wrong_kind k)) (check 6 (wrong_rank_in_book ed (kind_of k) n)) h).1 in
    let w = check_zero 6 (wrong_rank_in_book ed (kind_of k) n) refl six in
    let low = ltb n (least (kind_of k)) in
    let high = ltb (greatest_in_book ed (kind_of k)) n in
    (ltb-false n (least (kind_of k)) (or_false_left low high w), ltb-false (greatest_in_book ed (kind_of k)) n (or_false_right low high w))
