-- The number of a kind that passed check 5 is the one that it came from.
-- Assumes nothing.
use mathlib.Core.Path.{◌≡◌, refl, sym, ap, ◌∙◌}
use Prim.Native.Nat.{ℕ}
use native.Mathlib.Decide.{ℕ_discrete}
use borrow.Author.Tests.{ne_eqb, eqb-true, not-false}
use lib.Dec.{eqb}
use Rattle.coxeter.specs.declared.Kind.{Kind}
use Rattle.coxeter.specs.Kinds.{kind_of, kind_number}
use Rattle.coxeter.specs.Checks.{check, wrong_kind, wrong_rank, rank_refusal, RankOf}
use Rattle.coxeter.proofs.KindLaws.{kind_of-one, kind_of-two, kind_of_three}
use Rattle.coxeter.proofs.Refusals.{then_zero, check_zero}

three : (k : ℕ) → (k ≡ 1 → ⊥) → (k ≡ 2 → ⊥) → check 5 (wrong_kind k) ≡ 0 → k ≡ 3
unfolding wrong_kind
three k f g z = eqb-true k 3 (not-false (eqb k 3) (rw (ne_eqb k 1 f, ne_eqb k 2 g) at (check_zero 5 (wrong_kind k) refl z)))

pub number_kind_of : (k n : ℕ) → RankOf k n → kind_number (kind_of k) ≡ k
unfolding rank_refusal
number_kind_of k n h = elim (ℕ_discrete k 1) [
  | yes e ↦ rw (kind_of-one k e) (sym e)
  | no f ↦ elim (ℕ_discrete k 2) [
    | yes e ↦ rw (kind_of-two k e) (sym e)
    | no g ↦ rw (kind_of_three k f g) (sym (three k f g (then_zero (check 5 (wrong_kind k)) (check 6 (wrong_rank (kind_of k) n)) h).0))
  ]
]

-- and so is that of a group of this kind and this rank
pub number_of_group : {q : Kind} (k n : ℕ) → 0 ≡ rank_refusal k n → q ≡ kind_of k → kind_number q ≡ k
number_of_group k n h e = ap kind_number e ∙ number_kind_of k n (sym h)
