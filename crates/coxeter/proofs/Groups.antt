-- What the code's kinds, groups and refusals are in the numbers of the definitions.
-- Assumes nothing.
use mathlib.Core.Path.{◌≡◌, refl, sym, ap, subst, ◌∙◌}
use Prim.Native.Nat.{ℕ, ◌≤◌, ◌<◌}
use native.Mathlib.Omega.{arith}
use mathlib.Core.Bool.{false, or-true}
use lib.Dec.{ltb}
use borrow.Author.Tests.{le-ltb, lt-ltb}
use Rattle.std.specs.Prelude.{Result, Ok, Err, IsErr, IsErrAnd}
use Rattle.coxeter.specs.declared.Kind.{Kind}
use Rattle.coxeter.specs.declared.Kind.TheVariants.{A, B, D}
use Rattle.coxeter.specs.Kinds.{kind_of, kind_number, lanes, least, greatest}
use Rattle.coxeter.specs.Checks.{check, ◌then◌, wrong_kind, wrong_rank, rank_refusal, RankOf}
use Rattle.coxeter.specs.declared.Refusal.{Refusal}
use Rattle.coxeter.specs.Refusals.{number, refusal_of}
use Rattle.coxeter.specs.declared.Refusal.TheVariants.{BookSize, BookCount, BookLayout, NoSuchPreset, UnknownKind, RankOutOfRange, WordTooLong, WrongLetter, WindowLength, WrongEntry, OddNegatives, PlacePastEnd, NewBookTooLong, OutputTooShort, ListTooShort, StepAboveRank, WrongLaneCount, TooManyLanes, OutOfReach, NoDelayTable, RetiredGroup}
use Rattle.coxeter.proofs.Acceptance.{Ranked}
use Rattle.coxeter.proofs.Refusals.{then_refused, then_next}

pub kind_of_number : (k : Kind) → kind_of (kind_number k) ≡ k
unfolding kind_of
kind_of_number A = refl
kind_of_number B = refl
kind_of_number D = refl

-- check 5 lets the number of a kind pass
pub kind_number_passes : (k : Kind) → wrong_kind (kind_number k) ≡ false
unfolding wrong_kind
kind_number_passes A = refl
kind_number_passes B = refl
kind_number_passes D = refl

-- the kind of a number from the number of a kind
pub numbered_kind : {k : Kind} {j : ℕ} → kind_number k ≡ j → k ≡ kind_of j
numbered_kind {k} {j} e = sym (kind_of_number k) ∙ ap kind_of e

-- ---- the rank of a group, from its ghost field

abbrev pub InRange : Kind → ℕ → Type 0
InRange k n = (least k ≤ n) × (n ≤ greatest k)

pub in_range_ranked : (k : Kind) (n : ℕ) → InRange k n → Ranked k n
in_range_ranked A n h = (h.0, omega (arith, h.1))
in_range_ranked B n h = (h.0, omega (arith, h.1))
in_range_ranked D n h = (h.0, omega (arith, h.1))

pub in_range_accepted : (k : Kind) (n : ℕ) → InRange k n → RankOf (kind_number k) n
unfolding rank_refusal wrong_kind wrong_rank kind_of
in_range_accepted A n h = rw (le-ltb n 1 h.0, le-ltb 63 n h.1) refl
in_range_accepted B n h = rw (le-ltb n 2 h.0, le-ltb 64 n h.1) refl
in_range_accepted D n h = rw (le-ltb n 4 h.0, le-ltb 64 n h.1) refl

-- what a law says of every kind by its number and every rank of it holds of a group
pub by_number : (P : Kind → ℕ → Type 0) → ((j n : ℕ) → RankOf j n → P (kind_of j) n) → (k : Kind) (n : ℕ) → InRange k n → P k n
unfolding kind_of
by_number P f k n h = subst (λ j. P j n) (kind_of_number k) (f (kind_number k) n (in_range_accepted k n h))

pub rank_le : (k : Kind) (n : ℕ) → InRange k n → (1 ≤ n) × (n ≤ 64)
rank_le A n h = (h.0, omega (arith, h.1))
rank_le B n h = (omega (arith, h.0), h.1)
rank_le D n h = (omega (arith, h.0), h.1)

pub group_lanes_le : (k : Kind) (n : ℕ) → InRange k n → lanes k n ≤ 64
group_lanes_le A n h = omega (arith, h.1)
group_lanes_le B n h = h.1
group_lanes_le D n h = h.1

-- ---- refusals

-- no refusal is 0, which stands for none
pub number_positive : (r : Refusal) → number r ≡ 0 → ⊥
number_positive = elim [ BookSize ↦ λ e. omega (arith, e) | BookCount ↦ λ e. omega (arith, e) | BookLayout ↦ λ e. omega (arith, e) | NoSuchPreset ↦ λ e. omega (arith, e) | UnknownKind ↦ λ e. omega (arith, e) | RankOutOfRange ↦ λ e. omega (arith, e) | WordTooLong ↦ λ e. omega (arith, e) | WrongLetter ↦ λ e. omega (arith, e) | WindowLength ↦ λ e. omega (arith, e) | WrongEntry ↦ λ e. omega (arith, e) | OddNegatives ↦ λ e. omega (arith, e) | PlacePastEnd ↦ λ e. omega (arith, e) | NewBookTooLong ↦ λ e. omega (arith, e) | OutputTooShort ↦ λ e. omega (arith, e) | ListTooShort ↦ λ e. omega (arith, e) | StepAboveRank ↦ λ e. omega (arith, e) | WrongLaneCount ↦ λ e. omega (arith, e) | TooManyLanes ↦ λ e. omega (arith, e) | OutOfReach ↦ λ e. omega (arith, e) | NoDelayTable ↦ λ e. omega (arith, e) | RetiredGroup ↦ λ e. omega (arith, e) ]

-- ---- checks made one after another, as code meets them: what `?` hands on, and what it learns where it goes on

-- a result that `?` makes of the refusal e, the number of which is q
pub handed_on : {X : Type 0} (r : Result X Refusal) (e : Refusal) {q : ℕ} → IsErr r × IsErrAnd r (λ (x : Refusal). x ≡ e) → number e ≡ q → refusal_of r ≡ q
handed_on (Ok x) e h g = absurd h.1
handed_on (Err x) e h g = ap number h.1 ∙ g

-- the checks so far refuse with e
pub refused_first : (q t : ℕ) (e : Refusal) → number e ≡ q → number e ≡ (q then t)
refused_first q t e g = then_refused q (number e) t g (number_positive e)

-- they pass, and the next one refuses with e, or passes with 0
pub then_passed : (q t s : ℕ) → 0 ≡ q → s ≡ t → s ≡ (q then t)
then_passed q t s z g = then_next q 0 t s z refl g

-- check 5 passed for the kind of a group: then check 6 is what is left
by_check_6 : (k : Kind) (n : ℕ) → rank_refusal (kind_number k) n ≡ check 6 (wrong_rank k n)
unfolding rank_refusal wrong_kind kind_of
by_check_6 A n = refl
by_check_6 B n = refl
by_check_6 D n = refl

-- what the tests of a rank make of check 6
module _ (k : Kind) (j n : ℕ) (e : kind_number k ≡ j) where
  pub rank_below : n < least k → 6 ≡ rank_refusal j n
  unfolding wrong_rank
  rank_below l = subst (λ i. 6 ≡ rank_refusal i n) e (rw (by_check_6 k n, lt-ltb n (least k) l) refl)

  pub rank_above : greatest k < n → 6 ≡ rank_refusal j n
  unfolding wrong_rank
  rank_above l = subst (λ i. 6 ≡ rank_refusal i n) e (rw (by_check_6 k n, lt-ltb (greatest k) n l, or-true (ltb n (least k))) refl)

  pub rank_inside : least k ≤ n → n ≤ greatest k → 0 ≡ rank_refusal j n
  unfolding wrong_rank
  rank_inside l g = subst (λ i. 0 ≡ rank_refusal i n) e (rw (by_check_6 k n, le-ltb n (least k) l, le-ltb (greatest k) n g) refl)
