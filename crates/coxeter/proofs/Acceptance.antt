-- What kinds, ranks, words and windows that pass their checks are known to be.
-- Assumes nothing.
use mathlib.Core.Path.{◌≡◌, refl, sym, ◌∙◌}
use mathlib.Core.Bool.{false}
use mathlib.Core.List.{List}
use Prim.Native.Nat.{ℕ, ◌≤◌}
use native.Mathlib.Omega.{arith}
use lib.Dec.{ltb}
use lib.IntN.{ℤ}
use lib.ListN.{length}
use borrow.Author.Tests.{ltb-false}
use Rattle.coxeter.proofs.Basics.{or_false_left, or_false_right}
use Rattle.coxeter.proofs.Refusals.{then_zero, check_zero}
use Rattle.coxeter.specs.declared.Kind.{Kind}
use Rattle.coxeter.specs.declared.Kind.TheVariants.{A, B, D}
use Rattle.coxeter.specs.Kinds.{kind_of, lanes, least, greatest}
use Rattle.coxeter.specs.Checks.{check, ◌then◌, wrong_kind, wrong_rank, too_long, wrong_letter}
use Rattle.coxeter.specs.Checks.{rank_refusal, word_refusal, window_refusal, RankOf, WordOf, WindowOf}

-- ---- what passed checks say

pub rank_within : (k n : ℕ) → RankOf k n → (least (kind_of k) ≤ n) × (n ≤ greatest (kind_of k))
unfolding rank_refusal wrong_rank
rank_within k n h =
    let six : check 6 (wrong_rank (kind_of k) n) ≡ 0 = (then_zero (check 5 (wrong_kind k)) (check 6 (wrong_rank (kind_of k) n)) h).1 in
    let w : wrong_rank (kind_of k) n ≡ false = check_zero 6 (wrong_rank (kind_of k) n) refl six in
    (ltb-false n (least (kind_of k)) (or_false_left _ _ w), ltb-false (greatest (kind_of k)) n (or_false_right (ltb n (least (kind_of k))) _ w))

-- what inner functions ask of a rank: at least its kind's least, at most the greatest of all kinds
abbrev pub Ranked : Kind → ℕ → Type 0
Ranked k n = (least k ≤ n) × (n ≤ 64)

pub rank_accepted : (k n : ℕ) → RankOf k n → Ranked (kind_of k) n
rank_accepted k n h = ((rank_within k n h).0, bounded (kind_of k) (rank_within k n h).1)
  where
    bounded : (k : Kind) → n ≤ greatest k → n ≤ 64
    bounded A g = omega arith
    bounded B g = omega arith
    bounded D g = omega arith

pub letters_accepted : (n : ℕ) (u : List ℕ) → WordOf n u → wrong_letter n u ≡ false
unfolding word_refusal
letters_accepted n u h = check_zero 8 (wrong_letter n u) refl (then_zero (check 7 (too_long u)) (check 8 (wrong_letter n u)) h).1

pub length_accepted : (n : ℕ) (u : List ℕ) → WordOf n u → length u ≤ 4096
unfolding word_refusal too_long
length_accepted n u h = ltb-false 4096 (length u) (check_zero 7 (too_long u) refl (then_zero (check 7 (too_long u)) (check 8 (wrong_letter n u)) h).0)

-- a kind and a rank that pass checks 5 and 6 have at most 64 lanes
pub lanes_le : (k n m : ℕ) → RankOf k n → m ≡ lanes (kind_of k) n → m ≤ 64
lanes_le k n m h e = rw e (fits (kind_of k) (rank_within k n h).1)
  where
    fits : (k : Kind) → n ≤ greatest k → lanes k n ≤ 64
    fits A g = omega arith
    fits B g = omega arith
    fits D g = omega arith

-- ---- checks made one after another

pub two_accepted : (p q r : ℕ) → r ≡ (p then q) → r ≡ 0 → (p ≡ 0) × (q ≡ 0)
two_accepted p q r e z = then_zero p q (sym e ∙ z)

-- those of two words, of two windows and of two presets
three_accepted : (p q s r : ℕ) → r ≡ (p then q then s) → r ≡ 0 → (p ≡ 0) × ((q ≡ 0) × (s ≡ 0))
three_accepted p q s r e z =
    let a = two_accepted p (q then s) r e z in
    (a.0, then_zero q s a.1)

pub words_accepted : (k n : ℕ) (u v : List ℕ) (r : ℕ) → r ≡ (rank_refusal k n then word_refusal n u then word_refusal n v) → r ≡ 0
    → RankOf k n × (WordOf n u × WordOf n v)
words_accepted k n u v = three_accepted (rank_refusal k n) (word_refusal n u) (word_refusal n v)

pub windows_accepted : (k n : ℕ) (u v : List ℤ) (r : ℕ)
    → r ≡ (rank_refusal k n then window_refusal (kind_of k) n u then window_refusal (kind_of k) n v) → r ≡ 0
    → RankOf k n × (WindowOf (kind_of k) n u × WindowOf (kind_of k) n v)
windows_accepted k n u v = three_accepted (rank_refusal k n) (window_refusal (kind_of k) n u) (window_refusal (kind_of k) n v)

pub presets_accepted : (k n : ℕ) (u : List ℕ) (l m : ℕ) (v : List ℕ) (r : ℕ)
    → r ≡ (rank_refusal k n then word_refusal n u then rank_refusal l m then word_refusal m v) → r ≡ 0
    → RankOf k n × (WordOf n u × (RankOf l m × WordOf m v))
presets_accepted k n u l m v r e z =
    let a = three_accepted (rank_refusal k n) (word_refusal n u) (rank_refusal l m then word_refusal m v) r e z in
    let b = then_zero (rank_refusal l m) (word_refusal m v) a.1.1 in
    (a.0, (a.1.0, (b.0, b.1)))
