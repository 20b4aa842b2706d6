-- What the definition of the split call says in each case, in the checking order, as code meets it.
--
-- Sections: what writes two words; the call.
-- Assumes nothing.
use mathlib.Core.Path.{◌≡◌, refl}
use mathlib.Core.List.{List}
use Prim.Native.Nat.{ℕ, ◌≤◌, ◌<◌}
use borrow.Author.Tests.{ne_eqb, lt-ltb, le-ltb}
use lib.ListN.{length}
use Rattle.coxeter.specs.Kinds.{kind_of}
use Rattle.coxeter.specs.Windows.{window}
use Rattle.coxeter.specs.Checks.{◌then◌, too_short, rank_refusal, word_refusal, RankOf, WordOf}
use Rattle.coxeter.specs.Calls.{front, written}
use Rattle.coxeter.proofs.Refusals.{then_zero}
use Rattle.coxeter.proofs.Acceptance.{two_accepted}
use Rattle.shortest_words.specs.answers.Split.{Split}
use Rattle.shortest_words.specs.answers.Split.{Words, Refused}
use Rattle.shortest_words.specs.Allowed.{allows, set_refusal}
use Rattle.shortest_words.specs.Split.{first_word, second_word}
use Rattle.shortest_words.specs.SplitCalls.{split_of, split_outcome, splitting, SplitYields}

-- ---- what writes two words

-- a and b are the lengths of u and v as they were computed
module _ (u v first second : List ℕ) (a b : ℕ) (e : a ≡ length u) where
  pub first_short : length first < a → SplitYields (split_outcome 0 u v first second) (Refused 14) first second
  unfolding split_outcome split_of written too_short
  first_short h = rw (← e, lt-ltb (length first) a h) (refl, refl, refl)

  module _ (f : b ≡ length v) (g : a ≤ length first) where
    pub second_short : length second < b → SplitYields (split_outcome 0 u v first second) (Refused 14) first second
    unfolding split_outcome split_of written too_short
    second_short h = rw (← e, ← f, le-ltb (length first) a g, lt-ltb (length second) b h) (refl, refl, refl)

    pub parts_written : (x y : List ℕ) → b ≤ length second → x ≡ front u first → y ≡ front v second
        → SplitYields (split_outcome 0 u v first second) (Words a b) x y
    unfolding split_outcome split_of written too_short
    parts_written x y h p q = rw (← e, ← f, le-ltb (length first) a g, le-ltb (length second) b h) (refl, p, q)

-- ---- the call

-- r is the refusal that was computed before check 14
module _ (k n set : ℕ) (u : List ℕ) (r : ℕ) (e : r ≡ (set_refusal k n set then word_refusal n u)) where
  pub split_accepted : r ≡ 0 → RankOf k n × WordOf n u
  unfolding set_refusal
  split_accepted z = let p = two_accepted _ _ r e z in ((then_zero (rank_refusal k n) _ p.0).0, p.1)

  module _ (first second : List ℕ) where
    pub split_refused : (r ≡ 0 → ⊥) → SplitYields (splitting k n set u first second) (Refused r) first second
    unfolding splitting split_outcome split_of written
    split_refused f = rw (← e, ne_eqb r 0 f) (rw (ne_eqb r 0 f) (refl, refl, refl))

    pub split_passed : r ≡ 0 → (a : Split) (x y : List ℕ)
        → SplitYields (split_outcome 0 (first_word (allows set) (kind_of k) n (window (kind_of k) n u))
        (second_word (allows set) (kind_of k) n (window (kind_of k) n u)) first second)
        a x y
        → SplitYields (splitting k n set u first second) a x y
    unfolding splitting
    split_passed z a x y p = rw (← e, z) p
