-- What the statements cite of splits (section S of the specification), over the definitions of specs/ alone: of
-- the two words of any window that passes checks 9 to 11, for every kind and rank and every set of steps, and of
-- the call's answer and outputs.
--
-- Sections: the two words; the call; what a call leaves.
-- Assumes nothing.
use mathlib.Core.Path.{◌≡◌, refl, sym, ap₂, ◌∙◌}
use mathlib.Core.Bool.{Bool}
use mathlib.Core.List.{List, []}
use Prim.Native.Nat.{ℕ, ◌+◌, ◌-◌, ◌^◌, ◌≤◌}
use lib.IntN.{ℤ}
use lib.ListN.{length, take, drop}
use Rattle.coxeter.specs.declared.Kind.{Kind}
use Rattle.coxeter.specs.Kinds.{kind_of, least}
use Rattle.coxeter.specs.Windows.{window}
use Rattle.coxeter.specs.Length.{window_length}
use Rattle.coxeter.specs.Checks.{check, ◌then◌, too_short, word_refusal, RankOf, WindowOf}
use Rattle.coxeter.proofs.Refusals.{then_zero}
use Rattle.coxeter.proofs.Unchanged.{kept_whole, kept_past, kept_front}
use Rattle.coxeter.proofs.Acceptance.{rank_within}
use Rattle.coxeter.proofs.Levels.{accepted_of_refusal}
use Rattle.coxeter.proofs.Theorems.{window_passes}
use Rattle.shortest_words.specs.answers.Split.{Words, Refused}
use Rattle.shortest_words.specs.Allowed.{allows, set_refusal}
use Rattle.shortest_words.specs.Split.{IsSplit, first_word, second_word}
use Rattle.shortest_words.specs.SplitCalls.{split_outcome, splitting}
use Rattle.shortest_words.proofs.AllowedSets.{allows_none, allows_all}
use Rattle.shortest_words.proofs.Stripping.{split_is, split_only, split_none, split_all}
use Rattle.shortest_words.proofs.SplitOutcomes.{split_accepted}
use Rattle.shortest_words.proofs.Firsts.{split_of_exactly}

-- ---- the two words

module _ (k : Kind) (n : ℕ) (w : List ℤ) (h : least k ≤ n) (p : WindowOf k n w) where
  -- the definition has the properties, whatever steps are allowed
  pub splits : (allowed : ℕ → Bool) → IsSplit allowed k n w (first_word allowed k n w) (second_word allowed k n w)
  splits allowed = split_is allowed k n w h (accepted_of_refusal k n w p)

  -- S7: of all words u and v, of any length
  pub splits_only : (allowed : ℕ → Bool) (u v : List ℕ) → IsSplit allowed k n w u v → (u ≡ first_word allowed k n w) × (v ≡ second_word allowed k n w)
  splits_only allowed = split_only allowed k n w h (accepted_of_refusal k n w p)

  -- S8
  pub splits_none : first_word (allows 0) k n w ≡ []
  splits_none = split_none (allows 0) k n w h (accepted_of_refusal k n w p) (λ s o l. allows_none s)

  -- and with all allowed the second is
  pub splits_all : second_word (allows (2 ^ n - 1)) k n w ≡ []
  splits_all = split_all (allows (2 ^ n - 1)) k n w h (accepted_of_refusal k n w p) (allows_all n)

-- ---- the call

module _ (k n set : ℕ) (u first second : List ℕ) where
  abbrev shown : List ℤ
  shown = window (kind_of k) n u

  abbrev taken : List ℕ
  taken = first_word (allows set) (kind_of k) n (window (kind_of k) n u)

  abbrev left : List ℕ
  left = second_word (allows set) (kind_of k) n (window (kind_of k) n u)

  abbrev checks : ℕ
  checks = set_refusal k n set then word_refusal n u

  abbrev refusal : ℕ
  refusal = checks then check 14 (too_short (length taken) first) then check 14 (too_short (length left) second)

  module _ (a b : ℕ) (h : (splitting k n set u first second).answer ≡ Words a b) where
    told : (refusal ≡ 0)
        × (take a (splitting k n set u first second).first ≡ taken)
        × (take b (splitting k n set u first second).second ≡ left)
        × (length taken ≡ a)
        × (length left ≡ b)
    unfolding splitting split_outcome
    told =
        let g = ((split_of_exactly refusal (length taken) (length left)).1 a b).0 h in
        (g.0, kept_front refusal taken first g.1 g.0, kept_front refusal left second g.2 g.0, g.1, g.2)

    -- such an answer comes only where checks 5 and 6 pass
    pub splitting_accepted : RankOf k n
    splitting_accepted = (split_accepted k n set u checks refl (then_zero checks _ told.0).0).0

    rank : least (kind_of k) ≤ n
    rank = (rank_within k n splitting_accepted).0

    -- the fronts of the two outputs are the two words
    pub splitting_splits : IsSplit (allows set) (kind_of k) n (window (kind_of k) n u)
        (take a (splitting k n set u first second).first) (take b (splitting k n set u first second).second)
    splitting_splits = rw (told.1, told.2) (splits (kind_of k) n shown rank (window_passes (kind_of k) n u) (allows set))

    pub splitting_only : (x y : List ℕ) → IsSplit (allows set) (kind_of k) n (window (kind_of k) n u) x y
        → (x ≡ take a (splitting k n set u first second).first) × (y ≡ take b (splitting k n set u first second).second)
    splitting_only x y s = rw (told.1, told.2) (splits_only (kind_of k) n shown rank (window_passes (kind_of k) n u) (allows set) x y s)

    -- S6
    pub splitting_lengths : a + b ≡ window_length (kind_of k) (window (kind_of k) n u)
    splitting_lengths =
        ap₂ ◌+◌ (sym told.3) (sym told.4) ∙ (splits (kind_of k) n shown rank (window_passes (kind_of k) n u) (allows set)).lengths

    -- ---- what a call leaves

    -- what lies behind the two words keeps what it held
    pub splitting-past : (drop a (splitting k n set u first second).first ≡ drop a first)
        × (drop b (splitting k n set u first second).second ≡ drop b second)
    unfolding splitting split_outcome
    splitting-past = (kept_past refusal taken first (λ z. told.3), kept_past refusal left second (λ z. told.4))

  -- a refused call changes no byte of either output
  pub splitting-unchanged : (r : ℕ) → (splitting k n set u first second).answer ≡ Refused r
      → ((splitting k n set u first second).first ≡ first) × ((splitting k n set u first second).second ≡ second)
  unfolding splitting split_outcome
  splitting-unchanged r h =
      let e = ((split_of_exactly refusal (length taken) (length left)).0 r).0 h in
      (kept_whole refusal taken first e, kept_whole refusal left second e)
