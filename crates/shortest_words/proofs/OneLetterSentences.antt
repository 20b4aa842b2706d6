-- One letter to drop in plain terms (section X of the specification): of every shortest word, for every kind from its
-- least rank on, and at the ranks of check 6.
-- Assumes nothing.
use mathlib.Core.Path.{◌≡◌, sym, subst}
use mathlib.Core.Bool.{false}
use mathlib.Core.Logic.{◌⊎◌, inl, inr, ◌↔◌}
use mathlib.Core.List.{List, [], ◌∷◌, ◌++◌}
use Prim.Native.Nat.{ℕ, ◌≤◌, ◌<◌}
use native.Mathlib.Omega.{arith}
use lib.IntN.{ℤ}
use lib.ListN.{length}
use Rattle.coxeter.specs.declared.Kind.{Kind}
use Rattle.coxeter.specs.Kinds.{kind_of, least}
use Rattle.coxeter.specs.Windows.{window}
use Rattle.coxeter.specs.Length.{window_length}
use Rattle.coxeter.specs.Checks.{wrong_letter, RankOf}
use Rattle.shortest_words.specs.OneLetter.{Shortest, drop_at, OneLetter}
use Rattle.shortest_words.proofs.Exchange.{one_letter, one_letter_front}
use Rattle.shortest_words.proofs.Deletion.{deletion}
use Rattle.shortest_words.proofs.Theorems.{length-added, shortest_exactly, one_letter-accepted}

-- ---- one letter to drop

-- X1, X2: for every kind, from its least rank on, and for every shortest word u, of any length: no word of steps
-- with its window has fewer letters
module _ (k : Kind) (n : ℕ) (u : List ℕ) (rank : least k ≤ n) (letters : wrong_letter n u ≡ false) where
  module _ (shortest : (v : List ℕ) → wrong_letter n v ≡ false → window k n v ≡ window k n u → length u ≤ length v)
      (s : ℕ) (low : 1 ≤ s) (high : s ≤ n) where
    is_shortest : Shortest k n u
    is_shortest = record { steps = letters; none_shorter = shortest }

    -- X2: there is a place
    pub letter_to_drop : window_length k (window k n (u ++ (s ∷ []))) < window_length k (window k n u)
        → (i : ℕ) × (i < length u) × (window k n (drop_at i u) ≡ window k n (u ++ (s ∷ [])))
    letter_to_drop g = let i = (one_letter k n u s rank is_shortest low high).some g in (i.0, i.1.0, i.1.1)

    -- X2: no two
    pub no_two_to_drop : (i j : ℕ) → i < length u → window k n (drop_at i u) ≡ window k n (u ++ (s ∷ []))
        → j < length u → window k n (drop_at j u) ≡ window k n (u ++ (s ∷ [])) → i ≡ j
    no_two_to_drop i j a p b q = (one_letter k n u s rank is_shortest low high).only i j (a, p) (b, q)

    -- X3
    pub none_to_drop : window_length k (window k n u) < window_length k (window k n (u ++ (s ∷ [])))
        → (i : ℕ) → i < length u → window k n (drop_at i u) ≡ window k n (u ++ (s ∷ [])) → ⊥
    none_to_drop g i a p = (one_letter k n u s rank is_shortest low high).none g i (a, p)

    -- X2, X3: the step makes the length smaller or greater, never neither
    pub smaller_or_greater : (window_length k (window k n (u ++ (s ∷ []))) < window_length k (window k n u))
        ⊎ (window_length k (window k n u) < window_length k (window k n (u ++ (s ∷ []))))
    smaller_or_greater = elim (length-added k n s rank low high u) [ inl e ↦ inr (omega (arith, e)) | inr e ↦ inl (omega (arith, e)) ]

    -- X2: the same for a step at the front
    pub front_to_drop : window_length k (window k n (s ∷ u)) < window_length k (window k n u)
        → (i : ℕ) × (i < length u) × (window k n (drop_at i u) ≡ window k n (s ∷ u))
    front_to_drop g = let i = (one_letter_front k n u s rank is_shortest low high).some g in (i.0, i.1.0, i.1.1)

    -- X2: the same for a step at the front
    pub no_two_for_front : (i j : ℕ) → i < length u → window k n (drop_at i u) ≡ window k n (s ∷ u)
        → j < length u → window k n (drop_at j u) ≡ window k n (s ∷ u) → i ≡ j
    no_two_for_front i j a p b q = (one_letter_front k n u s rank is_shortest low high).only i j (a, p) (b, q)

    -- X3: the same for a step at the front
    pub none_for_front : window_length k (window k n u) < window_length k (window k n (s ∷ u))
        → (i : ℕ) → i < length u → window k n (drop_at i u) ≡ window k n (s ∷ u) → ⊥
    none_for_front g i a p = (one_letter_front k n u s rank is_shortest low high).none g i (a, p)

  -- X1, L5: the shortest words are those as long as their window's length
  pub shortest_by_length : ((v : List ℕ) → wrong_letter n v ≡ false → window k n v ≡ window k n u → length u ≤ length v)
      ↔ (length u ≡ window_length k (window k n u))
  shortest_by_length =
      let e = shortest_exactly k n u rank letters in
      (λ f. e.0 (record { steps = letters; none_shorter = f }), λ q. (e.1 q).none_shorter)

  -- X1: a longer one has two letters that can be removed together
  pub two_to_drop : window_length k (window k n u) < length u
      → (i j : ℕ) × (i < j) × (j < length u) × (window k n (drop_at i (drop_at j u)) ≡ window k n u)
  two_to_drop g = let d = deletion k n u rank letters g in (d.first, d.second, d.below, d.inside, d.shows)

-- X2, X3: all of it at the ranks of check 6, the step at the end or at the front
exactly_one : (k : Kind) (n : ℕ) (u : List ℕ) (w : List ℤ) → OneLetter k n u w
    → (window_length k w < window_length k (window k n u)
    → (i : ℕ) × (i < length u) × (window k n (drop_at i u) ≡ w) × ((j : ℕ) → j < length u → window k n (drop_at j u) ≡ w → j ≡ i))
    × (window_length k (window k n u) < window_length k w → (i : ℕ) → i < length u → window k n (drop_at i u) ≡ w → ⊥)
exactly_one k n u w d = (
  λ g. let i = d.some g in (i.0, i.1.0, i.1.1, λ j a p. d.only j i.0 (a, p) i.1),
  λ g i a p. d.none g i (a, p),
)

-- X2, X3
pub one-letter-accepted : (k n : ℕ) (u : List ℕ) (s : ℕ) {w : List ℤ} → RankOf k n → wrong_letter n u ≡ false
    → ((v : List ℕ) → wrong_letter n v ≡ false → window (kind_of k) n v ≡ window (kind_of k) n u → length u ≤ length v) → 1 ≤ s → s ≤ n
    → (w ≡ window (kind_of k) n (u ++ (s ∷ []))) ⊎ (w ≡ window (kind_of k) n (s ∷ u))
    → (window_length (kind_of k) w < window_length (kind_of k) (window (kind_of k) n u)
    → (i : ℕ) × (i < length u) × (window (kind_of k) n (drop_at i u) ≡ w)
    × ((j : ℕ) → j < length u → window (kind_of k) n (drop_at j u) ≡ w → j ≡ i))
    × (window_length (kind_of k) (window (kind_of k) n u) < window_length (kind_of k) w
    → (i : ℕ) → i < length u → window (kind_of k) n (drop_at i u) ≡ w → ⊥)
one-letter-accepted k n u s {w} r letters shortest low high e =
    let d = one_letter-accepted k n u s r (record { steps = letters; none_shorter = shortest }) low high in
    let of : (v : List ℤ) → w ≡ v → OneLetter (kind_of k) n u v → OneLetter (kind_of k) n u w = λ v q. subst (OneLetter (kind_of k) n u) (sym q) in
    exactly_one (kind_of k) n u w (elim e [ inl q ↦ of _ q d.0 | inr q ↦ of _ q d.1 ])
