-- Definitions on words, letter by letter: a word over allowed steps, the letters at given places, and a word without
-- one of its letters.
-- Assumes nothing.
use mathlib.Core.Path.{◌≡◌, refl, ap}
use mathlib.Core.Bool.{Bool, true}
use mathlib.Core.Logic.{◌↔◌}
use mathlib.Core.List.{List, [], ◌∷◌, ◌++◌}
use Prim.Native.Nat.{ℕ, zero, suc, ◌≤◌, ◌<◌}
use native.Mathlib.Omega.{arith}
use lib.ListN.{length, get_or}
use Rattle.shortest_words.specs.Allowed.{over, Over}
use Rattle.shortest_words.specs.Fallback.{subword_at}
use Rattle.shortest_words.specs.OneLetter.{drop_at}
use Rattle.shortest_words.proofs.Allowed.{over_cons, over-head, over-tail}
use Rattle.shortest_words.proofs.Deletion.{drop_at_seam}

-- S2: a word is over allowed steps exactly when each of its letters is allowed
pub over_exactly : (allowed : ℕ → Bool) (u : List ℕ) → Over allowed u ↔ ((i : ℕ) → i < length u → allowed (get_or u i 0) ≡ true)
over_exactly allowed u = (there u, back u)
  where
    there : (u : List ℕ) → Over allowed u → (i : ℕ) → i < length u → allowed (get_or u i 0) ≡ true
    there [] o i h = absurd (omega arith)
    there (s ∷ u) o zero h = over-head allowed s u o
    there (s ∷ u) o (suc i) h = there u (over-tail allowed s u o) i (omega arith)

    back : (u : List ℕ) → ((i : ℕ) → i < length u → allowed (get_or u i 0) ≡ true) → Over allowed u
    back [] f = unfold over in refl
    back (s ∷ u) f = over_cons allowed s u (f 0 (omega arith)) (back u (λ i h. f (suc i) (omega arith)))

-- F3: there is one letter for each place, and letter i of them is the word's letter at place i of the list
pub subword_at_exactly : (u ps : List ℕ) → (length (subword_at u ps) ≡ length ps)
    × ((i : ℕ) → i < length ps → get_or (subword_at u ps) i 0 ≡ get_or u (get_or ps i 0) 0)
unfolding subword_at
subword_at_exactly u ps = (many ps, each ps)
  where
    many : (ps : List ℕ) → length (subword_at u ps) ≡ length ps
    many [] = refl
    many (p ∷ ps) = ap suc (many ps)

    each : (ps : List ℕ) (i : ℕ) → i < length ps → get_or (subword_at u ps) i 0 ≡ get_or u (get_or ps i 0) 0
    each [] i h = absurd (omega arith)
    each (p ∷ ps) zero h = refl
    each (p ∷ ps) (suc i) h = each ps i (omega arith)

-- X2: without the letter at a place a word has the letters before it and then those after it; past its end there is
-- no letter to remove
pub dropped_exactly : ((x y : List ℕ) (a : ℕ) → drop_at (length x) (x ++ (a ∷ y)) ≡ x ++ y)
    × ((i : ℕ) (u : List ℕ) → length u ≤ i → drop_at i u ≡ u)
unfolding drop_at
dropped_exactly = (λ x y a. drop_at_seam x a y, past)
  where
    past : (i : ℕ) (u : List ℕ) → length u ≤ i → drop_at i u ≡ u
    past i [] h = refl
    past zero (b ∷ u) h = absurd (omega arith)
    past (suc i) (b ∷ u) h = ap (λ (l : List ℕ). b ∷ l) (past i u (omega arith))
