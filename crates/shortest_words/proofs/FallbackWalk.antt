-- The walk through a word from its last letter to the first decides whether a window is a fallback, and keeps
-- places that serve: by lifting at each letter, and since each kept place lowers the length of the target by one.
--
-- Sections: the walk; the target; the places; the verdict.
-- Assumes nothing.
use mathlib.Core.Path.{◌≡◌, refl, sym, ap, ◌∙◌}
use mathlib.Core.Bool.{Bool, true, false}
use mathlib.Core.Logic.Iff
use mathlib.Core.Logic.{◌↔◌}
use mathlib.Core.List.{List, [], ◌∷◌}
use Prim.Native.Nat.{ℕ, zero, suc, ◌+◌, ◌≤◌}
use native.Mathlib.Omega.{arith}
use lib.Dec.{eqb}
use lib.IntN.{ℤ}
use lib.ListN.{length, get_or, take}
use lib.Seq.{take-suc, take-length}
use Rattle.coxeter.specs.declared.Kind.{Kind}
use Rattle.coxeter.specs.Kinds.{pick, least, lanes}
use Rattle.coxeter.specs.Windows.{act, window_from, identity, window}
use Rattle.coxeter.specs.Length.{window_length}
use Rattle.coxeter.specs.Checks.{wrong_letter}
use Rattle.coxeter.proofs.Levels.{Accepted}
use Rattle.coxeter.proofs.Steps.{act_involution}
use Rattle.coxeter.proofs.LetterLaws.{letter_at}
use Rattle.shortest_words.specs.Descents.{is_descent}
use Rattle.shortest_words.specs.Fallback.{Rising, subword_at, HasSubword, ShortestSubwordPlaces}
use Rattle.shortest_words.proofs.Subwords.{Subword, none, keep, subword_letters}
use Rattle.shortest_words.proofs.Shortest.{window_length_le}
use Rattle.shortest_words.proofs.Places.{subword_nothing, rising_from, subword_of_fallback, fallback_of_subword}
use Rattle.shortest_words.proofs.Descents.{length_of_descent}
use Rattle.shortest_words.proofs.Lifting.{descended, descended_step, descended_same, descended_accepted, lifting}

-- ---- the walk

-- what is left of the target w after the first i letters of u, from the last of them to the first
unfoldable pub left_over : Kind → ℕ → List ℕ → ℕ → List ℤ → List ℤ
left_over k n u zero w = w
left_over k n u (suc i) w = left_over k n u i (descended k n (get_or u i 0) w)

-- the places kept on the way, before the places ps that were kept already
unfoldable pub places_kept : Kind → ℕ → List ℕ → ℕ → List ℤ → List ℕ → List ℕ
places_kept k n u zero w ps = ps
places_kept k n u (suc i) w ps =
    places_kept k n u i (descended k n (get_or u i 0) w) (pick (is_descent k n (get_or u i 0) w) (i ∷ ps) ps)

-- the places, counted from i, of the letters of u that are not 0: a letter that is not kept is made 0
unfoldable pub marked : ℕ → List ℕ → List ℕ
marked i [] = []
marked i (s ∷ u) = pick (eqb s 0) (marked (suc i) u) (i ∷ marked (suc i) u)

-- ---- the target

subword_take : (i : ℕ) (u : List ℕ) → Subword u (take i u)
subword_take zero u = subword_nothing u
subword_take (suc i) [] = none
subword_take (suc i) (a ∷ u) = keep (subword_take i u)

module _ (k : Kind) (n : ℕ) (u : List ℕ) (h : least k ≤ n) (e : wrong_letter n u ≡ false) where
  -- the empty word has one part-list
  empty_exactly : (w : List ℤ) → HasSubword k n [] w ↔ (w ≡ identity (lanes k n))
  unfolding window window_from
  empty_exactly w = (
    λ f. let p = subword_of_fallback k n [] w f in only p.subword p.shows,
    λ q. fallback_of_subword k n [] [] w none (sym q),
  )
    where
      only : {v : List ℕ} → Subword [] v → window k n v ≡ w → w ≡ identity (lanes k n)
      only none g = sym g

  -- the first i letters have a part-list with the window w exactly when the target ends straight
  walk_exactly : (i : ℕ) (w : List ℤ) → i ≤ length u → Accepted k n w → HasSubword k n (take i u) w ↔ (left_over k n u i w ≡ identity (lanes k n))
  unfolding left_over
  walk_exactly zero w l a = empty_exactly w
  walk_exactly (suc i) w l a =
      let s : ℕ = get_or u i 0 in
      let front = subword_letters n (subword_take i u) e in
      rw (take-suc u i 0 l)
      (Iff.trans (lifting k n (take i u) s h front (letter_at n u i l e).0 (letter_at n u i l e).1 w a)
      (walk_exactly i (descended k n s w) (omega arith) (descended_accepted k n s w a)))

  -- ---- the places

  -- the places kept rise
  kept_rising : (i : ℕ) (w : List ℤ) (ps : List ℕ) → i ≤ length u → Rising (length u) i ps → Rising (length u) 0 (places_kept k n u i w ps)
  unfolding places_kept
  kept_rising zero w ps l r = r
  kept_rising (suc i) w ps l r = kept_rising i (descended k n (get_or u i 0) w) _ (omega arith) (kept_rising_by_cases (is_descent k n (get_or u i 0) w))
    where
      kept_rising_by_cases : (t : Bool) → Rising (length u) i (pick t (i ∷ ps) ps)
      kept_rising_by_cases true = (omega arith, l, r)
      kept_rising_by_cases false = rising_from (length u) (suc i) i ps (omega arith) r

  -- their letters lead from what is left of the target to the target
  kept_leads : (i : ℕ) (w : List ℤ) (ps : List ℕ)
      → window_from k n (left_over k n u i w) (subword_at u (places_kept k n u i w ps)) ≡ window_from k n w (subword_at u ps)
  unfolding left_over places_kept subword_at window_from descended
  kept_leads zero w ps = refl
  kept_leads (suc i) w ps = kept_leads i _ _ ∙ kept_leads_by_cases (is_descent k n (get_or u i 0) w)
    where
      kept_leads_by_cases : (t : Bool)
          → window_from k n (pick t (act k n (get_or u i 0) w) w) (subword_at u (pick t (i ∷ ps) ps)) ≡ window_from k n w (subword_at u ps)
      kept_leads_by_cases true = ap (λ (x : List ℤ). window_from k n x (subword_at u ps)) (act_involution k n (get_or u i 0) w)
      kept_leads_by_cases false = refl

  -- there are as many of them as the target has become shorter
  kept_count : (i : ℕ) (w : List ℤ) (ps : List ℕ) → i ≤ length u → Accepted k n w
      → length (places_kept k n u i w ps) + window_length k (left_over k n u i w) ≡ length ps + window_length k w
  unfolding left_over places_kept
  kept_count zero w ps l a = refl
  kept_count (suc i) w ps l a =
      kept_count i (descended k n (get_or u i 0) w) (pick (is_descent k n (get_or u i 0) w) (i ∷ ps) ps) (omega arith)
      (descended_accepted k n (get_or u i 0) w a)
      ∙ kept_count_by_cases (is_descent k n (get_or u i 0) w) refl
    where
      kept_count_by_cases : (t : Bool) → is_descent k n (get_or u i 0) w ≡ t
          → length (pick t (i ∷ ps) ps) + window_length k (descended k n (get_or u i 0) w) ≡ length ps + window_length k w
      kept_count_by_cases true t =
          rw (descended_step k n (get_or u i 0) w t)
          (omega (arith, length_of_descent k n (get_or u i 0) w h (letter_at n u i l e).0 (letter_at n u i l e).1 a t))
      kept_count_by_cases false t = rw (descended_same k n (get_or u i 0) w t)

  -- ---- the verdict

  identity-length : window_length k (identity (lanes k n)) ≡ 0
  unfolding window window_from wrong_letter
  identity-length = let l = window_length_le k n [] h refl in omega arith

  -- some part-list of u has the window w exactly when the target ends straight
  pub walk_decides : (w : List ℤ) → Accepted k n w → HasSubword k n u w ↔ (left_over k n u (length u) w ≡ identity (lanes k n))
  walk_decides w a = rw (take-length u) at (walk_exactly (length u) w (omega arith) a)

  -- and then the places kept serve, and are as many as the length of w
  pub walk_shortest_subword : (w : List ℤ) → Accepted k n w → left_over k n u (length u) w ≡ identity (lanes k n)
      → ShortestSubwordPlaces k n u w (places_kept k n u (length u) w [])
  unfolding window window_from subword_at
  walk_shortest_subword w a ends =
      record {
        subword = record {
          rising = kept_rising (length u) w [] (omega arith) tt;
          shows = rw (← ends) (kept_leads (length u) w []);
        };
        count = omega (arith, kept_count (length u) w [] (omega arith) a, identity-length, ap (window_length k) ends);
      }
