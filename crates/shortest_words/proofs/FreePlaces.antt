-- The places that a fallback keeps, of which the specification leaves several lists free (F3, F4 and G2): what the
-- contract asks of them in plain terms, that every list with these properties may be written, and an input that has
-- two such lists.
--
-- Sections: places that serve; what the contract asks; two lists.
-- Assumes nothing.
use mathlib.Core.Path.{◌≡◌, refl, ap}
use mathlib.Core.Logic.{◌⊎◌, inl, inr, ◌↔◌}
use mathlib.Core.List.{List, [], ◌∷◌, ◌++◌}
use Prim.Native.Nat.{ℕ, ◌≤◌, ◌<◌}
use native.Mathlib.Omega.{arith}
use borrow.Author.Tests.{le-ltb}
use lib.IntN.{ℤ}
use lib.ListN.{length, get_or, take, drop}
use lib.Seq.{take-append_seam, drop-append_seam}
use Rattle.coxeter.specs.declared.Kind.{Kind}
use Rattle.coxeter.specs.declared.Kind.TheVariants.{B}
use Rattle.coxeter.specs.Kinds.{kind_of, up}
use Rattle.coxeter.specs.Windows.{from, swap, negate_first, act, window_from, identity, window, signed, place_from}
use Rattle.coxeter.specs.Length.{later, negative, one, later_than, inversions, negative_sum_pairs, negatives, crossings, total, window_length}
use Rattle.coxeter.specs.Checks.{wrong_kind, wrong_rank, too_long, wrong_letter, too_short, rank_refusal, word_refusal, RankOf, WordOf}
use Rattle.coxeter.specs.NormalForm.{down, rise, fall, block, without, index_of, rest_of, normal_from, normal_form, word_normal_form}
use Rattle.coxeter.specs.Calls.{same_entry, same_window}
use Rattle.coxeter.proofs.Acceptance.{rank_within}
use Rattle.shortest_words.specs.answers.Fallback.{Fallback}
use Rattle.shortest_words.specs.answers.Fallback.{Kept, No, Refused}
use Rattle.shortest_words.specs.Fallback.{subword_at, SubwordPlaces, some_subword, is_fallback}
use Rattle.shortest_words.specs.Calls.{fallback_of, fallback_answer, kept_count, FellBack}
use Rattle.shortest_words.proofs.Places.{rising_bounds, rising_apart, rising_of}
use Rattle.shortest_words.proofs.Fallbacks.{verdict_exactly}
use Rattle.shortest_words.proofs.Sentences.{no_or_refused-unchanged}

-- ---- places that serve

-- F2, F3: places serve exactly when they lie inside the word, rise, and the letters there have the window
pub subword_places_exactly : (k : Kind) (n : ℕ) (u : List ℕ) (w : List ℤ) (ps : List ℕ) → SubwordPlaces k n u w ps
    ↔ (((i : ℕ) → i < length ps → get_or ps i 0 < length u)
    × ((i j : ℕ) → i < j → j < length ps → get_or ps i 0 < get_or ps j 0) × (window k n (subword_at u ps) ≡ w))
subword_places_exactly k n u w ps = (
  λ s. (λ i h. (rising_bounds (length u) 0 ps s.rising i h).1, rising_apart (length u) 0 ps s.rising, s.shows),
  λ p. record { rising = rising_of (length u) 0 ps (λ i h. (omega arith, p.0 i h)) p.1; shows = p.2 },
)

-- ---- what the contract asks

module _ (k n : ℕ) (present simpler places : List ℕ) where
  others_of : (a : Fallback) (after : List ℕ) → ((l : ℕ) → a ≡ Kept l → drop l after ≡ drop l places)
      → ((a ≡ No) ⊎ ((r : ℕ) × (a ≡ Refused r)) → after ≡ places) → drop (kept_count a) after ≡ drop (kept_count a) places
  unfolding kept_count
  others_of (Kept l) after f g = f l refl
  others_of No after f g = g (inl refl)
  others_of (Refused r) after f g = g (inr (r, refl))

  -- F3, F4, F5, G2: beside the answer, the contract of a fallback asks for exactly this of the list: with a yes the
  -- places at its front are as many as the length of the simpler window, lie inside the present normal form and
  -- rise, the letters there have the simpler window, and the rest of the list is as it was lent; with a no or a
  -- refusal all of it is
  pub fell_back_exactly : (a : Fallback) (after : List ℕ)
      → let u = word_normal_form (kind_of k) n present in let w = window (kind_of k) n simpler in
      FellBack k n present simpler places a after
      ↔ ((a ≡ fallback_answer k n present simpler places)
      × ((l : ℕ) → a ≡ Kept l → let ps = take l after in
      (length ps ≡ window_length (kind_of k) w)
      × ((i : ℕ) → i < length ps → get_or ps i 0 < length u)
      × ((i j : ℕ) → i < j → j < length ps → get_or ps i 0 < get_or ps j 0)
      × (window (kind_of k) n (subword_at u ps) ≡ w)
      × (drop l after ≡ drop l places))
      × ((a ≡ No) ⊎ ((r : ℕ) × (a ≡ Refused r)) → after ≡ places))
  unfolding kept_count
  fell_back_exactly a after = (
    λ f. (
      f.answer,
      λ l e.
          let s = f.kept l e in
          let p = (subword_places_exactly (kind_of k) n _ _ (take l after)).0 s.subword in
          (s.count, p.0, p.1, p.2, rw e at f.others),
      no_or_refused-unchanged k n present simpler places a after f,
    ),
    λ h. record {
      answer = h.0;
      kept = λ l e. let p = h.1 l e in record { subword = (subword_places_exactly (kind_of k) n _ _ _).1 (p.1, p.2, p.3); count = p.0 };
      others = others_of a after (λ l e. (h.1 l e).4) h.2;
    },
  )

  -- F4, G2: every list of places with the properties of F3 is one that the contract lets the call write
  pub every_list_may_come : (ps : List ℕ)
      → let u = word_normal_form (kind_of k) n present in let w = window (kind_of k) n simpler in
      RankOf k n → WordOf n present → WordOf n simpler → length ps ≤ length places
      → length ps ≡ window_length (kind_of k) w
      → ((i : ℕ) → i < length ps → get_or ps i 0 < length u)
      → ((i j : ℕ) → i < j → j < length ps → get_or ps i 0 < get_or ps j 0)
      → window (kind_of k) n (subword_at u ps) ≡ w
      → FellBack k n present simpler places (Kept (length ps)) (ps ++ drop (length ps) places)
  unfolding fallback_answer fallback_of too_short kept_count
  every_list_may_come ps rank p q room many inside rises shows =
      let u = word_normal_form (kind_of k) n present in
      let s = (subword_places_exactly (kind_of k) n u (window (kind_of k) n simpler) ps).1 (inside, rises, shows) in
      let t = (verdict_exactly (kind_of k) n (rank_within k n rank).0 present simpler).1 (ps, s) in
      let l = length ps in
      record {
        answer = rw (rank, p, q, t, ← many, le-ltb (length places) l room);
        kept = λ m e. let o : l ≡ m = cc in rw (← o, take-append_seam ps (drop l places)) (record { subword = s; count = many });
        others = drop-append_seam ps (drop l places);
      }

-- ---- two lists

-- F4: in B₃ the simpler word 2 can be kept at place 1 of 1 2 3 2 1, which is a normal form, or at place 3
pub two-lists_serve : (p : ℕ)
    → FellBack 2 3 (1 ∷ 2 ∷ 3 ∷ 2 ∷ 1 ∷ []) (2 ∷ []) (p ∷ []) (Kept 1) (1 ∷ [])
    × FellBack 2 3 (1 ∷ 2 ∷ 3 ∷ 2 ∷ 1 ∷ []) (2 ∷ []) (p ∷ []) (Kept 1) (3 ∷ [])
unfolding fallback_answer fallback_of is_fallback some_subword same_window same_entry subword_at kept_count kind_of up
    from swap negate_first act window_from identity window signed place_from
    later negative one later_than inversions negative_sum_pairs negatives crossings total window_length
    wrong_kind wrong_rank too_long wrong_letter too_short rank_refusal word_refusal down rise fall block without index_of rest_of normal_from normal_form
two-lists_serve p = (kept_at 1 (omega arith) refl, kept_at 3 (omega arith) refl)
  where
    kept_at : (i : ℕ) → i < 5 → ◌≡◌ {A = ℕ} (get_or (1 ∷ 2 ∷ 3 ∷ 2 ∷ 1 ∷ []) i 0) 2
        → FellBack 2 3 (1 ∷ 2 ∷ 3 ∷ 2 ∷ 1 ∷ []) (2 ∷ []) (p ∷ []) (Kept 1) (i ∷ [])
    kept_at i h e = record {
      answer = refl;
      kept = λ l q.
          let o : ◌≡◌ {A = ℕ} 1 l = cc in
          rw (← o) (record {
            subword = record { rising = (omega arith, h, tt); shows = ap (λ (x : ℕ). window B 3 (x ∷ [])) e };
            count = refl;
          });
      others = refl;
    }
