-- When the call for a way answers a length, and when 14, in plain terms (section A and I23 of the specification): by
-- the word of A3 and A4, whatever word that is. The word that is written, 16 and 19 are in AllowedSentences.
-- Assumes nothing.
use mathlib.Core.Path.{◌≡◌, refl, sym, ◌∙◌}
use mathlib.Core.Bool.{true}
use mathlib.Core.Logic.{◌↔◌}
use mathlib.Core.List.{List, [], ◌∷◌}
use Prim.Native.Nat.{ℕ, ◌≤◌, ◌<◌}
use borrow.Author.Tests.{not-false}
use lib.IntN.{ℤ}
use lib.ListN.{length}
use Rattle.coxeter.specs.answers.Answer.{Answer}
use Rattle.coxeter.specs.answers.Answer.{Length, Refused}
use Rattle.coxeter.specs.Kinds.{kind_of, lanes}
use Rattle.coxeter.specs.Checks.{RankOf, WindowOf, wrong_kind, wrong_rank, wrong_lanes, wrong_entry, odd_negatives}
use Rattle.coxeter.specs.Calls.{Yields, writes}
use Rattle.coxeter.proofs.Acceptance.{rank_within}
use Rattle.coxeter.proofs.Levels.{accepted_of_refusal}
use Rattle.coxeter.proofs.Refusals.{check_zero}
use Rattle.coxeter.proofs.FirstFailing.{first_of-named, window_then}
use Rattle.coxeter.proofs.Writes.{refused, short, made, ended, length_or_refused, answers_exactly, answers_short}
use Rattle.shortest_words.specs.Allowed.{allows, wrong_set}
use Rattle.shortest_words.specs.Between.{IsBetween, between, reachable}
use Rattle.shortest_words.specs.BetweenCalls.{unreachable, between_refusal, between_windows}
use Rattle.shortest_words.proofs.Firsts.{set_then}
use Rattle.shortest_words.proofs.Between.{between_is}
use Rattle.shortest_words.proofs.BetweenChecks.{all_passed}
use Rattle.shortest_words.proofs.BetweenCalls.{between-writes}
use Rattle.shortest_words.proofs.AllowedSentences.{set_passes}

module _ (k n set : ℕ) (v w : List ℤ) where
  -- all checks before 14 pass, and z is the word of A3 and A4
  abbrev Passes : List ℕ → Type 0
  Passes z =
      RankOf k n × ((s : ℕ) → n < s → allows set s ≡ true → ⊥) × WindowOf (kind_of k) n v × WindowOf (kind_of k) n w
      × IsBetween (allows set) (kind_of k) n v w z

  passes : between_refusal k n set v w ≡ 0 → Passes (between (kind_of k) n v w)
  unfolding unreachable
  passes e =
      let p = all_passed k n set v w e in
      let s = (set_passes k n set).0 p.0 in
      let t = not-false (reachable (allows set) (kind_of k) n v w) (check_zero 19 _ refl p.3) in
      let first = accepted_of_refusal (kind_of k) n v p.1 in
      let second = accepted_of_refusal (kind_of k) n w p.2 in
      (s.0, s.1, p.1, p.2, between_is (allows set) (kind_of k) n v w (rank_within k n s.0).0 first second t)

  as_written : (z out : List ℕ) → Passes z → between_windows k n set v w out ≡ writes 0 z out
  as_written z out p = between-writes k n set v w ((set_passes k n set).1 (p.0, p.1)) p.2 p.3 z out p.4

  avoids_14 : between_refusal k n set v w ≡ 14 → ⊥
  unfolding between_refusal
  avoids_14 e =
      let t = set_then k n set (window_then (kind_of k) n v (window_then (kind_of k) n w refl)) in
      first_of-named 13
      ((5, wrong_kind k) ∷ (6, wrong_rank (kind_of k) n) ∷ (16, wrong_set n set)
      ∷ (9, wrong_lanes (kind_of k) n v) ∷ (10, wrong_entry (kind_of k) (lanes (kind_of k) n) v) ∷ (11, odd_negatives (kind_of k) v)
      ∷ (9, wrong_lanes (kind_of k) n w) ∷ (10, wrong_entry (kind_of k) (lanes (kind_of k) n) w) ∷ (11, odd_negatives (kind_of k) w)
      ∷ (19, unreachable (kind_of k) n set v w) ∷ []) refl (sym t ∙ e)

  module _ (out : List ℕ) (a : Answer) (after : List ℕ) (h : Yields (between_windows k n set v w out) a after) where
    yields : (z : List ℕ) → Passes z → Yields (writes 0 z out) a after
    yields z p = rw (as_written z out p) at h

    -- A1, A3, A4, I23: a length is answered exactly when checks 5, 6, 16 and 9 to 11 accept and there is a word of A3
    -- and A4 that has this length and for which the output has room
    pub between_exactly : (l : ℕ) → (a ≡ Length l)
        ↔ (RankOf k n × ((s : ℕ) → n < s → allows set s ≡ true → ⊥) × WindowOf (kind_of k) n v × WindowOf (kind_of k) n w
        × ((z : List ℕ) × IsBetween (allows set) (kind_of k) n v w z × (l ≡ length z) × (l ≤ length out)))
    unfolding between_windows
    between_exactly l =
        let e = answers_exactly (between_refusal k n set v w) (between (kind_of k) n v w) out after a h l in (
          λ q.
              let t = e.0 q in
              let p = passes t.0 in
              (p.0, p.1, p.2, p.3, (between (kind_of k) n v w, p.4, t.1, t.2)),
          λ p. (answers_exactly 0 p.4.0 out after a (yields p.4.0 (p.0, p.1, p.2, p.3, p.4.1)) l).1 (refl, p.4.2, p.4.3),
        )

    -- C14, I23: 14 is answered exactly when those checks accept and there is such a word for which it has none
    pub between_14_exactly : (a ≡ Refused 14)
        ↔ (RankOf k n × ((s : ℕ) → n < s → allows set s ≡ true → ⊥) × WindowOf (kind_of k) n v × WindowOf (kind_of k) n w
        × ((z : List ℕ) × IsBetween (allows set) (kind_of k) n v w z × (length out < length z)))
    unfolding between_windows
    between_14_exactly = (
      λ q. elim (ended (between_refusal k n set v w) (between (kind_of k) n v w) out) [
        | refused f e ↦
            let r : Refused 14 ≡ Refused (between_refusal k n set v w) = sym q ∙ h.0 ∙ sym e.0 in
            absurd (avoids_14 (cc))
        | short z g e ↦ let p = passes z in (p.0, p.1, p.2, p.3, (between (kind_of k) n v w, p.4, g))
        | made z g e ↦ absurd (length_or_refused (sym e.0) (sym h.0 ∙ q))
      ],
      λ p. (answers_short 0 p.4.0 out after a (yields p.4.0 (p.0, p.1, p.2, p.3, p.4.1)) refl p.4.2).0,
    )
