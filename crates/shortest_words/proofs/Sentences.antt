-- Fallbacks in plain terms (section F and I18 of the specification), at the answer and the places that the call left;
-- one letter to drop is in OneLetterSentences, splits in AllowedSentences and words over allowed steps in
-- AllowedWordSentences. The records of specs/ are taken apart: each field is read out as strongly as it is stated, and
-- a record that is a hypothesis is put together from its plain parts, so that neither a weaker record nor a stronger
-- one would do.
--
-- Sections: part-lists by their places; a fallback, the answer; a fallback, the places kept; a fallback, the verdict.
-- Assumes nothing.
use mathlib.Core.Path.{◌≡◌, refl, sym, ap, subst, ◌∙◌}
use mathlib.Core.Bool.{Bool, true, false, ◌&&◌, true≢false}
use mathlib.Core.Logic.{◌⊎◌, inl, inr, ◌↔◌}
use mathlib.Core.List.{List, []}
use Prim.Native.Nat.{ℕ, ◌≤◌, ◌<◌}
use native.Mathlib.Omega.{arith}
use borrow.Author.Tests.{ltb-true, ltb-false, lt-ltb, le-ltb}
use lib.IntN.{ℤ}
use lib.ListN.{length, get_or, take, drop}
use Rattle.coxeter.specs.declared.Kind.{Kind}
use Rattle.coxeter.specs.Kinds.{kind_of}
use Rattle.coxeter.specs.Windows.{window}
use Rattle.coxeter.specs.Length.{window_length}
use Rattle.coxeter.specs.Checks.{check, ◌then◌, too_short, too_long, wrong_letter, rank_refusal, word_refusal, RankOf, WordOf}
use Rattle.coxeter.specs.NormalForm.{word_normal_form}
use Rattle.coxeter.proofs.Lists.{get_d_take}
use Rattle.coxeter.proofs.Refusals.{then_none, rank_refusal_le, word_refusal_le, then_avoids}
use Rattle.coxeter.proofs.Acceptance.{rank_within, words_accepted}
use Rattle.shortest_words.specs.answers.Fallback.{Fallback}
use Rattle.shortest_words.specs.answers.Fallback.{Kept, No, Refused}
use Rattle.shortest_words.specs.Fallback.{subword_at, HasSubword, FallbackOf, is_fallback, ShortestSubwordPlaces}
use Rattle.shortest_words.specs.Calls.{fallback_answer, kept_count, FellBack}
use Rattle.shortest_words.proofs.Shortest.{window_length_le}
use Rattle.shortest_words.proofs.Places.{rising_bounds, rising_apart, rising_of}
use Rattle.shortest_words.proofs.Fallbacks.{verdict_exactly, verdict_same, verdict_empty}
use Rattle.shortest_words.proofs.Verdicts.{then_last, FallbackCase, fallback_case, no_means, kept_means, short_means}
use Rattle.shortest_words.proofs.Verdicts.{answer_is_no, answer_is_kept, answer_is_short, answer_is_refused, no_unchanged, refused-unchanged}

-- ---- part-lists by their places

-- F2: places inside the word that rise, and the letters there
pub subword_by_places : (k : Kind) (n : ℕ) (u : List ℕ) (w : List ℤ) → HasSubword k n u w
    ↔ ((ps : List ℕ) × ((i : ℕ) → i < length ps → get_or ps i 0 < length u)
    × ((i j : ℕ) → i < j → j < length ps → get_or ps i 0 < get_or ps j 0) × (window k n (subword_at u ps) ≡ w))
subword_by_places k n u w = (
  λ p.
      let r = p.1.rising in
      (p.0, λ i h. (rising_bounds (length u) 0 p.0 r i h).1, rising_apart (length u) 0 p.0 r, p.1.shows),
  λ p. (p.0, record { rising = rising_of (length u) 0 p.0 (λ i h. (omega arith, p.1 i h)) p.2; shows = p.3 }),
)

-- ---- a fallback, the answer

not_exactly : {P : Type 0} (t : Bool) → (t ≡ true) ↔ P → (t ≡ false) ↔ (P → ⊥)
not_exactly true h = (λ e p. true≢false e, λ f. absurd (f (h.0 refl)))
not_exactly false h = (λ e p. true≢false (sym (h.1 p)), λ f. refl)

module _ (k n : ℕ) (present simpler places : List ℕ) where
  abbrev checks : ℕ
  checks = rank_refusal k n then word_refusal n present then word_refusal n simpler

  abbrev falls : Bool
  falls = is_fallback (kind_of k) n present simpler

  abbrev size : ℕ
  size = window_length (kind_of k) (window (kind_of k) n simpler)

  answer_case : FallbackCase checks falls (too_short size places) size (fallback_answer k n present simpler places)
  unfolding fallback_answer
  answer_case =
      rw (then_last (rank_refusal k n) (word_refusal n present) (word_refusal n simpler) (check 14 (falls && too_short size places)))
      (fallback_case checks falls (too_short size places) size)

  passed : RankOf k n × WordOf n present × WordOf n simpler → checks ≡ 0
  passed h = then_none _ _ h.0 ∙ then_none _ _ h.1 ∙ h.2

  all_passed : checks ≡ 0 → RankOf k n × WordOf n present × WordOf n simpler
  all_passed e = let p = words_accepted k n present simpler checks refl e in (p.0, p.1.0, p.1.1)

  checks_14 : checks ≡ 14 → ⊥
  checks_14 =
      then_avoids (rank_refusal k n) _ 13 (λ e. omega (arith, rank_refusal_le k n)) (then_avoids (word_refusal n present) (word_refusal n simpler) 13
      (λ e. omega (arith, word_refusal_le n present)) (λ e. omega (arith, word_refusal_le n simpler)))

  -- of an accepted rank the test is the verdict
  falls_exactly : checks ≡ 0 → (falls ≡ true) ↔ FallbackOf (kind_of k) n present simpler
  falls_exactly e = verdict_exactly (kind_of k) n (rank_within k n (all_passed e).0).0 present simpler

  module _ (a : Fallback) (after : List ℕ) (f : FellBack k n present simpler places a after) where
    -- F2: no when no check refuses and no part-list has the simpler window
    pub no_exactly : (a ≡ No)
        ↔ (RankOf k n × WordOf n present × WordOf n simpler × (FallbackOf (kind_of k) n present simpler → ⊥))
    no_exactly = (
      λ e.
          let t = no_means answer_case (sym f.answer ∙ e) in
          let p = all_passed t.0 in
          (p.0, p.1, p.2, (not_exactly falls (falls_exactly t.0)).0 t.1),
      λ h.
          let z = passed (h.0, h.1, h.2) in
          f.answer ∙ answer_is_no answer_case z ((not_exactly falls (falls_exactly z)).1 h.3),
    )

    -- F2, F8: places come exactly when no check refuses, some part-list has the simpler window and the list has
    -- room for its length
    pub kept_exactly : ((l : ℕ) × (a ≡ Kept l))
        ↔ (RankOf k n × WordOf n present × WordOf n simpler × FallbackOf (kind_of k) n present simpler
        × (window_length (kind_of k) (window (kind_of k) n simpler) ≤ length places))
    unfolding too_short
    kept_exactly = (
      λ e.
          let t = kept_means e.0 answer_case (sym f.answer ∙ e.1) in
          let p = all_passed t.0 in
          (p.0, p.1, p.2, (falls_exactly t.0).0 t.1, ltb-false (length places) size t.2),
      λ h.
          let z = passed (h.0, h.1, h.2) in
          (size, f.answer ∙ answer_is_kept answer_case z ((falls_exactly z).1 h.3) (le-ltb (length places) size h.4)),
    )

    -- F8, C14: 14 exactly when the list has not
    pub short_exactly : (a ≡ Refused 14)
        ↔ (RankOf k n × WordOf n present × WordOf n simpler × FallbackOf (kind_of k) n present simpler
        × (length places < window_length (kind_of k) (window (kind_of k) n simpler)))
    unfolding too_short
    short_exactly = (
      λ e.
          let t = short_means checks_14 answer_case (sym f.answer ∙ e) in
          let p = all_passed t.0 in
          (p.0, p.1, p.2, (falls_exactly t.0).0 t.1, ltb-true (length places) size t.2),
      λ h.
          let z = passed (h.0, h.1, h.2) in
          f.answer ∙ answer_is_short answer_case z ((falls_exactly z).1 h.3) (lt-ltb (length places) size h.4),
    )

    -- F1, CO4: the first refusal of the two words is the answer
    pub first_refusal : (r : ℕ) → (r ≡ 0 → ⊥) → (rank_refusal k n then word_refusal n present then word_refusal n simpler) ≡ r → a ≡ Refused r
    first_refusal r g e = f.answer ∙ answer_is_refused answer_case (λ z. g (sym e ∙ z)) ∙ ap Refused e

    -- F5, D6: a no writes nothing, and neither does a refusal
    pub no_or_refused-unchanged : (a ≡ No) ⊎ ((r : ℕ) × (a ≡ Refused r)) → after ≡ places
    no_or_refused-unchanged e = elim e [
      | inl q ↦ no_unchanged k n present simpler places after (subst (λ (b : Fallback). FellBack k n present simpler places b after) q f)
      | inr q ↦
          refused-unchanged k n present simpler places after q.0 (subst (λ (b : Fallback). FellBack k n present simpler places b after) q.1 f)
    ]

-- ---- a fallback, the places kept

module _ (k n : ℕ) (present simpler places after : List ℕ) (l : ℕ) (f : FellBack k n present simpler places (Kept l) after) where
  kept_subword : ShortestSubwordPlaces (kind_of k) n (word_normal_form (kind_of k) n present) (window (kind_of k) n simpler) (take l after)
  kept_subword = f.kept l refl

  -- F3: as many as the length of the simpler window
  pub kept_many : (l ≡ window_length (kind_of k) (window (kind_of k) n simpler)) × (length (take l after) ≡ l)
  kept_many =
      let e = (kept_means l (answer_case k n present simpler places) (sym f.answer)).3 in
      (e, kept_subword.count ∙ sym e)

  -- F3: they rise
  pub kept_rise : (i j : ℕ) → i < j → j < l → get_or after i 0 < get_or after j 0
  kept_rise i j g h =
      let r = rising_apart _ 0 (take l after) kept_subword.subword.rising i j g (omega (arith, kept_many.1)) in
      omega (arith, r, get_d_take l i after 0 (omega arith), get_d_take l j after 0 h)

  -- F3: they lie inside the present normal form
  pub kept_inside : (i : ℕ) → i < l → get_or after i 0 < length (word_normal_form (kind_of k) n present)
  kept_inside i h =
      let r = (rising_bounds _ 0 (take l after) kept_subword.subword.rising i (omega (arith, kept_many.1))).1 in
      omega (arith, r, get_d_take l i after 0 h)

  -- F3: the letters there have the simpler window
  pub kept_shows : window (kind_of k) n (subword_at (word_normal_form (kind_of k) n present) (take l after)) ≡ window (kind_of k) n simpler
  kept_shows = kept_subword.subword.shows

  -- I2: every other place of the list keeps what it held
  pub kept_past : drop l after ≡ drop l places
  unfolding kept_count
  kept_past = f.others

-- ---- a fallback, the verdict

-- F6: z is any shortest word of the present window, of any length
module _ (k n : ℕ) (present simpler places : List ℕ) (a : Fallback) (after : List ℕ) (f : FellBack k n present simpler places a after)
    (z : List ℕ) (letters : wrong_letter n z ≡ false)
    (shortest : (v : List ℕ) → wrong_letter n v ≡ false → window (kind_of k) n v ≡ window (kind_of k) n z → length z ≤ length v)
    (same : window (kind_of k) n z ≡ window (kind_of k) n present) where
  same_verdict : RankOf k n → FallbackOf (kind_of k) n present simpler ↔ HasSubword (kind_of k) n z (window (kind_of k) n simpler)
  same_verdict r = verdict_same (kind_of k) n (rank_within k n r).0 present simpler z (record { steps = letters; none_shorter = shortest }) same

  -- F6
  pub no_from_every_shortest : (a ≡ No)
      ↔ (RankOf k n × WordOf n present × WordOf n simpler
      × (HasSubword (kind_of k) n z (window (kind_of k) n simpler) → ⊥))
  no_from_every_shortest =
      let e = no_exactly k n present simpler places a after f in (
        λ q. let p = e.0 q in (p.0, p.1, p.2, λ h. p.3 ((same_verdict p.0).1 h)),
        λ p. e.1 (p.0, p.1, p.2, λ h. p.3 ((same_verdict p.0).0 h)),
      )

  -- F6
  pub kept_from_every_shortest : ((l : ℕ) × (a ≡ Kept l))
      ↔ (RankOf k n × WordOf n present × WordOf n simpler × HasSubword (kind_of k) n z (window (kind_of k) n simpler)
      × (window_length (kind_of k) (window (kind_of k) n simpler) ≤ length places))
  kept_from_every_shortest =
      let e = kept_exactly k n present simpler places a after f in (
        λ q. let p = e.0 q in (p.0, p.1, p.2, (same_verdict p.0).0 p.3, p.4),
        λ p. e.1 (p.0, p.1, p.2, (same_verdict p.0).1 p.3, p.4),
      )

-- F6: present words of one window get the same answer
pub same_answer : {k n : ℕ} {present other simpler places : List ℕ} {a b : Fallback} {after also : List ℕ}
    → FellBack k n present simpler places a after → FellBack k n other simpler places b also
    → WordOf n present → WordOf n other → window (kind_of k) n present ≡ window (kind_of k) n other → a ≡ b
unfolding fallback_answer is_fallback
same_answer {k} {n} {present} {other} {simpler} {places} f g p q e =
    let same : fallback_answer k n present simpler places ≡ fallback_answer k n other simpler places = rw (p, q, e) in
    f.answer ∙ same ∙ sym g.answer

-- F7
pub empty_kept : (k n : ℕ) (present places : List ℕ) (a : Fallback) (after : List ℕ) → FellBack k n present [] places a after
    → RankOf k n → WordOf n present → (a ≡ Kept 0) × (after ≡ places)
unfolding kept_count
empty_kept k n present places a after f r p =
    let low = (rank_within k n r).0 in
    let s : window_length (kind_of k) (window (kind_of k) n []) ≡ 0 = omega (arith, window_length_le (kind_of k) n [] low (unfold wrong_letter in refl)) in
    let e = (kept_exactly k n present [] places a after f).1
    (r, p, unfold word_refusal too_long wrong_letter in refl, verdict_empty (kind_of k) n low present, omega (arith, s)) in
    let t = kept_means e.0 (answer_case k n present [] places) (sym f.answer ∙ e.1) in
    let z : a ≡ Kept 0 = e.1 ∙ ap Kept (t.3 ∙ s) in
    (z, (subst (λ (b : Fallback). FellBack k n present [] places b after) z f).others)
