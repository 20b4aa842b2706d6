-- Verdicts, crossings, parity, ranks and lengths in plain terms (V1, L2 to L5, CP1, CP2, C11, K4 and M1 of the
-- specification): each law for every input of its call, refused ones included. By the laws of the files before.
--
-- Sections: presets that look alike; crossings; parity; sixty-four lanes.
-- Assumes nothing.
use mathlib.Core.Path.{◌≡◌, refl, sym, ◌∙◌}
use mathlib.Core.Bool.{Bool, true, false, not, false≢true, true≢false, ◌||◌}
use mathlib.Core.Logic.{◌↔◌}
use mathlib.Core.List.{List, [], ◌∷◌, ◌++◌}
use Prim.Native.Nat.{ℕ, ◌+◌, ◌≤◌}
use native.Mathlib.Decide.{ℕ_discrete, dec_le}
use native.Mathlib.Nat.{lt_of_not-le}
use native.Mathlib.Omega.{arith}
use lib.Dec.{ltb}
use lib.IntN.{ℤ}
use lib.ListN.{length, take}
use borrow.Author.Tests.{eq-eqb, ne_eqb, lt-ltb, le-ltb}
use Rattle.coxeter.specs.answers.Answer.{Length, Refused}
use Rattle.coxeter.specs.answers.Verdict as verdict
use Rattle.coxeter.specs.answers.Counted as counted
use Rattle.coxeter.specs.declared.Kind.{Kind}
use Rattle.coxeter.specs.declared.Kind.TheVariants.{A, B, D}
use Rattle.coxeter.specs.Kinds.{kind_of, lanes}
use Rattle.coxeter.specs.Windows.{window}
use Rattle.coxeter.specs.Length.{negative, inversions, negative_sum_pairs, negatives, Crossings, crossings, total, window_length}
use Rattle.coxeter.specs.Checks.{check, ◌then◌, wrong_kind, wrong_rank, wrong_lanes, wrong_entry, odd_negatives}
use Rattle.coxeter.specs.Checks.{rank_refusal, word_refusal, window_refusal, RankOf, WordOf, WindowOf}
use Rattle.coxeter.specs.Parity.{flipped, flag_after, Odd}
use Rattle.coxeter.specs.NormalForm.{normal_form}
use Rattle.coxeter.specs.Calls.{Yields, answer_of, counted_of, same_presets, presets_equal}
use Rattle.coxeter.specs.Calls.{normal_form_of_window, length_of_window, length_of_word, crossings_of_window, crossings_of_word}
use Rattle.coxeter.proofs.Refusals.{then_zero}
use Rattle.coxeter.proofs.Acceptance.{length_accepted, presets_accepted}
use Rattle.coxeter.proofs.Outcomes.{verdict_refused, verdict_yes, verdict_no}
use Rattle.coxeter.proofs.Parity.{flipped_snoc, odd_exactly, flag_is_odd}
use Rattle.coxeter.proofs.Theorems.{window_passes, longest-normal_form, normal_form-fits, equal_lanes, verdict_exactly}
use Rattle.coxeter.proofs.Writes.{length_or_refused}
use Rattle.coxeter.proofs.Written.{normal_form_of_window_accepted, normal_form_of_window_wrote}
use Rattle.coxeter.proofs.KindLaws.{A≢D, B≢D}
use Rattle.coxeter.proofs.TestLaws.{impossible}
use Rattle.coxeter.proofs.AnswersExactly.{verdict_of_exactly, counted_of_exactly}

-- ---- presets that look alike

number_first : {P : Type 0} {q r : ℕ} → P ↔ ((q ≡ r) × (r ≡ 0 → ⊥)) → P ↔ ((r ≡ q) × (r ≡ 0 → ⊥))
number_first e = (λ h. let a = e.0 h in (sym a.0, a.1), λ a. e.1 (sym a.0, a.1))

module _ (k n : ℕ) (u : List ℕ) (l m : ℕ) (v : List ℕ) where
  -- what the checks say where the verdict is no number
  accepted_or : {P : Type 0}
      → (RankOf k n × (WordOf n u × (RankOf l m × WordOf m v)) → P)
      → ((r : ℕ) → presets_equal k n u l m v ≡ verdict.Refused r → P) → P
  accepted_or given refuses =
      let r = rank_refusal k n then word_refusal n u then rank_refusal l m then word_refusal m v in
      elim (ℕ_discrete r 0) [
        | yes z ↦ given (presets_accepted k n u l m v r refl z)
        | no f ↦ refuses r (sym (verdict_refused k n u l m v refl f))
      ]

  -- V1, I15: yes exactly then, if the four checks accept
  pub verdict_yes_exactly : (presets_equal k n u l m v ≡ verdict.Yes)
      ↔ (RankOf k n × WordOf n u × RankOf l m × WordOf m v
      × (lanes (kind_of k) n ≡ lanes (kind_of l) m) × (window (kind_of k) n u ≡ window (kind_of l) m v))
  verdict_yes_exactly = (
    λ h. accepted_or
        (λ a.
        let e = (verdict_exactly k n u l m v a.0 a.1.0 a.1.1.0 a.1.1.1).0 h in
        (a.0, a.1.0, a.1.1.0, a.1.1.1, equal_lanes k n u l m v e, e))
        (λ r e. impossible (cc)),
    λ a. (verdict_exactly k n u l m v a.0 a.1 a.2 a.3).1 a.5,
  )

  -- V1: else no, and no only then: the windows differ; if the lane counts differ the windows do
  pub verdict_no_exactly : (presets_equal k n u l m v ≡ verdict.No)
      ↔ (RankOf k n × WordOf n u × RankOf l m × WordOf m v
      × (window (kind_of k) n u ≡ window (kind_of l) m v → ⊥))
  verdict_no_exactly = (
    λ h. accepted_or
        (λ a.
        let e = verdict_exactly k n u l m v a.0 a.1.0 a.1.1.0 a.1.1.1 in
        (a.0, a.1.0, a.1.1.0, a.1.1.1, λ q. impossible (cc (e.1 q))))
        (λ r e. impossible (cc)),
    λ a. differ (same_presets k n u l m v) refl a,
  )
    where
      differ : (t : Bool) → t ≡ same_presets k n u l m v
          → (RankOf k n × WordOf n u × RankOf l m × WordOf m v
          × (window (kind_of k) n u ≡ window (kind_of l) m v → ⊥))
          → presets_equal k n u l m v ≡ verdict.No
      differ true e a =
          let z : 0 ≡ (rank_refusal k n then word_refusal n u then rank_refusal l m then word_refusal m v) = rw (a.0, a.1, a.2, a.3) in
          absurd (a.4 ((verdict_exactly k n u l m v a.0 a.1 a.2 a.3).0 (sym (verdict_yes k n u l m v z refl e refl))))
      differ false e a =
          let z : 0 ≡ (rank_refusal k n then word_refusal n u then rank_refusal l m then word_refusal m v) = rw (a.0, a.1, a.2, a.3) in
          sym (verdict_no k n u l m v z refl e refl)

  -- CO3, CO4: a refusal is the first of the checks, the first preset's before the second's
  pub verdict_refused_exactly : (r : ℕ) → (presets_equal k n u l m v ≡ verdict.Refused r)
      ↔ ((r ≡ (rank_refusal k n then word_refusal n u then rank_refusal l m then word_refusal m v)) × (r ≡ 0 → ⊥))
  unfolding presets_equal
  verdict_refused_exactly r = number_first ((verdict_of_exactly _ (same_presets k n u l m v)).0 r)

-- ---- crossings

counted_exactly : (q : ℕ) (s : Crossings) (a b c : ℕ)
    → (counted_of q s ≡ counted.Crossings a b c) ↔ ((q ≡ 0) × (a ≡ s.inversions) × (b ≡ s.negative_sum_pairs) × (c ≡ s.negatives))
counted_exactly q s a b c =
    let e = (counted_of_exactly q s).1 a b c in
    (λ h. let p = e.0 h in (p.0, sym p.1, sym p.2, sym p.3), λ p. e.1 (p.0, sym p.1, sym p.2, sym p.3))

then_both : (q r : ℕ) → q ≡ 0 → r ≡ 0 → (q then r) ≡ 0
then_both q r h g = rw (h, g)

-- L2, with 0 for L3 and L4
pub counts_in_A : (n : ℕ) (w : List ℤ) (a b c : ℕ)
    → (crossings_of_window 1 n w ≡ counted.Crossings a b c)
    ↔ (RankOf 1 n × WindowOf A n w × (a ≡ inversions w) × (b ≡ 0) × (c ≡ 0))
unfolding crossings_of_window crossings kind_of
counts_in_A n w a b c =
    let e = counted_exactly (rank_refusal 1 n then window_refusal A n w) (crossings A w) a b c in (
      λ h. let s = e.0 h in let z = then_zero (rank_refusal 1 n) (window_refusal A n w) s.0 in (z.0, z.1, s.1, s.2, s.3),
      λ h. e.1 (then_both (rank_refusal 1 n) (window_refusal A n w) h.0 h.1, h.2, h.3, h.4),
    )

-- L2, L3, L4
pub counts_in_B : (n : ℕ) (w : List ℤ) (a b c : ℕ)
    → (crossings_of_window 2 n w ≡ counted.Crossings a b c)
    ↔ (RankOf 2 n × WindowOf B n w × (a ≡ inversions w) × (b ≡ negative_sum_pairs w) × (c ≡ negatives w))
unfolding crossings_of_window crossings kind_of
counts_in_B n w a b c =
    let e = counted_exactly (rank_refusal 2 n then window_refusal B n w) (crossings B w) a b c in (
      λ h. let s = e.0 h in let z = then_zero (rank_refusal 2 n) (window_refusal B n w) s.0 in (z.0, z.1, s.1, s.2, s.3),
      λ h. e.1 (then_both (rank_refusal 2 n) (window_refusal B n w) h.0 h.1, h.2, h.3, h.4),
    )

-- L2, L3, with 0 for L4
pub counts_in_D : (n : ℕ) (w : List ℤ) (a b c : ℕ)
    → (crossings_of_window 3 n w ≡ counted.Crossings a b c)
    ↔ (RankOf 3 n × WindowOf D n w × (a ≡ inversions w) × (b ≡ negative_sum_pairs w) × (c ≡ 0))
unfolding crossings_of_window crossings kind_of
counts_in_D n w a b c =
    let e = counted_exactly (rank_refusal 3 n then window_refusal D n w) (crossings D w) a b c in (
      λ h. let s = e.0 h in let z = then_zero (rank_refusal 3 n) (window_refusal D n w) s.0 in (z.0, z.1, s.1, s.2, s.3),
      λ h. e.1 (then_both (rank_refusal 3 n) (window_refusal D n w) h.0 h.1, h.2, h.3, h.4),
    )

-- I13: a word's counts are its window's
pub counts_of_word : (k n : ℕ) (u : List ℕ) → WordOf n u → crossings_of_word k n u ≡ crossings_of_window k n (window (kind_of k) n u)
unfolding crossings_of_word crossings_of_window
counts_of_word k n u h = rw (h, window_passes (kind_of k) n u)

-- CO3, I14: a refusal is the first of the checks
pub counts_of_window-refused : (k n : ℕ) (w : List ℤ) (r : ℕ) → (crossings_of_window k n w ≡ counted.Refused r)
    ↔ ((r ≡ (rank_refusal k n then window_refusal (kind_of k) n w)) × (r ≡ 0 → ⊥))
unfolding crossings_of_window
counts_of_window-refused k n w r = number_first ((counted_of_exactly _ (crossings (kind_of k) w)).0 r)

-- CO3, I13: the same of a word
pub counts_of_word_refused : (k n : ℕ) (u : List ℕ) (r : ℕ) → (crossings_of_word k n u ≡ counted.Refused r)
    ↔ ((r ≡ (rank_refusal k n then word_refusal n u)) × (r ≡ 0 → ⊥))
unfolding crossings_of_word
counts_of_word_refused k n u r = number_first ((counted_of_exactly _ (crossings (kind_of k) (window (kind_of k) n u))).0 r)

-- L5: the length that a call answers is that of the three counts which the other call answers, and no other
total_exactly : (q : ℕ) (s : Crossings) (l : ℕ)
    → (answer_of q (total s) ≡ Length l) ↔ ((a b c : ℕ) × (counted_of q s ≡ counted.Crossings a b c) × (l ≡ a + b + c))
unfolding answer_of total
total_exactly q s l = elim (ℕ_discrete q 0) [
  | yes z ↦ (
    λ h. let e : Length (s.inversions + s.negative_sum_pairs + s.negatives) ≡ Length l = rw (eq-eqb q 0 z) at h in
        let f : s.inversions + s.negative_sum_pairs + s.negatives ≡ l = cc in
        (s.inversions, s.negative_sum_pairs, s.negatives, (counted_exactly q s _ _ _).1 (z, refl, refl, refl), sym f),
    λ h. let e = (counted_exactly q s h.0 h.1 h.2).0 h.3 in rw (eq-eqb q 0 z, ← e.1, ← e.2, ← e.3, ← h.4),
  )
  | no f ↦ (
    λ h. let e : Refused q ≡ Length l = rw (ne_eqb q 0 f) at h in absurd (length_or_refused e refl),
    λ h. absurd (f ((counted_exactly q s h.0 h.1 h.2).0 h.3).0),
  )
]

-- L5
pub total_of_window_exactly : (k n : ℕ) (w : List ℤ) (l : ℕ)
    → (length_of_window k n w ≡ Length l) ↔ ((a b c : ℕ) × (crossings_of_window k n w ≡ counted.Crossings a b c) × (l ≡ a + b + c))
unfolding length_of_window crossings_of_window window_length
total_of_window_exactly k n w l = total_exactly (rank_refusal k n then window_refusal (kind_of k) n w) (crossings (kind_of k) w) l

-- L5
pub total_of_word_exactly : (k n : ℕ) (u : List ℕ) (l : ℕ)
    → (length_of_word k n u ≡ Length l) ↔ ((a b c : ℕ) × (crossings_of_word k n u ≡ counted.Crossings a b c) × (l ≡ a + b + c))
unfolding length_of_word crossings_of_word window_length
total_of_word_exactly k n u l = total_exactly (rank_refusal k n then word_refusal n u) (crossings (kind_of k) (window (kind_of k) n u)) l

-- ---- parity

-- CP1: no before the first entry
pub flag_at_start : flag_after [] ≡ false
unfolding flipped
flag_at_start = refl

-- CP1: the other after a negative entry
pub flag_flips : (part : List ℤ) (e : ℤ) → negative e ≡ true → flag_after (part ++ (e ∷ [])) ≡ not (flag_after part)
flag_flips part e h = flipped_snoc false part e ∙ rw h

-- CP1: the same after any other
pub flag_stays : (part : List ℤ) (e : ℤ) → negative e ≡ false → flag_after (part ++ (e ∷ [])) ≡ flag_after part
flag_stays part e h = flipped_snoc false part e ∙ rw h

-- CP2
pub flag_yes_exactly : (w part rest : List ℤ) → w ≡ part ++ rest → (flag_after part ≡ true) ↔ Odd (negatives part)
flag_yes_exactly w part rest h =
    let same = flag_is_odd part in
    let o = odd_exactly (negatives part) in
    (λ e. o.0 (sym same ∙ e), λ e. same ∙ o.1 e)

-- C11: the test holds exactly in kind D with an odd number of negative entries, whatever the other checks say
pub odd-negatives_exactly : (k : Kind) (w : List ℤ) → (odd_negatives k w ≡ true) ↔ ((k ≡ D) × Odd (negatives w))
unfolding odd_negatives
odd-negatives_exactly A w = (λ h. absurd (false≢true h), λ h. absurd (A≢D h.0))
odd-negatives_exactly B w = (λ h. absurd (false≢true h), λ h. absurd (B≢D h.0))
odd-negatives_exactly D w = (λ h. (refl, (odd_exactly (negatives w)).0 h), λ h. (odd_exactly (negatives w)).1 h.1)

-- C11: kind D with an odd number of negative entries, if checks 9 and 10 accept
pub refusal_11_exactly : (k : Kind) (n : ℕ) (w : List ℤ) → (window_refusal k n w ≡ 11)
    ↔ ((wrong_lanes k n w ≡ false) × (wrong_entry k (lanes k n) w ≡ false) × (k ≡ D) × Odd (negatives w))
unfolding window_refusal
refusal_11_exactly k n w =
    let e = last (wrong_lanes k n w) (wrong_entry k (lanes k n) w) (odd_negatives k w) in
    let f = odd-negatives_exactly k w in (
      λ h. let s = e.0 h in let t = f.0 s.2 in (s.0, s.1, t.0, t.1),
      λ h. e.1 (h.0, h.1, f.1 (h.2, h.3)),
    )
  where
    last : (s t r : Bool) → ((check 9 s then check 10 t then check 11 r) ≡ 11) ↔ ((s ≡ false) × (t ≡ false) × (r ≡ true))
    last true t r = (λ h. absurd (omega arith), λ h. absurd (true≢false h.0))
    last false true r = (λ h. absurd (omega arith), λ h. absurd (true≢false h.1))
    last false false true = (λ h. (refl, refl, refl), λ h. refl)
    last false false false = (λ h. absurd (omega arith), λ h. absurd (false≢true h.2))

-- ---- sixty-four lanes

-- K4: accepted exactly there, and refused 6 exactly elsewhere; every other kind is refused 5
range : (a b n : ℕ) → ((check 6 (ltb n a || ltb b n) ≡ 0) ↔ ((a ≤ n) × (n ≤ b))) × ((check 6 (ltb n a || ltb b n) ≡ 6) ↔ ((a ≤ n) × (n ≤ b) → ⊥))
range a b n = elim (dec_le a n) [
  | yes h ↦ elim (dec_le n b) [
    | yes g ↦ rw (le-ltb n a h, le-ltb b n g) ((λ e. (h, g), λ e. refl), (λ e. absurd (omega arith), λ e. absurd (e (h, g))))
    | no g ↦
        rw (le-ltb n a h, lt-ltb b n (lt_of_not-le g))
        ((λ e. absurd (omega arith), λ e. absurd (g e.1)), (λ e x. g x.1, λ e. refl))
  ]
  | no h ↦ rw (lt-ltb n a (lt_of_not-le h)) ((λ e. absurd (omega arith), λ e. absurd (h e.0)), (λ e x. h x.0, λ e. refl))
]

-- K4, C6
pub ranks_of_A : (n : ℕ) → ((rank_refusal 1 n ≡ 0) ↔ ((1 ≤ n) × (n ≤ 63))) × ((rank_refusal 1 n ≡ 6) ↔ ((1 ≤ n) × (n ≤ 63) → ⊥))
unfolding rank_refusal wrong_kind wrong_rank kind_of
ranks_of_A n = range 1 63 n

-- K4, C6
pub ranks_of_B : (n : ℕ) → ((rank_refusal 2 n ≡ 0) ↔ ((2 ≤ n) × (n ≤ 64))) × ((rank_refusal 2 n ≡ 6) ↔ ((2 ≤ n) × (n ≤ 64) → ⊥))
unfolding rank_refusal wrong_kind wrong_rank kind_of
ranks_of_B n = range 2 64 n

-- K4, C6
pub ranks_of_D : (n : ℕ) → ((rank_refusal 3 n ≡ 0) ↔ ((4 ≤ n) × (n ≤ 64))) × ((rank_refusal 3 n ≡ 6) ↔ ((4 ≤ n) × (n ≤ 64) → ⊥))
unfolding rank_refusal wrong_kind wrong_rank kind_of
ranks_of_D n = range 4 64 n

-- K2, C5
pub no_other_kind : (k n : ℕ) → (k ≡ 1 → ⊥) → (k ≡ 2 → ⊥) → (k ≡ 3 → ⊥) → rank_refusal k n ≡ 5
unfolding rank_refusal wrong_kind
no_other_kind k n a b d = rw (ne_eqb k 1 a, ne_eqb k 2 b, ne_eqb k 3 d)

-- M1: it is accepted as a word
pub longest-fits : (w : List ℤ) × WindowOf B 64 w × (length (normal_form B 64 w) ≡ 4096) × WordOf 64 (normal_form B 64 w)
unfolding kind_of
longest-fits =
    let g = longest-normal_form in
    (g.0, g.1.0, g.1.1, normal_form-fits 2 64 g.0 ((ranks_of_B 64).0.1 (omega arith)) g.1.0)

-- M1: and none of any kind and rank is longer
pub none_longer : (k n : ℕ) (w : List ℤ) → RankOf k n → WindowOf (kind_of k) n w → length (normal_form (kind_of k) n w) ≤ 4096
none_longer k n w h g = length_accepted n (normal_form (kind_of k) n w) (normal_form-fits k n w h g)

-- M1: what a normal form call wrote is accepted as a word
pub written_form_fits : (k n : ℕ) (w : List ℤ) (before after : List ℕ) (l : ℕ) → Yields (normal_form_of_window k n w before) (Length l) after
    → (l ≤ 4096) × WordOf n (take l after)
written_form_fits k n w before after l left =
    let a = normal_form_of_window_accepted k n w before after l left in
    let b = normal_form_of_window_wrote k n w before after l left in
    let f : WordOf n (take l after) = rw b.0 (normal_form-fits k n w a.0 a.1) in
    (omega (arith, b.1, length_accepted n (take l after) f), f)
