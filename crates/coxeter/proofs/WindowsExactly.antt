-- When each check of a window fails, and which lists of entries are windows (W5, C9 and C10 of the specification), by
-- the entries at their places and the lengths. That m entries which have all the sizes from 1 to m have none twice is
-- by taking out the greatest.
--
-- Sections: entries; checks 9 and 10; which windows pass.
-- Not here: check 11 (Sentences), which of several checks is first (FirstRefusals).
-- Assumes nothing.
use mathlib.Core.Path.{◌≡◌, refl, sym, ap, ◌∙◌}
use mathlib.Core.Bool.{Bool, true, false, true≢false, false≢true, ◌||◌}
use mathlib.Core.Logic.Iff
use mathlib.Core.Logic.{◌↔◌, ◌⊎◌, inl, inr}
use mathlib.Core.List.{List, [], ◌∷◌}
use Prim.Native.Nat.{ℕ, zero, suc, ◌+◌, ◌-◌, ◌≤◌, ◌<◌}
use native.Mathlib.Nat.{zero-add}
use native.Mathlib.Omega.{arith}
use lib.Dec.{eqb, ltb}
use lib.IntN.{ℤ, pos, negsuc, nat_abs}
use lib.ListN.{length, get_or, drop, length-drop}
use lib.Seq.{get_or-drop}
use borrow.Author.Tests.{eqb-true, eqb-false, eq-eqb, ne_eqb, not-true, not-false}
use Rattle.coxeter.specs.declared.Kind.{Kind}
use Rattle.coxeter.specs.declared.Kind.TheVariants.{A, B, D}
use Rattle.coxeter.specs.Kinds.{pick, lanes}
use Rattle.coxeter.specs.Length.{negative, negatives, one}
use Rattle.coxeter.specs.Checks.{check, ◌then◌, wrong_lanes, has_size, negative_in_A, wrong_at, wrong_entry, odd, odd_negatives}
use Rattle.coxeter.specs.Checks.{window_refusal, WindowOf}
use Rattle.coxeter.specs.Parity.{Odd}
use Rattle.coxeter.specs.NormalForm.{without}
use Rattle.coxeter.proofs.KindLaws.{A≢B, A≢D, B≢D}
use Rattle.coxeter.proofs.TestLaws.{not_true_false, eqb_exactly, ltb_exactly, or_exactly, some_place}
use Rattle.coxeter.proofs.Parity.{odd_exactly}
use Rattle.coxeter.proofs.Levels.{Between, Distinct, Signs, level_has_size, accepted_of_refusal, refusal_of_accepted}
use Rattle.coxeter.proofs.Places.{between_mono, has_size_beyond}

-- ---- entries

-- L4, I33: an entry is negative exactly when it is −(s + 1) for some s
pub negative_exactly : (e : ℤ) → (negative e ≡ true) ↔ ((s : ℕ) × (e ≡ negsuc s))
unfolding negative
negative_exactly (pos a) = (λ h. absurd (false≢true h), λ h. let e = h.1 in cc)
negative_exactly (negsuc a) = (λ h. (a, refl), λ h. refl)

-- C10: a list has an entry of a size exactly when the entry at some place has it
pub size_exactly : (s : ℕ) (w : List ℤ) → (has_size s w ≡ true) ↔ ((i : ℕ) × (i < length w) × (nat_abs (get_or w i (pos 0)) ≡ s))
unfolding has_size
size_exactly s [] = (λ e. absurd (false≢true e), λ h. absurd (omega (arith, h.1)))
size_exactly s (e ∷ w) =
    Iff.trans (or_exactly (eqb (nat_abs e) s) (has_size s w) (eqb_exactly (nat_abs e) s) (size_exactly s w))
    (Iff.symm (some_place (λ i. nat_abs (get_or (e ∷ w) i (pos 0)) ≡ s) (length w)))

negative-in-A : (k : Kind) (e : ℤ) → (negative_in_A k e ≡ true) ↔ ((k ≡ A) × (negative e ≡ true))
unfolding negative_in_A
negative-in-A A e = (λ h. (refl, h), λ p. p.1)
negative-in-A B e = (λ h. absurd (false≢true h), λ p. absurd (A≢B (sym p.0)))
negative-in-A D e = (λ h. absurd (false≢true h), λ p. absurd (A≢D (sym p.0)))

-- ---- checks 9 and 10

-- the test at the place where it holds
wrong_place : (k : Kind) (m : ℕ) (w : List ℤ)
    → (wrong_entry k m w ≡ true) ↔ ((i : ℕ) × (i < length w) × (wrong_at k m (get_or w i (pos 0)) (drop (suc i) w) ≡ true))
unfolding wrong_entry
wrong_place k m [] = (λ e. absurd (false≢true e), λ h. absurd (omega (arith, h.1)))
wrong_place k m (e ∷ w) =
    Iff.trans (or_exactly (wrong_at k m e w) (wrong_entry k m w) Iff.rfl (wrong_place k m w))
    (Iff.symm (some_place (λ i. wrong_at k m (get_or (e ∷ w) i (pos 0)) (drop (suc i) (e ∷ w)) ≡ true) (length w)))

-- and what it says there; the entries after the place are v
wrong-at : (k : Kind) (m : ℕ) (e : ℤ) (v : List ℤ) → (wrong_at k m e v ≡ true)
    ↔ ((nat_abs e ≡ 0) ⊎ ((m < nat_abs e)
    ⊎ (((i : ℕ) × (i < length v) × (nat_abs (get_or v i (pos 0)) ≡ nat_abs e)) ⊎ ((k ≡ A) × (negative e ≡ true)))))
unfolding wrong_at
wrong-at k m e v =
    or_exactly (eqb (nat_abs e) 0) (ltb m (nat_abs e) || (has_size (nat_abs e) v || negative_in_A k e)) (eqb_exactly (nat_abs e) 0)
    (or_exactly (ltb m (nat_abs e)) (has_size (nat_abs e) v || negative_in_A k e) (ltb_exactly m (nat_abs e))
    (or_exactly (has_size (nat_abs e) v) (negative_in_A k e) (size_exactly (nat_abs e) v) (negative-in-A k e)))

-- the entry at place i fails
abbrev Fault : Kind → ℕ → List ℤ → ℕ → Type 0
Fault k m w i = let e = get_or w i (pos 0) in
    (nat_abs e ≡ 0) ⊎ ((m < nat_abs e) ⊎ (((j : ℕ) × (j < i) × (nat_abs (get_or w j (pos 0)) ≡ nat_abs e)) ⊎ ((k ≡ A) × (negative e ≡ true))))

-- C10: a list fails check 10 exactly when an entry is 0, has a size above the lane count m, has the size of an earlier
-- one, or is negative in kind A
pub wrong_entry_exactly : (k : Kind) (m : ℕ) (w : List ℤ) → (wrong_entry k m w ≡ true)
    ↔ ((i : ℕ) × (i < length w) × (let e = get_or w i (pos 0) in
    (nat_abs e ≡ 0) ⊎ ((m < nat_abs e)
    ⊎ (((j : ℕ) × (j < i) × (nat_abs (get_or w j (pos 0)) ≡ nat_abs e)) ⊎ ((k ≡ A) × (negative e ≡ true))))))
wrong_entry_exactly k m w = (
  λ h. let p = (wrong_place k m w).0 h in forth p.0 p.1 ((wrong-at k m (get_or w p.0 (pos 0)) (drop (suc p.0) w)).0 p.2),
  λ h. (wrong_place k m w).1 (back h.0 h.1 h.2),
)
  where
    forth : (i : ℕ) → i < length w → (let e = get_or w i (pos 0) in let v = drop (suc i) w in
        (nat_abs e ≡ 0) ⊎ ((m < nat_abs e)
        ⊎ (((j : ℕ) × (j < length v) × (nat_abs (get_or v j (pos 0)) ≡ nat_abs e)) ⊎ ((k ≡ A) × (negative e ≡ true)))))
        → (i : ℕ) × (i < length w) × Fault k m w i
    forth i l (inl z) = (i, l, inl z)
    forth i l (inr (inl g)) = (i, l, inr (inl g))
    forth i l (inr (inr (inl p))) =
        let q : nat_abs (get_or w i (pos 0)) ≡ nat_abs (get_or w (suc i + p.0) (pos 0)) = sym p.2 ∙ rw (get_or-drop (suc i) w p.0 (pos 0)) in
        (suc i + p.0, omega (arith, p.1, length-drop (suc i) w), inr (inr (inl (i, omega arith, q))))
    forth i l (inr (inr (inr g))) = (i, l, inr (inr (inr g)))

    back : (i : ℕ) → i < length w → Fault k m w i → (i : ℕ) × (i < length w) × (wrong_at k m (get_or w i (pos 0)) (drop (suc i) w) ≡ true)
    back i l (inl z) = (i, l, (wrong-at k m (get_or w i (pos 0)) (drop (suc i) w)).1 (inl z))
    back i l (inr (inl g)) = (i, l, (wrong-at k m (get_or w i (pos 0)) (drop (suc i) w)).1 (inr (inl g)))
    back i l (inr (inr (inl p))) =
        let j = p.0 in
        let d = i - suc j in
        let s : suc j + d ≡ i = omega (arith, p.1) in
        let q : nat_abs (get_or (drop (suc j) w) d (pos 0)) ≡ nat_abs (get_or w j (pos 0)) = rw (get_or-drop (suc j) w d (pos 0), s) (sym p.2) in
        let inside : d < length (drop (suc j) w) = omega (arith, p.1, length-drop (suc j) w) in
        (j, omega (arith, p.1), (wrong-at k m (get_or w j (pos 0)) (drop (suc j) w)).1 (inr (inr (inl (d, inside, q)))))
    back i l (inr (inr (inr g))) = (i, l, (wrong-at k m (get_or w i (pos 0)) (drop (suc i) w)).1 (inr (inr (inr g))))

lanes_wrong : (k : Kind) (n : ℕ) (w : List ℤ) → (wrong_lanes k n w ≡ true) ↔ (length w ≡ lanes k n → ⊥)
unfolding wrong_lanes
lanes_wrong k n w = (λ h. eqb-false (length w) (lanes k n) (not-true _ h), λ f. rw (ne_eqb (length w) (lanes k n) f))

lanes_right : (k : Kind) (n : ℕ) (w : List ℤ) → (wrong_lanes k n w ≡ false) ↔ (length w ≡ lanes k n)
unfolding wrong_lanes
lanes_right k n w = (λ h. eqb-true (length w) (lanes k n) (not-false _ h), λ e. rw (eq-eqb (length w) (lanes k n) e))

three_checks : (a b c : Bool) → (((check 9 a then check 10 b then check 11 c) ≡ 9) ↔ (a ≡ true))
    × (((check 9 a then check 10 b then check 11 c) ≡ 10) ↔ ((a ≡ false) × (b ≡ true)))
three_checks true b c = ((λ e. refl, λ e. refl), (λ e. absurd (omega arith), λ p. absurd (true≢false p.0)))
three_checks false true c = ((λ e. absurd (omega arith), λ e. cc), (λ e. (refl, refl), λ p. refl))
three_checks false false true = ((λ e. absurd (omega arith), λ e. cc), (λ e. absurd (omega arith), λ p. absurd (false≢true p.1)))
three_checks false false false = ((λ e. absurd (omega arith), λ e. cc), (λ e. absurd (omega arith), λ p. absurd (false≢true p.1)))

-- C9: a window is refused 9 exactly when its length is not the lane count
pub refused_9_exactly : (k : Kind) (n : ℕ) (w : List ℤ) → (window_refusal k n w ≡ 9) ↔ (length w ≡ lanes k n → ⊥)
unfolding window_refusal
refused_9_exactly k n w = Iff.trans (three_checks (wrong_lanes k n w) (wrong_entry k (lanes k n) w) (odd_negatives k w)).0 (lanes_wrong k n w)

-- C10: a window is refused 10 exactly when its length is the lane count and an entry is 0, has a size above the lane
-- count, has the size of an earlier one, or is negative in kind A
pub refused_10_exactly : (k : Kind) (n : ℕ) (w : List ℤ) → (window_refusal k n w ≡ 10)
    ↔ ((length w ≡ lanes k n) × ((i : ℕ) × (i < length w) × (let e = get_or w i (pos 0) in
    (nat_abs e ≡ 0) ⊎ ((lanes k n < nat_abs e)
    ⊎ (((j : ℕ) × (j < i) × (nat_abs (get_or w j (pos 0)) ≡ nat_abs e)) ⊎ ((k ≡ A) × (negative e ≡ true)))))))
unfolding window_refusal
refused_10_exactly k n w =
    Iff.trans (three_checks (wrong_lanes k n w) (wrong_entry k (lanes k n) w) (odd_negatives k w)).1
    (Iff.and (lanes_right k n w) (wrong_entry_exactly k (lanes k n) w))

-- ---- which windows pass

-- taking a size out leaves the others
has_size-other : (s c : ℕ) (w : List ℤ) → (s ≡ c → ⊥) → has_size s (without c w) ≡ has_size s w
unfolding has_size without
has_size-other s c [] f = refl
has_size-other s c (e ∷ w) f = has_size-other_by_cases (eqb (nat_abs e) c) refl (has_size-other s c w f)
  where
    has_size-other_by_cases : (t : Bool) → eqb (nat_abs e) c ≡ t → has_size s (without c w) ≡ has_size s w
        → has_size s (pick t w (e ∷ without c w)) ≡ (eqb (nat_abs e) s || has_size s w)
    has_size-other_by_cases true q ih = let r : nat_abs e ≡ c = eqb-true (nat_abs e) c q in rw (ne_eqb (nat_abs e) s (λ z. f (sym z ∙ r)))
    has_size-other_by_cases false q ih = rw ih

length_without : (c : ℕ) (w : List ℤ) → has_size c w ≡ true → length w ≡ suc (length (without c w))
unfolding has_size without
length_without c [] h = absurd (false≢true h)
length_without c (e ∷ w) h = length-without_by_cases (eqb (nat_abs e) c) h (length_without c w)
  where
    length-without_by_cases : (t : Bool) → (t || has_size c w) ≡ true → (has_size c w ≡ true → length w ≡ suc (length (without c w)))
        → suc (length w) ≡ suc (length (pick t w (e ∷ without c w)))
    length-without_by_cases true q ih = refl
    length-without_by_cases false q ih = ap suc (ih q)

-- what holds without the size c, which is above all others, holds with it
module _ (i c : ℕ) (l : i ≤ c) where
  between_with : (w : List ℤ) → Between i c (without c w) → Between i (suc c) w
  unfolding without
  between_with [] b = tt
  between_with (e ∷ w) b = between_with_by_cases (eqb (nat_abs e) c) refl b (between_with w)
    where
      between_with_by_cases : (t : Bool) → eqb (nat_abs e) c ≡ t → Between i c (pick t w (e ∷ without c w)) → (Between i c (without c w) → Between i (suc c) w)
          → (i ≤ nat_abs e) × (nat_abs e < suc c) × Between i (suc c) w
      between_with_by_cases true q b ih =
          let r : nat_abs e ≡ c = eqb-true (nat_abs e) c q in
          (omega arith, omega arith, between_mono i c i (suc c) w (omega arith) (omega arith) b)
      between_with_by_cases false q b ih = (b.0, omega (arith, b.1), ih b.2)

  distinct_with : (w : List ℤ) → Between i c (without c w) → Distinct (without c w) → Distinct w
  unfolding without
  distinct_with [] b d = tt
  distinct_with (e ∷ w) b d = distinct_with_by_cases (eqb (nat_abs e) c) refl b d (distinct_with w)
    where
      distinct_with_by_cases : (t : Bool) → eqb (nat_abs e) c ≡ t → Between i c (pick t w (e ∷ without c w)) → Distinct (pick t w (e ∷ without c w))
          → (Between i c (without c w) → Distinct (without c w) → Distinct w) → (has_size (nat_abs e) w ≡ false) × Distinct w
      distinct_with_by_cases true q b d ih = (rw (eqb-true (nat_abs e) c q) (has_size_beyond i c c w (omega arith) b), d)
      distinct_with_by_cases false q b d ih = (sym (has_size-other (nat_abs e) c w (eqb-false (nat_abs e) c q)) ∙ d.0, ih b.2 d.1)

-- m entries that have m sizes in a row have each once, and no other
all_sizes : (i m : ℕ) (w : List ℤ) → length w ≤ m → ((s : ℕ) → i ≤ s → s < i + m → has_size s w ≡ true) → Between i (i + m) w × Distinct w
all_sizes i zero [] l h = (tt, tt)
all_sizes i zero (e ∷ w) l h = absurd (omega arith)
all_sizes i (suc m) w l h =
    let c = i + m in
    let e : i + suc m ≡ suc c = omega arith in
    let shorter : length (without c w) ≤ m = omega (arith, length_without c w (h c (omega arith) (omega arith))) in
    let r = all_sizes i m (without c w) shorter (λ s a b. has_size-other s c w (λ z. omega arith) ∙ h s a (omega arith)) in
    (rw e (between_with i c (omega arith) w r.0), distinct_with i c (omega arith) w r.0 r.1)

none_negative : (w : List ℤ) → (negatives w ≡ 0) ↔ ((i : ℕ) → negative (get_or w i (pos 0)) ≡ false)
unfolding negatives negative one
none_negative [] = (λ h i. refl, λ h. refl)
none_negative (pos a ∷ w) =
    let ih = none_negative w in
    (λ h. every (ih.0 (omega arith)), λ h. rw (zero-add (negatives w)) (ih.1 (λ i. h (suc i))))
  where
    every : ((i : ℕ) → negative (get_or w i (pos 0)) ≡ false) → (i : ℕ) → negative (get_or (pos a ∷ w) i (pos 0)) ≡ false
    every g zero = refl
    every g (suc i) = g i
none_negative (negsuc a ∷ w) = (λ h. absurd (omega arith), λ h. absurd (true≢false (h 0)))

signs_exactly : (k : Kind) (w : List ℤ)
    → Signs k w ↔ ((k ≡ A → (i : ℕ) → negative (get_or w i (pos 0)) ≡ false) × (k ≡ D → Odd (negatives w) → ⊥))
signs_exactly A w = (λ h. (λ e. (none_negative w).0 h, λ e. absurd (A≢D e)), λ p. (none_negative w).1 (p.0 refl))
signs_exactly B w = (λ h. (λ e. absurd (A≢B (sym e)), λ e. absurd (B≢D e)), λ p. tt)
signs_exactly D w =
    let o = odd_exactly (negatives w) in (
      λ h. (λ e. absurd (A≢D (sym e)), λ e m. true≢false (sym (o.1 m) ∙ h)),
      λ p. not_true_false (odd (negatives w)) (λ t. p.1 refl (o.0 t)),
    )

-- W5: a list is a window of a kind and rank exactly when it has as many entries as there are lanes, each size from 1
-- to the lane count stands in one of them, in kind A none is negative, and in kind D no odd number of them is
pub windows_exactly : (k : Kind) (n : ℕ) (w : List ℤ) → WindowOf k n w
    ↔ ((length w ≡ lanes k n)
    × ((s : ℕ) → 1 ≤ s → s ≤ lanes k n → (i : ℕ) × (i < length w) × (nat_abs (get_or w i (pos 0)) ≡ s))
    × (k ≡ A → (i : ℕ) → negative (get_or w i (pos 0)) ≡ false)
    × (k ≡ D → Odd (negatives w) → ⊥))
windows_exactly k n w = (
  λ h. let a = accepted_of_refusal k n w h in
      let size : length w ≡ lanes k n = a.size in
      let s = (signs_exactly k w).0 a.signs in
      (size, λ c l m. (size_exactly c w).0 (level_has_size 1 c w a.level l (omega arith)), s.0, s.1),
  λ p. let size : length w ≡ lanes k n = p.0 in
      let r = all_sizes 1 (length w) w (omega arith) (λ s l m. (size_exactly s w).1 (p.1 s l (omega arith))) in
      refusal_of_accepted k n w
      (record { size = size; level = record { between = r.0; distinct = r.1 }; signs = (signs_exactly k w).1 (p.2, p.3) }),
)
