-- The rewriting to its end: at each step the lowest place is found; every step lowers the measure `value`, so that
-- the number of steps allowed for is enough; at the end none fits, and so the final word is the normal form. By
-- induction on the measure. Replaying, and the number of steps, are in Replays.antt; refused calls, and what lies
-- past the steps, in Unchanged.antt.
--
-- Sections: the lowest place; one step; enough steps; one step of the whole; the end.
-- Assumes nothing.
use mathlib.Core.Path.{◌≡◌, refl, sym, ap, ap₂, subst, ◌∙◌}
use mathlib.Core.Bool.{false}
use mathlib.Core.Logic.{◌⊎◌, inl, inr, ⊎_elim}
use mathlib.Core.List.{List, [], ◌∷◌}
use mathlib.Core.Option.{Option, none, some, some-injective, none-ne-some}
use Prim.Native.Nat.{ℕ, zero, suc, ◌+◌, ◌-◌, ◌*◌, ◌^◌, ◌≤◌, ◌<◌}
use native.Mathlib.Nat.{lt_of_not-le, lt_of_lt_of_le, add-mul, mul_assoc, mul-le-mul_right, pow-zero, pow-succ'}
use native.Mathlib.Decide.{dec_le}
use native.Mathlib.Omega.{arith}
use lib.ListN.{length}
use Rattle.coxeter.specs.declared.Kind.{Kind}
use Rattle.coxeter.specs.Kinds.{least}
use Rattle.coxeter.specs.Checks.{wrong_letter}
use Rattle.coxeter.specs.NormalForm.{normal_form, word_normal_form}
use Rattle.coxeter.proofs.LetterLaws.{letter_within_cons}
use Rattle.coxeter.proofs.Order.{less, same, more, compared}
use Rattle.rules.specs.Rules.{Rule, rules, first_fitting, rewritten, Irreducible}
use Rattle.rules.proofs.Ending.{value_from, value}
use Rattle.rules.proofs.Rewriting.{Rewrites}
use Rattle.rules.proofs.Fits.{fits-past, first_fitting_some, first_fitting_none, none_first_fitting, left_nonempty, rewrites_of_fits}
use Rattle.rules.proofs.Completeness.{rewrites_letters, rewrites_lowers, RewritesTo, stays, step, rewrites_to_letters, rewrites_to_window, irreducible_iff}
use Rattle.traces.specs.Traces.{Redex, lowest_from, lowest_redex, Line, Trace, trace_within, trace}

-- ---- the lowest place

-- the rule fits at the place, which lies in the word, and none fits at a lower place
pub record Lowest (k : Kind) (n : ℕ) (u : List ℕ) (s : Redex) : Type 0 where
  pub inside : s.place < length u
  pub fitting : first_fitting (rules k n) u s.place ≡ some s.rule
  pub below : (q : ℕ) → q < s.place → first_fitting (rules k n) u q ≡ none

-- none fits at the places from p on, t of them
abbrev NoneFrom : Kind → ℕ → List ℕ → ℕ → ℕ → Type 0
NoneFrom k n u p t = (q : ℕ) → p ≤ q → q < p + t → first_fitting (rules k n) u q ≡ none

-- what the search for the lowest place finds
data LowestFound (k : Kind) (n : ℕ) (u : List ℕ) (p t : ℕ) : Option Redex → Type 0 where
  nowhere : NoneFrom k n u p t → LowestFound k n u p t none
  somewhere : (s : Redex) → p ≤ s.place → s.place < p + t → first_fitting (rules k n) u s.place ≡ some s.rule
      → ((q : ℕ) → p ≤ q → q < s.place → first_fitting (rules k n) u q ≡ none) → LowestFound k n u p t (some s)

-- the place p itself, or one after it
at_or_after : (p q : ℕ) → p ≤ q → (q ≡ p) ⊎ (suc p ≤ q)
at_or_after p q h = elim (dec_le q p) [ yes l ↦ inl (omega arith) | no l ↦ inr (lt_of_not-le l) ]

found-later : (k : Kind) (n : ℕ) (u : List ℕ) (p t : ℕ) {o : Option Redex} → first_fitting (rules k n) u p ≡ none → LowestFound k n u (suc p) t o
    → LowestFound k n u p (suc t) o
found-later k n u p t e (nowhere f) =
    nowhere (λ q h g. ⊎_elim (λ a. ap (first_fitting (rules k n) u) a ∙ e) (λ a. f q a (omega arith)) (at_or_after p q h))
found-later k n u p t e (somewhere s h g f b) =
    somewhere s (omega arith) (omega arith) f
    (λ q a c. ⊎_elim (λ d. ap (first_fitting (rules k n) u) d ∙ e) (λ d. b q d c) (at_or_after p q a))

found : (k : Kind) (n : ℕ) (u : List ℕ) (p t : ℕ) → LowestFound k n u p t (lowest_from k n u p t)
unfolding lowest_from
found k n u p zero = nowhere (λ q h g. absurd (omega arith))
found k n u p (suc t) = found_by_cases (first_fitting (rules k n) u p) refl (found k n u (suc p) t)
  where
    found_by_cases : (o : Option Rule) → first_fitting (rules k n) u p ≡ o → LowestFound k n u (suc p) t (lowest_from k n u (suc p) t)
        → LowestFound k n u p (suc t) (elim o [ none ↦ lowest_from k n u (suc p) t | some r ↦ some (record { place = p; rule = r }) ])
    found_by_cases none e f = found-later k n u p t e f
    found_by_cases (some r) e f = somewhere (record { place = p; rule = r }) (omega arith) (omega arith) e (λ q h g. absurd (omega arith))

lowest_of_found : {k : Kind} {n : ℕ} {u : List ℕ} {s : Redex} → LowestFound k n u 0 (length u) (some s) → Lowest k n u s
lowest_of_found (somewhere s h g f b) = record { inside = omega arith; fitting = f; below = λ q. b q (omega arith) }

module _ (k : Kind) (n : ℕ) (u : List ℕ) where
  pub lowest_some : (s : Redex) → lowest_redex k n u ≡ some s → Lowest k n u s
  unfolding lowest_redex
  lowest_some s e = lowest_of_found (subst (LowestFound k n u 0 (length u)) e (found k n u 0 (length u)))

  lowest_none : lowest_redex k n u ≡ none → (q : ℕ) → q < length u → first_fitting (rules k n) u q ≡ none
  unfolding lowest_redex
  lowest_none e = lowest_none_by_cases (subst (LowestFound k n u 0 (length u)) e (found k n u 0 (length u)))
    where
      lowest_none_by_cases : LowestFound k n u 0 (length u) none → (q : ℕ) → q < length u → first_fitting (rules k n) u q ≡ none
      lowest_none_by_cases (nowhere f) q h = f q (omega arith) (omega arith)

  -- there is only one lowest place, and one rule at it
  lowest_only : (s t : Redex) → Lowest k n u s → Lowest k n u t → s ≡ t
  lowest_only s t a b =
      elim (compared s.place t.place) [
        | less h ↦ absurd (none-ne-some s.rule (sym (b.below s.place h) ∙ a.fitting))
        | same e ↦
            let f : s.rule ≡ t.rule =
            some-injective s.rule t.rule (sym a.fitting ∙ ap (first_fitting (rules k n) u) e ∙ b.fitting) in
            ap₂ (λ (p : ℕ) (r : Rule). record { place = p; rule = r }) e f
        | more h ↦ absurd (none-ne-some t.rule (sym (a.below t.place h) ∙ b.fitting))
      ]

  pub lowest_is : (s : Redex) → Lowest k n u s → lowest_redex k n u ≡ some s
  lowest_is s a = lowest_is_by_cases (lowest_redex k n u) refl
    where
      lowest_is_by_cases : (o : Option Redex) → lowest_redex k n u ≡ o → o ≡ some s
      lowest_is_by_cases none e = absurd (none-ne-some s.rule (sym (lowest_none e s.place a.inside) ∙ a.fitting))
      lowest_is_by_cases (some t) e = ap some (lowest_only t s (lowest_some t e) a)

  pub irreducible_of_none : least k ≤ n → lowest_redex k n u ≡ none → Irreducible (rules k n) u
  irreducible_of_none h e x m p = elim (dec_le (length u) p) [
    | yes l ↦ fits-past x u p (left_nonempty k n h x m) l
    | no l ↦ first_fitting_none (rules k n) u p (lowest_none e p (lt_of_not-le l)) x m
  ]

  pub none_of_irreducible : Irreducible (rules k n) u → lowest_redex k n u ≡ none
  none_of_irreducible f = none_of_irreducible_by_cases (lowest_redex k n u) refl
    where
      none_of_irreducible_by_cases : (o : Option Redex) → lowest_redex k n u ≡ o → o ≡ none
      none_of_irreducible_by_cases none e = refl
      none_of_irreducible_by_cases (some s) e =
          absurd (none-ne-some s.rule
          (sym (none_first_fitting (rules k n) u s.place (λ x m. f x m s.place)) ∙ (lowest_some s e).fitting))

-- ---- one step

-- the word after the step
abbrev pub after : List ℕ → Redex → List ℕ
after u s = rewritten s.rule u s.place

abbrev pub line_of : List ℕ → Redex → Line
line_of u s = record { family = s.rule.family; place = s.place; left = length (after u s) }

pub lowest_rewrites : {k : Kind} {n : ℕ} {u : List ℕ} {s : Redex} → least k ≤ n → Lowest k n u s → Rewrites k n u (after u s)
lowest_rewrites {k} {n} {u} {s} h a =
    let f = first_fitting_some (rules k n) u s.place s.rule a.fitting in
    rewrites_of_fits k n h s.rule f.0 u s.place (omega (arith, a.inside)) f.1

-- the trace of a step and what follows it
abbrev pub continued : List ℕ → Redex → Trace → Trace
continued u s t = record { lines = line_of u s ∷ t.lines; final = t.final }

-- ---- enough steps

module _ (k : Kind) (n : ℕ) (h : least k ≤ n) where
  within_none : (t : ℕ) (u : List ℕ) → lowest_redex k n u ≡ none → trace_within k n t u ≡ record { lines = []; final = u }
  unfolding trace_within
  within_none zero u e = refl
  within_none (suc t) u e = rw (e, trace_within)

  within_some : (t : ℕ) (u : List ℕ) (s : Redex) → lowest_redex k n u ≡ some s
      → trace_within k n (suc t) u ≡ continued u s (trace_within k n t (after u s))
  unfolding trace_within
  within_some t u s e = rw (e, trace_within)

  lowers : (u : List ℕ) (s : Redex) → wrong_letter n u ≡ false → lowest_redex k n u ≡ some s
      → (wrong_letter n (after u s) ≡ false) × (value n (after u s) < value n u)
  lowers u s e d = let r = lowest_rewrites h (lowest_some k n u s d) in (rewrites_letters r e, rewrites_lowers r e)

  -- as many steps as the measure are enough
  within_enough : (t r : ℕ) (u : List ℕ) → wrong_letter n u ≡ false → value n u ≤ t → value n u ≤ r → trace_within k n t u ≡ trace_within k n r u
  within_enough zero r u e f g = within_enough_by_cases (lowest_redex k n u) refl
    where
      within_enough_by_cases : (o : Option Redex) → lowest_redex k n u ≡ o → trace_within k n 0 u ≡ trace_within k n r u
      within_enough_by_cases none d = within_none 0 u d ∙ sym (within_none r u d)
      within_enough_by_cases (some s) d = absurd (omega (arith, (lowers u s e d).1))
  within_enough (suc t) r u e f g = within_enough_by_cases (lowest_redex k n u) refl r g (λ r v. within_enough t r v)
    where
      within_enough_by_cases : (o : Option Redex) → lowest_redex k n u ≡ o → (r : ℕ) → value n u ≤ r
          → ((r : ℕ) (v : List ℕ) → wrong_letter n v ≡ false → value n v ≤ t → value n v ≤ r → trace_within k n t v ≡ trace_within k n r v)
          → trace_within k n (suc t) u ≡ trace_within k n r u
      within_enough_by_cases none d r g ih = within_none (suc t) u d ∙ sym (within_none r u d)
      within_enough_by_cases (some s) d zero g ih = absurd (omega (arith, (lowers u s e d).1))
      within_enough_by_cases (some s) d (suc r) g ih =
          let l = lowers u s e d in
          within_some t u s d ∙ ap (continued u s) (ih r (after u s) l.0 (omega arith) (omega arith)) ∙ sym (within_some r u s d)

-- the measure is below the number of words of that length over one letter more
value_from-below : (n acc : ℕ) (u : List ℕ) → wrong_letter n u ≡ false → value_from n acc u < (acc + 1) * (n + 1) ^ length u
unfolding value_from
value_from-below n acc [] e = rw pow-zero (omega arith)
value_from-below n acc (s ∷ u) e =
    let g = letter_within_cons n s u e in
    let b : ℕ = acc * (n + 1) + (n + 1 - s) in
    let d : b + 1 ≤ (acc + 1) * (n + 1) = rw (add-mul acc 1 (n + 1)) (omega arith) in
    rw (pow-succ', ← mul_assoc) (lt_of_lt_of_le (value_from-below n b u g.2) (mul-le-mul_right ((n + 1) ^ length u) d))

value_enough : (n : ℕ) (u : List ℕ) → wrong_letter n u ≡ false → value n u ≤ (n + 1) ^ length u
unfolding value
value_enough n u e = omega (arith, value_from-below n 0 u e)

-- ---- one step of the whole

module _ (k : Kind) (n : ℕ) (h : least k ≤ n) where
  -- more steps allowed for give the same
  pub trace_enough : (u : List ℕ) → wrong_letter n u ≡ false → (t : ℕ) → (n + 1) ^ length u ≤ t → trace_within k n t u ≡ trace k n u
  unfolding trace
  trace_enough u e t g = within_enough k n h t ((n + 1) ^ length u) u e (omega (arith, value_enough n u e)) (value_enough n u e)

  pub trace_none : (u : List ℕ) → lowest_redex k n u ≡ none → trace k n u ≡ record { lines = []; final = u }
  unfolding trace
  trace_none u d = within_none k n h ((n + 1) ^ length u) u d

  pub trace_some : (u : List ℕ) (s : Redex) → wrong_letter n u ≡ false → lowest_redex k n u ≡ some s → trace k n u ≡ continued u s (trace k n (after u s))
  trace_some u s e d =
      let v = after u s in
      let t : ℕ = (n + 1) ^ length u + (n + 1) ^ length v in
      sym (trace_enough u e (suc t) (omega arith))
      ∙ within_some k n h t u s d
      ∙ ap (continued u s) (trace_enough v (lowers k n h u s e d).0 t (omega arith))

  -- what holds where none fits, and of a word if it holds after its step, holds of every word of steps
  module _ (P : List ℕ → Trace → Type 0)
      (ends : (u : List ℕ) → wrong_letter n u ≡ false → lowest_redex k n u ≡ none → P u (record { lines = []; final = u }))
      (goes : (u : List ℕ) (s : Redex) → wrong_letter n u ≡ false → Lowest k n u s → P (after u s) (trace k n (after u s))
      → P u (continued u s (trace k n (after u s)))) where
    below : (t : ℕ) (u : List ℕ) → wrong_letter n u ≡ false → value n u < t → P u (trace k n u)
    below zero u e g = absurd (omega arith)
    below (suc t) u e g = below_by_cases (lowest_redex k n u) refl (λ v. below t v)
      where
        below_by_cases : (o : Option Redex) → lowest_redex k n u ≡ o → ((v : List ℕ) → wrong_letter n v ≡ false → value n v < t → P v (trace k n v))
            → P u (trace k n u)
        below_by_cases none d ih = subst (P u) (sym (trace_none u d)) (ends u e d)
        below_by_cases (some s) d ih =
            let l = lowers k n h u s e d in
            subst (P u) (sym (trace_some u s e d)) (goes u s e (lowest_some k n u s d) (ih (after u s) l.0 (omega arith)))

    pub trace_induction : (u : List ℕ) → wrong_letter n u ≡ false → P u (trace k n u)
    trace_induction u e = below (suc (value n u)) u e (omega arith)

-- ---- the end

module _ (k : Kind) (n : ℕ) (h : least k ≤ n) where
  trace_rewrites : (u : List ℕ) → wrong_letter n u ≡ false → RewritesTo k n u (trace k n u).final
  trace_rewrites =
      trace_induction k n h (λ u t. RewritesTo k n u t.final) (λ u e d. stays) (λ u s e a r. step (lowest_rewrites h a) r)

  -- at the end no rule fits
  pub trace-ends : (u : List ℕ) → wrong_letter n u ≡ false → Irreducible (rules k n) (trace k n u).final
  trace-ends =
      trace_induction k n h (λ u t. Irreducible (rules k n) t.final) (λ u e d. irreducible_of_none k n u h d) (λ u s e a r. r)

  -- T21
  pub trace-normal_form : (u : List ℕ) → wrong_letter n u ≡ false → (trace k n u).final ≡ word_normal_form k n u
  trace-normal_form u e =
      let r = trace_rewrites u e in
      (irreducible_iff k n (trace k n u).final h (rewrites_to_letters r e)).0 (trace-ends u e) ∙ ap (normal_form k n) (sym (rewrites_to_window k n h r))
