-- Which calls use a rule, and where none fits: a call uses a rule exactly when one of the list fits at its place and no
-- check refuses, and none fits anywhere exactly when the word is irreducible. By Calls.antt, for every form of call.
--
-- Sections: which calls use a rule; the four answers; where none fits.
-- Assumes nothing.
use mathlib.Core.Path.{◌≡◌, refl, sym, ap₂, subst, subst⁻¹, ◌∙◌}
use mathlib.Core.Bool.{true, false, true≢false}
use mathlib.Core.Logic.{◌↔◌, inl, inr}
use mathlib.Core.List.{List, Memᴰ}
use mathlib.Core.Option.{none, some, none-ne-some}
use Prim.Native.Nat.{ℕ, ◌<◌}
use native.Mathlib.Nat.{lt_of_not-le}
use native.Mathlib.Decide.{dec_le}
use native.Mathlib.Omega.{arith}
use lib.ListN.{length}
use borrow.Author.Tests.{lt-leb, leb-false}
use Rattle.coxeter.specs.declared.Kind.{Kind}
use Rattle.coxeter.specs.Kinds.{kind_of}
use Rattle.coxeter.proofs.TestLaws.{impossible}
use Rattle.rules.specs.Rules.{Rule, rules, fits, first_fitting, rewritten, Irreducible}
use Rattle.rules.specs.Calls.{past_end, Interface, Transition, changed, rewrite_by, rewrite_at}
use Rattle.rules.specs.Runs.{AcceptedWord, Arguments, Result, IsUsed}
use Rattle.rules.specs.Demand3.{NowhereFits, NowhereFitsOnce, Usable, Replaced, UsedRule, UsedExactly, FourAnswers}
use Rattle.rules.proofs.Fits.{fits_split, rewritten_split, fits-past, first_fitting_some, first_fitting_none}
use Rattle.rules.proofs.Fits.{none_first_fitting, first_fitting_of_unique, left_nonempty}
use Rattle.rules.proofs.ScanRules.{fitting_unique}
use Rattle.rules.proofs.Calls.{accepted_least, Lawful, Stepped, used, none_fits, past, short, rewrite_at_accepted, stepped}

-- ---- which calls use a rule

-- the rule that fits at a place of the word is the first one there
usable_first : (s : Interface) (k n : ℕ) (v : List ℕ) (a : Arguments s) (x : Rule) → Usable s k n v a x
    → first_fitting (rules (kind_of k) n) v a.place ≡ some x
usable_first s k n v a x b =
    first_fitting_of_unique (rules (kind_of k) n) v a.place x b.listed b.fitting
    (λ y m f. fitting_unique (kind_of k) n v a.place (accepted_least b.accepted) m b.listed f b.fitting)

-- and it is used there if no check refuses
pub usable_changed : (s : Interface) (k n : ℕ) (v : List ℕ) (a : Arguments s) (x : Rule) → Usable s k n v a x
    → rewrite_at s k n v a.place a.outputs ≡ changed s x (rewritten x v a.place) a.outputs
unfolding rewrite_by
usable_changed s k n v a x b =
    rewrite_at_accepted s k n v a.place a.outputs b.accepted ∙ rw (b.inside, usable_first s k n v a x b, b.room)

-- the left side stands at the place, and the right side in the new word
usable_replaced : (s : Interface) (k n : ℕ) (v : List ℕ) (a : Arguments s) (x : Rule) → Usable s k n v a x
    → Replaced x a.place v (rewritten x v a.place)
unfolding past_end
usable_replaced s k n v a x b =
    let g = leb-false (length v) a.place b.inside in
    let t = fits_split x v a.place (omega arith) b.fitting in
    record {
      before = t.0;
      after = t.1;
      place = t.2;
      old = t.3;
      new = ap₂ (rewritten x) t.3 (sym t.2) ∙ rewritten_split x t.0 t.1;
    }

-- a rule fits at places of the word only
pub fits_inside : {k n : ℕ} {v : List ℕ} → AcceptedWord k n v → (p : ℕ) (x : Rule) → Memᴰ x (rules (kind_of k) n) → fits x v p ≡ true → p < length v
fits_inside {k} {n} {v} a p x m f = elim (dec_le (length v) p) [
  | yes h ↦ absurd (true≢false (sym f ∙ fits-past x v p (left_nonempty (kind_of k) n (accepted_least a) x m) h))
  | no h ↦ lt_of_not-le h
]

module _ {s : Interface} (law : Lawful s) where
  unused_of : (r : Result s) → s.new_word r.answer r.outputs ≡ none → IsUsed s r → ⊥
  unused_of r e t = none-ne-some t.0 (sym e ∙ t.1)

  -- what a call with this transition returns
  abbrev pub result_of : Transition s → Result s
  result_of t = record { answer = t.answer; outputs = t.outputs }

  module _ {k n : ℕ} {v : List ℕ} (a : Arguments s) (h : AcceptedWord k n v) where
    -- at most one rule fits at the place
    same_rule : (y x : Rule) → Memᴰ y (rules (kind_of k) n) → Memᴰ x (rules (kind_of k) n)
        → fits y v a.place ≡ true → fits x v a.place ≡ true → y ≡ x
    same_rule y x = fitting_unique (kind_of k) n v a.place (accepted_least h)

    -- no rule is usable where the result has no new word
    unusable : {t : Transition s} → s.new_word t.answer t.outputs ≡ none → ((x : Rule) → Usable s k n v a x → ⊥)
        → UsedExactly s k n v (record { arguments = a; result = result_of t }) t.word
    unusable {t} e f = record {
      exactly = (λ z. absurd (unused_of (result_of t) e z), λ g. absurd (f g.0 g.1));
      used = λ x b. absurd (f x b);
    }

    -- a call that uses a rule has one that fits, and no other does
    pub stepped_used : {t : Transition s} → Stepped s (kind_of k) n v a.place a.outputs t
        → UsedExactly s k n v (record { arguments = a; result = result_of t }) t.word
    unfolding past_end
    stepped_used (used x e l q) =
        let f = first_fitting_some (rules (kind_of k) n) v a.place x e in
        let b : Usable s k n v a x = record { listed = f.0; fitting = f.1; accepted = h; inside = lt-leb (length v) a.place l; room = q } in
        let w = rewritten x v a.place in
        record {
          exactly = (λ z. (x, b), λ g. (w, law.used_read x w a.outputs));
          used = λ y d. subst⁻¹ (UsedRule s k n v (record { arguments = a; result = result_of (changed s x w a.outputs) }) w)
              (same_rule y x d.listed f.0 d.fitting f.1)
              (record {
                only = λ z m g. same_rule z x m f.0 g f.1;
                answer = refl;
                outputs = refl;
                replaced = usable_replaced s k n v a x b;
              });
        }
    stepped_used (none_fits e l) =
        let f = first_fitting_none (rules (kind_of k) n) v a.place e in
        unusable (law.none_unused a.outputs) (λ x b. true≢false (sym b.fitting ∙ f x b.listed))
    stepped_used (past l) =
        unusable (law.refused_unused 11 a.outputs) (λ x b. omega (arith, leb-false (length v) a.place b.inside))
    stepped_used (short x e l q) =
        let f = first_fitting_some (rules (kind_of k) n) v a.place x e in
        unusable (law.refused_unused 13 a.outputs) (λ y b.
        let same = same_rule x y f.0 b.listed f.1 b.fitting in
        true≢false (sym b.room ∙ subst (λ (z : Rule). s.room a.outputs (length (rewritten z v a.place)) ≡ false) same q))

    -- each answer of a call comes exactly under its condition
    pub stepped_answers : {t : Transition s} → Stepped s (kind_of k) n v a.place a.outputs t
        → FourAnswers s k n v (record { arguments = a; result = result_of t }) t.word
    stepped_answers (used x e l q) =
        let f = first_fitting_some (rules (kind_of k) n) v a.place x e in
        let w = rewritten x v a.place in
        let read = law.used_read x w a.outputs in
        let is : IsUsed s (result_of (changed s x w a.outputs)) = (w, read) in
        let not : (b : s.Answer) → ((o : s.Outputs) → s.new_word b o ≡ none) → s.used x (length w) ≡ b → ⊥ =
        λ b z g. none-ne-some w (sym (z (s.written x w a.outputs))
        ∙ subst (λ (c : s.Answer). s.new_word c (s.written x w a.outputs) ≡ some w) g read) in
        record {
          no_fifth = inl is;
          none_fits_exactly = (λ z. absurd (not _ law.none_unused z), λ g. absurd (true≢false (sym f.1 ∙ g.1 x f.0)));
          past_exactly = (λ z. absurd (not _ (law.refused_unused 11) z), λ g. absurd (omega arith));
          short_exactly = (
            λ z. absurd (not _ (law.refused_unused 13) z),
            λ g.
                let same = same_rule g.0 x g.1 f.0 g.2 f.1 in
                absurd (true≢false (sym q ∙ subst (λ (y : Rule). s.room a.outputs (length (rewritten y v a.place)) ≡ false) same g.3)),
          );
          unwritten = λ t. absurd (t is);
        }
    stepped_answers (none_fits e l) =
        let f = first_fitting_none (rules (kind_of k) n) v a.place e in record {
          no_fifth = inr (inl refl);
          none_fits_exactly = (λ z. (l, f), λ g. refl);
          past_exactly = (λ z. impossible (law.none_not_12 z), λ g. absurd (omega arith));
          short_exactly = (λ z. impossible (law.none_not_14 z), λ g. absurd (true≢false (sym g.2 ∙ f g.0 g.1)));
          unwritten = λ t. (refl, refl);
        }
    stepped_answers (past l) = record {
      no_fifth = inr (inr (inl refl));
      none_fits_exactly = (λ z. impossible (law.none_not_12 (sym z)), λ g. absurd (omega arith));
      past_exactly = (λ z. l, λ g. refl);
      short_exactly = (λ z. impossible (law.refused_apart z), λ g. absurd (omega (arith, fits_inside h a.place g.0 g.1 g.2)));
      unwritten = λ t. (refl, refl);
    }
    stepped_answers (short x e l q) =
        let f = first_fitting_some (rules (kind_of k) n) v a.place x e in record {
          no_fifth = inr (inr (inr refl));
          none_fits_exactly = (λ z. impossible (law.none_not_14 (sym z)), λ g. absurd (true≢false (sym f.1 ∙ g.1 x f.0)));
          past_exactly = (λ z. impossible (law.refused_apart (sym z)), λ g. absurd (omega arith));
          short_exactly = (λ z. (x, f.0, f.1, q), λ g. refl);
          unwritten = λ t. (refl, refl);
        }

  -- ---- where none fits

  -- an answer that none fits is true
  none_of_answer : {k : Kind} {n : ℕ} {u : List ℕ} {p : ℕ} {o : s.Outputs} {t : Transition s} → Stepped s k n u p o t → t.answer ≡ s.none_fits
      → first_fitting (rules k n) u p ≡ none
  none_of_answer {u} {p} {o} (used x e h q) z =
      let w = rewritten x u p in
      absurd (none-ne-some w (sym (law.none_unused (s.written x w o))
      ∙ subst (λ (c : s.Answer). s.new_word c (s.written x w o) ≡ some w) z (law.used_read x w o)))
  none_of_answer (none_fits e h) z = e
  none_of_answer (past h) z = impossible (law.none_not_12 (sym z))
  none_of_answer (short x e h q) z = impossible (law.none_not_14 (sym z))

  -- one answer that none fits, with whatever outputs, is enough
  pub irreducible_of_once : (k n : ℕ) (u : List ℕ) → AcceptedWord k n u → NowhereFitsOnce s k n u → Irreducible (rules (kind_of k) n) u
  irreducible_of_once k n u h f x m p = elim (dec_le (length u) p) [
    | yes l ↦ fits-past x u p (left_nonempty (kind_of k) n (accepted_least h) x m) l
    | no l ↦
        let c = f p (lt_of_not-le l) in
        first_fitting_none (rules (kind_of k) n) u p (none_of_answer (stepped s k n u p c.0 h) (sym c.2.answer)) x m
  ]

pub answer_of_none : {s : Interface} {k : Kind} {n : ℕ} {u : List ℕ} {p : ℕ} {o : s.Outputs} {t : Transition s} → Stepped s k n u p o t → p < length u
    → first_fitting (rules k n) u p ≡ none → t.answer ≡ s.none_fits
answer_of_none (used x e h q) l a = absurd (none-ne-some x (sym a ∙ e))
answer_of_none (none_fits e h) l a = refl
answer_of_none (past h) l a = absurd (omega arith)
answer_of_none (short x e h q) l a = absurd (none-ne-some x (sym a ∙ e))

module _ {s : Interface} (law : Lawful s) where
  -- an accepted word is irreducible exactly when every call at each of its places answers that none fits
  pub nowhere_fits_iff : (k n : ℕ) (u : List ℕ) → AcceptedWord k n u → Irreducible (rules (kind_of k) n) u ↔ NowhereFits s k n u
  nowhere_fits_iff k n u h = (
    λ f p l before after a w.
        w.answer ∙ answer_of_none (stepped s k n u p before h) l (none_first_fitting (rules (kind_of k) n) u p (λ x m. f x m p)),
    λ f. irreducible_of_once law k n u h
        (λ p l.
        let o = law.anything in
        (o, (rewrite_at s k n u p o).outputs, record { answer = sym (f p l o _ _ (record { answer = refl; outputs = refl })); outputs = refl })),
  )
