-- Normal forms as least words: words with one window, more letters in front, and fewer in front or behind; parts of
-- normal forms; and the first difference of two words, from which a normal form is told by having no earlier word
-- with its window.
--
-- Sections: words with one window; the least word; the first difference.
-- Assumes nothing.
use mathlib.Core.Path.{◌≡◌, refl, sym, ap, subst, ◌∙◌}
use mathlib.Core.Bool.{true, false, true≢false}
use mathlib.Core.Logic.{⊎_elim}
use mathlib.Core.List.{List, [], ◌∷◌, ◌++◌, append_assoc, append-nil, reverse, reverse-reverse}
use Prim.Native.Nat.{ℕ, suc, ◌≤◌, ◌<◌}
use native.Mathlib.Decide.{ℕ_discrete}
use native.Mathlib.Omega.{arith}
use lib.IntN.{ℤ}
use lib.ListN.{length, length-append}
use borrow.Author.Tests.{eq-eqb, ne_eqb, ltb-true}
use Rattle.coxeter.specs.declared.Kind.{Kind}
use Rattle.coxeter.specs.Kinds.{least, lanes}
use Rattle.coxeter.specs.Windows.{act, window_from, identity, window, product}
use Rattle.coxeter.specs.Checks.{wrong_letter}
use Rattle.coxeter.specs.Dictionary.{before, shortlex}
use Rattle.coxeter.specs.NormalForm.{normal_form, word_normal_form, IsNormalForm}
use Rattle.coxeter.proofs.Basics.{window_from-append, or_false_left, or_false_right}
use Rattle.coxeter.proofs.Steps.{act_involution}
use Rattle.coxeter.proofs.Relations.{wrong_letter-append}
use Rattle.coxeter.proofs.Products.{window-append}
use Rattle.coxeter.proofs.Inverses.{window_from-reverse}
use Rattle.coxeter.proofs.Order.{before_higher, shortlex-before, shortlex_cases, shortlex_irrefl, shortlex_asymm}
use Rattle.rules.specs.Rules.{rules, Irreducible}
use Rattle.rules.proofs.Ending.{before-append}
use Rattle.rules.proofs.Extending.{rewrites_within}
use Rattle.rules.proofs.Completeness.{RewritesTo, rewrites_to_normal_form, rewrites_to_shortlex, rewrites_to_letters, rewrites_to_window}
use Rattle.rules.proofs.Completeness.{irreducible_iff, irreducible_of_not_rewritten, not_rewritten_of_irreducible, normal_form-least-window}
use Rattle.shortest_words.specs.OneLetter.{Shortest}
use Rattle.shortest_words.proofs.Shortest.{shortest_normal}
use Rattle.shortest_words.proofs.Exchange.{window_snoc, window_twice, window_from_injective}
use Rattle.shortest_words.proofs.Deletion.{window-from}

-- ---- words with one window

module _ (k : Kind) (n : ℕ) where
  -- more letters in front, and fewer behind or in front
  same_front : (x u v : List ℕ) → window k n u ≡ window k n v → window k n (x ++ u) ≡ window k n (x ++ v)
  same_front x u v e = window-append k n x u ∙ ap (product (window k n x)) e ∙ sym (window-append k n x v)

  pub cancel_back : (u v y : List ℕ) → window k n (u ++ y) ≡ window k n (v ++ y) → window k n u ≡ window k n v
  cancel_back u v y e = window_from_injective k n (window k n u) (window k n v) y (sym (window-from k n u y) ∙ e ∙ window-from k n v y)

  there_and_back : (x u : List ℕ) → window k n (reverse x ++ (x ++ u)) ≡ window k n u
  unfolding window
  there_and_back x u =
      ap (window_from k n (identity (lanes k n))) (sym (append_assoc (reverse x) x u))
      ∙ window_from-append k n (identity (lanes k n)) (reverse x ++ x) u
      ∙ ap (λ (w : List ℤ). window_from k n w u)
      (ap (λ (l : List ℕ). window_from k n (identity (lanes k n)) (reverse x ++ l)) (sym (reverse-reverse x))
      ∙ window_from-reverse k n (identity (lanes k n)) (reverse x))

  pub cancel_front : (x u v : List ℕ) → window k n (x ++ u) ≡ window k n (x ++ v) → window k n u ≡ window k n v
  cancel_front x u v e =
      sym (there_and_back x u) ∙ same_front (reverse x) (x ++ u) (x ++ v) e ∙ there_and_back x v

  -- a first letter moved to the other side
  pub across : (s : ℕ) (u v : List ℕ) → window k n u ≡ window k n (s ∷ v) → window k n (s ∷ u) ≡ window k n v
  across s u v e = same_front (s ∷ []) u (s ∷ v) e ∙ window_twice k n s v

  -- the last letter taken back
  pub undo : (s : ℕ) (u v : List ℕ) → window k n u ≡ window k n (v ++ (s ∷ [])) → window k n (u ++ (s ∷ [])) ≡ window k n v
  undo s u v e = window_snoc k n u s ∙ ap (act k n s) (e ∙ window_snoc k n v s) ∙ act_involution k n s (window k n v)

-- ---- the least word

pub letters_left : (n : ℕ) (u v : List ℕ) → wrong_letter n (u ++ v) ≡ false → wrong_letter n u ≡ false
letters_left n u v e = or_false_left (wrong_letter n u) (wrong_letter n v) (sym (wrong_letter-append n u v) ∙ e)

pub letters_right : (n : ℕ) (u v : List ℕ) → wrong_letter n (u ++ v) ≡ false → wrong_letter n v ≡ false
letters_right n u v e = or_false_right (wrong_letter n u) (wrong_letter n v) (sym (wrong_letter-append n u v) ∙ e)

-- a word of steps into which no rule fits
pub record Normal (k : Kind) (n : ℕ) (u : List ℕ) : Type 0 where
  pub letters : wrong_letter n u ≡ false
  pub irreducible : Irreducible (rules k n) u

module _ (k : Kind) (n : ℕ) (h : least k ≤ n) where
  normal_least : (u : List ℕ) → Normal k n u → IsNormalForm k n (window k n u) u
  normal_least u m = rw (sym ((irreducible_iff k n u h m.letters).0 m.irreducible)) at (normal_form-least-window k n u h)

  pub normal_shortest : (u : List ℕ) → Normal k n u → Shortest k n u
  normal_shortest u m = shortest_normal k n u h (normal_least u m)

  -- a part of a normal form is one
  normal_part : (x u y : List ℕ) → Normal k n (x ++ (u ++ y)) → Normal k n u
  normal_part x u y m = record {
    letters = letters_left n u y (letters_right n x (u ++ y) m.letters);
    irreducible =
        irreducible_of_not_rewritten k n u h
        (λ v r. not_rewritten_of_irreducible k n (x ++ (u ++ y)) h m.irreducible _ (rewrites_within x y r));
  }

  pub normal_front : (u y : List ℕ) → Normal k n (u ++ y) → Normal k n u
  normal_front u y m = normal_part [] u y m

  pub normal_back : (x u : List ℕ) → Normal k n (x ++ u) → Normal k n u
  normal_back x u m = normal_part x u [] (rw append-nil m)

-- ---- the first difference

-- u and v agree at the front c, and then u has the higher letter
pub record Earlier (u v : List ℕ) : Type 0 where
  pub front : List ℕ
  pub higher : ℕ
  pub lower : ℕ
  pub rest : List ℕ
  pub others : List ℕ
  pub one : u ≡ front ++ (higher ∷ rest)
  pub two : v ≡ front ++ (lower ∷ others)
  pub differ : lower < higher
  pub as_long : length rest ≡ length others

-- no word with the window of a normal form is as long and has a higher letter at the first difference
pub not_earlier : (k : Kind) (n : ℕ) → least k ≤ n → {u v : List ℕ} → Normal k n u → wrong_letter n v ≡ false → window k n v ≡ window k n u → Earlier v u → ⊥
not_earlier k n h {u} {v} m l w d =
    let early : shortlex v u ≡ true =
    rw (d.one, d.two)
    (shortlex-before (d.front ++ (d.higher ∷ d.rest)) (d.front ++ (d.lower ∷ d.others)) (simp length-append (omega (arith, d.as_long)))
    (before-append d.front (d.higher ∷ d.rest) (d.lower ∷ d.others) ∙ before_higher d.higher d.lower d.rest d.others d.differ)) in
    let late = (normal_least k n h u m).least v l w
    (λ q. true≢false (sym early ∙ ap (λ (x : List ℕ). shortlex x u) q ∙ shortlex_irrefl u)) in
    true≢false (sym late ∙ shortlex_asymm v u early)

earlier_cons : (a : ℕ) (u v : List ℕ) → Earlier u v → Earlier (a ∷ u) (a ∷ v)
earlier_cons a u v e = record {
  front = a ∷ e.front;
  higher = e.higher;
  lower = e.lower;
  rest = e.rest;
  others = e.others;
  one = ap (λ (w : List ℕ). a ∷ w) e.one;
  two = ap (λ (w : List ℕ). a ∷ w) e.two;
  differ = e.differ;
  as_long = e.as_long;
}

earlier_of_before : (u v : List ℕ) → length u ≡ length v → before u v ≡ true → Earlier u v
unfolding before
earlier_of_before [] [] l b = absurd (true≢false (sym b))
earlier_of_before [] (c ∷ v) l b = let z : 0 ≡ suc (length v) = l in absurd (omega arith)
earlier_of_before (a ∷ u) [] l b = let z : suc (length u) ≡ 0 = l in absurd (omega arith)
earlier_of_before (a ∷ u) (c ∷ v) l b = elim (ℕ_discrete a c) [
  | yes e ↦
      subst (λ (x : ℕ). Earlier (a ∷ u) (x ∷ v)) e
      (earlier_cons a u v (earlier_of_before u v (let z : suc (length u) ≡ suc (length v) = l in omega arith) (rw (eq-eqb a c e) at b)))
  | no e ↦ record {
    front = [];
    higher = a;
    lower = c;
    rest = u;
    others = v;
    one = refl;
    two = refl;
    differ = ltb-true c a (rw (ne_eqb a c e) at b);
    as_long = let z : suc (length u) ≡ suc (length v) = l in omega arith;
  }
]

-- a word of steps is a normal form if no normal form with its window is shorter, or as long and earlier
pub normal_if : (k : Kind) (n : ℕ) → least k ≤ n → (u : List ℕ) → wrong_letter n u ≡ false
    → ((v : List ℕ) → Normal k n v → window k n v ≡ window k n u → length v < length u → ⊥)
    → ((v : List ℕ) → Normal k n v → window k n v ≡ window k n u → length v ≡ length u → Earlier v u → ⊥) → Normal k n u
normal_if k n h u l f g = ⊎_elim (λ e. record { letters = l; irreducible = (irreducible_iff k n u h l).1 e }) (λ s. absurd (no s)) (rewrites_to_shortlex r)
  where
    v : List ℕ
    v = word_normal_form k n u

    r : RewritesTo k n u v
    r = rewrites_to_normal_form k n u h l

    shows : window k n v ≡ window k n u
    shows = sym (rewrites_to_window k n h r)

    m : Normal k n v
    m = record {
      letters = rewrites_to_letters r l;
      irreducible = (irreducible_iff k n v h (rewrites_to_letters r l)).1 (ap (normal_form k n) (sym shows));
    }

    no : shortlex v u ≡ true → ⊥
    no s = ⊎_elim (λ t. f v m shows t) (λ t. g v m shows t.0 (earlier_of_before v u t.0 t.1)) (shortlex_cases v u s)
