-- The normal form of the window that leads from one window to another decides whether a word over allowed steps
-- does, since rewriting brings in no new letter, and is then the least of those words.
--
-- Sections: the window between two windows; the word between them.
-- Assumes nothing.
use mathlib.Core.Path.{◌≡◌, sym, ap, ◌∙◌}
use mathlib.Core.Bool.{Bool, true}
use mathlib.Core.Logic.{◌↔◌}
use mathlib.Core.List.{List, [], ◌++◌}
use Prim.Native.Nat.{ℕ, ◌≤◌}
use lib.IntN.{ℤ}
use Rattle.coxeter.specs.declared.Kind.{Kind}
use Rattle.coxeter.specs.Kinds.{least, lanes}
use Rattle.coxeter.specs.Windows.{window_from, window, product, inverse}
use Rattle.coxeter.specs.NormalForm.{normal_form, word_normal_form, IsNormalForm}
use Rattle.coxeter.proofs.Levels.{Accepted, window_accepted}
use Rattle.coxeter.proofs.Products.{product_assoc, identity-product, window_from-product, window-append}
use Rattle.coxeter.proofs.Inverses.{inverse_accepted, accepted_between, inverse-product, product-inverse}
use Rattle.coxeter.proofs.NormalForms.{window-normal_form, normal_form-letters, normal_form-identity}
use Rattle.rules.proofs.Completeness.{normal_form-least}
use Rattle.shortest_words.specs.Allowed.{over}
use Rattle.shortest_words.specs.Between.{Leads, Reachable, IsBetween, between, reachable}
use Rattle.shortest_words.proofs.Shortest.{normal_is, normal_form_normal}
use Rattle.shortest_words.proofs.Allowed.{over_all, over-normal_form}

-- ---- the window between two windows

product_accepted : (k : Kind) (n : ℕ) (v w : List ℤ) → Accepted k n v → Accepted k n w → Accepted k n (product v w)
product_accepted k n v w a b =
    let e = window-append k n (normal_form k n v) (normal_form k n w) in
    let f = rw (window-normal_form k n v a, window-normal_form k n w b) at e in
    rw (← f) (window_accepted k n (normal_form k n v ++ normal_form k n w))

module _ (k : Kind) (n : ℕ) (v w : List ℤ) (a : Accepted k n v) (b : Accepted k n w) where
  pub between_accepted : Accepted k n (product (inverse v) w)
  between_accepted = product_accepted k n (inverse v) w (inverse_accepted k n v a) b

  -- a word leads from v to w exactly when it has the window between them
  arrives : (u : List ℕ) → window k n u ≡ product (inverse v) w → window_from k n v u ≡ w
  arrives u e =
      window_from-product k n v u a.size
      ∙ ap (product v) e
      ∙ sym (product_assoc v (inverse v) w)
      ∙ ap (λ (x : List ℤ). product x w) (product-inverse k n v a)
      ∙ identity-product (lanes k n) w (accepted_between k n w b)

  has_window : (u : List ℕ) → window_from k n v u ≡ w → window k n u ≡ product (inverse v) w
  has_window u e =
      sym (identity-product (lanes k n) (window k n u) (accepted_between k n (window k n u) (window_accepted k n u)))
      ∙ ap (λ (x : List ℤ). product x (window k n u)) (sym (inverse-product k n v a))
      ∙ product_assoc (inverse v) v (window k n u)
      ∙ ap (product (inverse v)) (sym (window_from-product k n v u a.size) ∙ e)

-- ---- the word between them

module _ (allowed : ℕ → Bool) (k : Kind) (n : ℕ) (v w : List ℤ) (h : least k ≤ n) (a : Accepted k n v) (b : Accepted k n w) where
  -- A3: it is the normal form of every word that leads there
  pub between-normal_form : (u : List ℕ) → Leads allowed k n v w u → word_normal_form k n u ≡ between k n v w
  unfolding between
  between-normal_form u l = ap (normal_form k n) (has_window k n v w a b u l.arrives)

  between_leads : reachable allowed k n v w ≡ true → Leads allowed k n v w (between k n v w)
  unfolding between reachable
  between_leads t =
      let c = between_accepted k n v w a b in
      record {
        steps = normal_form-letters k n (product (inverse v) w) c;
        over = t;
        arrives = arrives k n v w a b (normal_form k n (product (inverse v) w)) (window-normal_form k n (product (inverse v) w) c);
      }

  -- a word over the allowed steps, of any length, leads there exactly when the normal form has no other letter
  pub reachable_exactly : (reachable allowed k n v w ≡ true) ↔ Reachable allowed k n v w
  unfolding reachable
  reachable_exactly = (
    λ t. (between k n v w, between_leads t),
    λ f. rw (← between-normal_form f.0 f.1) (over-normal_form allowed k n f.0 h f.1.steps f.1.over),
  )

  -- and then it is the answer
  pub between_is : reachable allowed k n v w ≡ true → IsBetween allowed k n v w (between k n v w)
  between_is t =
      record {
        leads = between_leads t;
        normal = unfold between in normal_form_normal k n (product (inverse v) w) h (between_accepted k n v w a b);
        least = λ x l. unfold between in least_word.least x l.steps (has_window k n v w a b x l.arrives);
      }
    where
      least_word : IsNormalForm k n (product (inverse v) w) (normal_form k n (product (inverse v) w))
      least_word = normal_form-least k n (product (inverse v) w) h (between_accepted k n v w a b)

  -- the only one
  pub between_only : (u : List ℕ) → IsBetween allowed k n v w u → u ≡ between k n v w
  between_only u m = normal_is k n u h m.normal ∙ between-normal_form u m.leads

  -- with all steps allowed it always exists
  pub reachable_all : ((s : ℕ) → 1 ≤ s → s ≤ n → allowed s ≡ true) → reachable allowed k n v w ≡ true
  unfolding reachable between
  reachable_all f =
      over_all allowed n (normal_form k n (product (inverse v) w)) f
      (normal_form-letters k n (product (inverse v) w) (between_accepted k n v w a b))

-- A5: whatever steps are allowed
pub between_same : (k : Kind) (n : ℕ) (v : List ℤ) → Accepted k n v → between k n v v ≡ []
unfolding between
between_same k n v a = ap (normal_form k n) (inverse-product k n v a) ∙ normal_form-identity k n

pub reachable_same : (allowed : ℕ → Bool) (k : Kind) (n : ℕ) (v : List ℤ) → Accepted k n v → reachable allowed k n v v ≡ true
unfolding reachable over
reachable_same allowed k n v a = rw (between_same k n v a)
