-- What the statements cite of windows and normal forms, over the definitions of specs/ alone. Each is a corollary
-- of a law of the files before; `WindowOf k n w` says that w passes checks 9 to 11. The ranks need no upper end,
-- and words may have any length.
--
-- Sections: windows; inverses; normal forms; lengths; blocks; products; longest and equal normal forms; the better
-- word; the verdict.
-- Assumes nothing.
use mathlib.Core.Path.{◌≡◌, refl, sym, ap, ◌∙◌}
use mathlib.Core.Bool.{Bool, true, false, false≢true, true≢false, and-eq-true_iff}
use mathlib.Core.Logic.{◌↔◌, inl, inr}
use mathlib.Core.List.{List, [], ◌++◌}
use denote.Ref.{Bor}
use Prim.Native.Nat.{ℕ, ◌≤◌}
use native.Mathlib.Omega.{arith}
use lib.Dec.{eqb}
use lib.IntN.{ℤ}
use lib.ListN.{length}
use borrow.Author.Tests.{eq-eqb, le-ltb}
use Rattle.coxeter.specs.answers.Verdict as verdict
use Rattle.coxeter.specs.declared.Kind.{Kind}
use Rattle.coxeter.specs.declared.Kind.TheVariants.{B}
use Rattle.coxeter.specs.Kinds.{pick, kind_of, lanes, least}
use Rattle.coxeter.specs.Windows.{act, identity, window, product, inverse}
use Rattle.coxeter.specs.Length.{window_length, greatest_length}
use Rattle.coxeter.specs.Dictionary.{shortlex}
use Rattle.coxeter.specs.Checks.{too_long, wrong_letter, rank_refusal, word_refusal, RankOf, WordOf, WindowOf}
use Rattle.coxeter.specs.NormalForm.{levels, blocks, Indices, normal_form, word_normal_form, IsNormalForm}
use Rattle.coxeter.specs.Calls.{verdict_of, same_window, same_presets, presets_equal, Better}
use Rattle.coxeter.proofs.Levels.{Accepted, accepted_of_refusal, refusal_of_accepted, act_accepted, window_accepted}
use Rattle.coxeter.proofs.Basics.{length-window}
use Rattle.coxeter.proofs.Order.{shortlex_irrefl, shortlex-total, shortlex_asymm, same_window_true, same_window_of_eq}
use Rattle.coxeter.proofs.Products.{product-identity, identity-product, window-append}
use Rattle.coxeter.proofs.Inverses as inverses
use Rattle.coxeter.proofs.Indices.{indices, indices_in_range, indices-window}
use Rattle.coxeter.proofs.NormalForms as forms
use Rattle.coxeter.proofs.Lengths as lengths
use Rattle.coxeter.proofs.PairWeights.{window_length_le_4096}
use Rattle.coxeter.proofs.Acceptance.{lanes_le}
use Rattle.coxeter.proofs.GreatestLengths as greatest
use Rattle.coxeter.proofs.FormLaws as laws
use Rattle.coxeter.proofs.TestLaws.{impossible}

-- ---- windows

-- a word's window passes checks 9 to 11, and a step keeps them
pub window_passes : (k : Kind) (n : ℕ) (u : List ℕ) → WindowOf k n (window k n u)
window_passes k n u = refusal_of_accepted k n (window k n u) (window_accepted k n u)

pub act_passes : (k : Kind) (n s : ℕ) (w : List ℤ) → WindowOf k n w → WindowOf k n (act k n s w)
act_passes k n s w h = refusal_of_accepted k n (act k n s w) (act_accepted k n s w (accepted_of_refusal k n w h))

module _ (k : Kind) (n : ℕ) (w : List ℤ) (h : WindowOf k n w) where
  passed : Accepted k n w
  passed = accepted_of_refusal k n w h

  pub product_unit : product w (identity (lanes k n)) ≡ w
  product_unit = ap (λ (m : ℕ). product w (identity m)) (sym passed.size) ∙ product-identity w

  pub unit_product : product (identity (lanes k n)) w ≡ w
  unit_product = identity-product (lanes k n) w (inverses.accepted_between k n w passed)

  -- ---- inverses

  pub product-inverse : product w (inverse w) ≡ identity (lanes k n)
  product-inverse = inverses.product-inverse k n w passed

  pub inverse-product : product (inverse w) w ≡ identity (lanes k n)
  inverse-product = inverses.inverse-product k n w passed

  pub inverse-inverse : inverse (inverse w) ≡ w
  inverse-inverse = inverses.inverse-inverse k n w passed

  pub inverse_passes : WindowOf k n (inverse w)
  inverse_passes = refusal_of_accepted k n (inverse w) (inverses.inverse_accepted k n w passed)

  -- ---- normal forms

  -- N1, D8: the normal form has the window asked for
  pub window-normal_form : window k n (normal_form k n w) ≡ w
  window-normal_form = forms.window-normal_form k n w passed

  pub normal_form-letters : wrong_letter n (normal_form k n w) ≡ false
  normal_form-letters = forms.normal_form-letters k n w passed

  -- ---- lengths

  -- L5
  pub length-normal_form : length (normal_form k n w) ≡ window_length k w
  length-normal_form = lengths.length-normal_form k n w passed

  -- L6: no window is longer
  pub window_length_le : window_length k w ≤ greatest_length k n
  window_length_le = greatest.window_length_le k n w passed

  -- ---- blocks

  -- N9: each normal form is a word of blocks
  pub normal_form_is_blocks : (js : List ℕ) × (Indices k n 1 js × (normal_form k n w ≡ blocks k n 1 js))
  normal_form_is_blocks = (indices k n (levels k n) 1 w, (indices_in_range k n w passed, forms.normal_form_is_blocks k n w))

-- ---- products

-- the product of two windows that pass checks 9 to 11 passes them
pub product_passes : (k : Kind) (n : ℕ) (v w : List ℤ) → WindowOf k n v → WindowOf k n w → WindowOf k n (product v w)
product_passes k n v w h g =
    rw (← window-normal_form k n v h, ← window-normal_form k n w g, ← window-append k n (normal_form k n v) (normal_form k n w))
    (window_passes k n (normal_form k n v ++ normal_form k n w))

-- ---- longest and equal normal forms

-- the greatest length is reached
pub greatest-reached : (k : Kind) (n : ℕ) → least k ≤ n → (w : List ℤ) × (WindowOf k n w × (window_length k w ≡ greatest_length k n))
greatest-reached k n h = (window k n (blocks k n 1 (greatest.greatest_indices k n)), (window_passes k n _, laws.greatest-reached k n h))

-- M1: a normal form is accepted again as a word
pub normal_form-fits : (k n : ℕ) (w : List ℤ) → RankOf k n → WindowOf (kind_of k) n w → WordOf n (normal_form (kind_of k) n w)
unfolding word_refusal too_long
normal_form-fits k n w r h =
    let a = passed (kind_of k) n w h in
    let most = window_length_le_4096 (kind_of k) n w a (lanes_le k n (length w) r a.size) in
    let u = normal_form (kind_of k) n w in
    rw (le-ltb 4096 (length u) (rw (length-normal_form (kind_of k) n w h) most), normal_form-letters (kind_of k) n w h)

pub longest-normal_form : (w : List ℤ) × (WindowOf B 64 w × (length (normal_form B 64 w) ≡ 4096))
longest-normal_form =
    let g = greatest-reached B 64 (omega arith) in
    (g.0, (g.1.0, length-normal_form B 64 g.0 g.1.0 ∙ g.1.1))

-- N1, N3: of one window there is at most one normal form
pub normal_unique : (k : Kind) (n : ℕ) (w : List ℤ) (u v : List ℕ) → IsNormalForm k n w u → IsNormalForm k n w v → u ≡ v
normal_unique k n w u v f g = elim (shortlex-total u v) [
  | inl e ↦ e
  | inr (inl t) ↦ absurd (true≢false (sym (g.least u f.steps f.shows (apart u v t)) ∙ shortlex_asymm u v t))
  | inr (inr t) ↦ absurd (true≢false (sym (f.least v g.steps g.shows (apart v u t)) ∙ shortlex_asymm v u t))
]
  where
    apart : (a b : List ℕ) → shortlex a b ≡ true → a ≡ b → ⊥
    apart a b t e = true≢false (sym t ∙ ap (shortlex a) (sym e) ∙ shortlex_irrefl a)

-- two windows with one normal form are the same
pub normal_form_eq_iff : (k : Kind) (n : ℕ) (v w : List ℤ) → WindowOf k n v → WindowOf k n w → (normal_form k n v ≡ normal_form k n w) ↔ (v ≡ w)
normal_form_eq_iff k n v w h g = laws.normal_form_eq_iff k n v w (accepted_of_refusal k n v h) (accepted_of_refusal k n w g)

-- each word made of blocks is the normal form of its window; two lists of js make two words
pub blocks-normal_form : (k : Kind) (n : ℕ) (js : List ℕ) → Indices k n 1 js → word_normal_form k n (blocks k n 1 js) ≡ blocks k n 1 js
blocks-normal_form k n js h = forms.normal_form-blocks k n js h

pub blocks_injective : (k : Kind) (n : ℕ) (is js : List ℕ) → Indices k n 1 is → Indices k n 1 js → blocks k n 1 is ≡ blocks k n 1 js → is ≡ js
blocks_injective k n is js h g e =
    sym (indices-window k n is h) ∙ ap (λ (u : List ℕ). indices k n (levels k n) 1 (window k n u)) e ∙ indices-window k n js g

-- ---- the better word

-- V4: the lent slice itself, not an equal copy
pub better_whole : (second : Bool) (u v r : Bor (List ℕ)) → Better true second u v r → r ≡ pick second v u
better_whole second u v r b = b.whole refl

-- V5, V6
pub better_empty : (second : Bool) (u v r : Bor (List ℕ)) → Better false second u v r → (r.now ≡ []) × (r.ref_ptr ≡ u.ref_ptr)
better_empty second u v r b = b.empty refl

-- ---- the verdict

-- V1: the two windows are the same list
pub equal_lanes : (k n : ℕ) (u : List ℕ) (l m : ℕ) (v : List ℕ) → window (kind_of k) n u ≡ window (kind_of l) m v
    → lanes (kind_of k) n ≡ lanes (kind_of l) m
equal_lanes k n u l m v e = sym (length-window (kind_of k) n u) ∙ ap length e ∙ length-window (kind_of l) m v

by_same : {P : Type 0} (t : Bool) → (t ≡ true) ↔ P → (pick t verdict.Yes verdict.No ≡ verdict.Yes) ↔ P
by_same true h = (λ e. h.0 refl, λ p. refl)
by_same false h = (λ e. impossible (cc), λ p. absurd (false≢true (h.1 p)))

same_exactly : (k n : ℕ) (u : List ℕ) (l m : ℕ) (v : List ℕ) → (same_presets k n u l m v ≡ true) ↔ (window (kind_of k) n u ≡ window (kind_of l) m v)
unfolding same_presets
same_exactly k n u l m v =
    let a = window (kind_of k) n u in
    let b = window (kind_of l) m v in
    let both = and-eq-true_iff (eqb (lanes (kind_of k) n) (lanes (kind_of l) m)) (same_window a b) in (
      λ h. same_window_true a b (both.0 h).1,
      λ e. both.1 (eq-eqb (lanes (kind_of k) n) (lanes (kind_of l) m) (equal_lanes k n u l m v e), same_window_of_eq a b e),
    )

pub verdict_exactly : (k n : ℕ) (u : List ℕ) (l m : ℕ) (v : List ℕ) → RankOf k n → WordOf n u → RankOf l m → WordOf m v
    → (presets_equal k n u l m v ≡ verdict.Yes) ↔ (window (kind_of k) n u ≡ window (kind_of l) m v)
unfolding presets_equal verdict_of
verdict_exactly k n u l m v a b c d =
    rw (eq-eqb (rank_refusal k n) 0 a, eq-eqb (word_refusal n u) 0 b, eq-eqb (rank_refusal l m) 0 c, eq-eqb (word_refusal m v) 0 d)
    (by_same (same_presets k n u l m v) (same_exactly k n u l m v))

-- V2, T14: of one kind and rank
pub verdict_normal_form : (k n : ℕ) (u v : List ℕ) → RankOf k n → WordOf n u → WordOf n v
    → (presets_equal k n u k n v ≡ verdict.Yes) ↔ (word_normal_form (kind_of k) n u ≡ word_normal_form (kind_of k) n v)
verdict_normal_form k n u v a b c =
    let w = verdict_exactly k n u k n v a b a c in
    let f = laws.word_normal_form_eq_iff (kind_of k) n u v in
    (λ h. f.1 (w.0 h), λ h. w.1 (f.0 h))
