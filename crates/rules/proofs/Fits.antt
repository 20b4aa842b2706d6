-- Where a rule fits: it fits at a place exactly when its left side stands there, and then putting the right side in
-- its place is one use of the rule; the first fitting rule of a list is one of it that fits, and there is none
-- exactly when none fits. By induction over the word and the list.
--
-- Sections: beginnings of words; a rule at a place; the first fitting rule; rules of a kind.
-- Assumes nothing.
use mathlib.Core.Path.{◌≡◌, refl, sym, ap, ap₂, subst, subst₂, ◌∙◌}
use mathlib.Core.Bool.{Bool, true, false, true≢false, and-eq-true_iff}
use mathlib.Core.Logic.{⊎_elim}
use mathlib.Core.List.Memᴰ
use mathlib.Core.List.{List, [], ◌∷◌, ◌++◌, Memᴰ}
use mathlib.Core.Option.{Option, none, some, some-injective, none-ne-some, some-ne-none}
use Prim.Native.Nat.{ℕ, ◌≤◌, ◌<◌}
use native.Mathlib.Omega.{arith}
use lib.Dec.{eqb}
use lib.ListN.{length, take, drop, length-append, take-append-drop, drop_of_length-le}
use lib.Seq.{length-take-le, take-append_seam, drop-append_seam, drop-append-add}
use borrow.Author.Tests.{eqb-true, eq-eqb}
use Rattle.coxeter.specs.declared.Kind.{Kind}
use Rattle.coxeter.specs.Kinds.{least, pick}
use Rattle.rules.specs.Rules.{Rule, rules, begins, fits, first_fitting, rewritten}
use Rattle.rules.proofs.Rewriting.{Rewrites, within}
use Rattle.rules.proofs.RuleList.{rule_of_list, list_of_rule}
use Rattle.rules.proofs.Ending.{Lowered, dropped, raised, rule-lowered}

-- ---- beginnings of words

pub begins-append : (u y : List ℕ) → begins u (u ++ y) ≡ true
unfolding begins
begins-append [] y = refl
begins-append (a ∷ u) y = rw (eq-eqb a a refl) (begins-append u y)

pub begins_split : (u v : List ℕ) → begins u v ≡ true → (y : List ℕ) × (v ≡ u ++ y)
unfolding begins
begins_split [] v h = (v, refl)
begins_split (a ∷ u) [] h = let z : false ≡ true = h in absurd (true≢false (sym z))
begins_split (a ∷ u) (b ∷ v) h =
    let t = (and-eq-true_iff (eqb a b) (begins u v)).0 h in
    let e : a ≡ b = eqb-true a b t.0 in
    let s = begins_split u v t.1 in
    (s.0, (cc s.1))

-- ---- a rule at a place

-- the left side stands where the rule fits
pub fits_split : (r : Rule) (u : List ℕ) (p : ℕ) → p ≤ length u → fits r u p ≡ true → (x y : List ℕ) × (length x ≡ p) × (u ≡ x ++ (r.left ++ y))
unfolding fits
fits_split r u p l h =
    let s = begins_split r.left (drop p u) h in
    (take p u, s.0, length-take-le p u l, sym (take-append-drop p u) ∙ ap (λ (v : List ℕ). take p u ++ v) s.1)

-- and it fits where its left side stands
pub fits-at : (r : Rule) (x y : List ℕ) → fits r (x ++ (r.left ++ y)) (length x) ≡ true
unfolding fits
fits-at r x y = rw (drop-append_seam x (r.left ++ y)) (begins-append r.left y)

-- the right side in place of the left one
pub rewritten_split : (r : Rule) (x y : List ℕ) → rewritten r (x ++ (r.left ++ y)) (length x) ≡ x ++ (r.right ++ y)
unfolding rewritten
rewritten_split r x y =
    rw (take-append_seam x (r.left ++ y), drop-append-add x (r.left ++ y) (length r.left), drop-append_seam r.left y)

begins_nil : (w : List ℕ) → 1 ≤ length w → begins w [] ≡ false
unfolding begins
begins_nil [] h = absurd (omega arith)
begins_nil (a ∷ w) h = refl

-- from the word's end on only an empty left side could fit
pub fits-past : (r : Rule) (u : List ℕ) (p : ℕ) → 1 ≤ length r.left → length u ≤ p → fits r u p ≡ false
unfolding fits
fits-past r u p o l = rw (drop_of_length-le u l) (begins_nil r.left o)

-- ---- the first fitting rule

-- the first rule found is in the list and fits
pub first_fitting_some : (rs : List Rule) (u : List ℕ) (p : ℕ) (x : Rule) → first_fitting rs u p ≡ some x → Memᴰ x rs × (fits x u p ≡ true)
unfolding first_fitting
first_fitting_some [] u p x e = absurd (none-ne-some x e)
first_fitting_some (r ∷ rs) u p x e = first_fitting_some_by_cases (fits r u p) refl e (first_fitting_some rs u p x)
  where
    first_fitting_some_by_cases : (t : Bool) → fits r u p ≡ t → pick t (some r) (first_fitting rs u p) ≡ some x
        → (first_fitting rs u p ≡ some x → Memᴰ x rs × (fits x u p ≡ true)) → Memᴰ x (r ∷ rs) × (fits x u p ≡ true)
    first_fitting_some_by_cases true t q ih =
        let i : r ≡ x = some-injective r x q in
        (Memᴰ.head (sym i), subst (λ (z : Rule). fits z u p ≡ true) i t)
    first_fitting_some_by_cases false t q ih = let i = ih q in (Memᴰ.tail i.0, i.1)

-- where none is found no rule of the list fits
pub first_fitting_none : (rs : List Rule) (u : List ℕ) (p : ℕ) → first_fitting rs u p ≡ none → (x : Rule) → Memᴰ x rs → fits x u p ≡ false
unfolding first_fitting
first_fitting_none [] u p e x m = absurd (Memᴰ.not-nil m)
first_fitting_none (r ∷ rs) u p e x m = first_fitting_none_by_cases (fits r u p) refl e (λ q. first_fitting_none rs u p q x)
  where
    first_fitting_none_by_cases : (t : Bool) → fits r u p ≡ t → pick t (some r) (first_fitting rs u p) ≡ none
        → (first_fitting rs u p ≡ none → Memᴰ x rs → fits x u p ≡ false) → fits x u p ≡ false
    first_fitting_none_by_cases true t q ih = absurd (some-ne-none r q)
    first_fitting_none_by_cases false t q ih = ⊎_elim (λ i. ap (λ (z : Rule). fits z u p) i ∙ t) (ih q) (Memᴰ.cases_cons m)

pub none_first_fitting : (rs : List Rule) (u : List ℕ) (p : ℕ) → ((x : Rule) → Memᴰ x rs → fits x u p ≡ false) → first_fitting rs u p ≡ none
unfolding first_fitting
none_first_fitting [] u p h = refl
none_first_fitting (r ∷ rs) u p h = rw (h r (Memᴰ.head refl)) (none_first_fitting rs u p (λ x m. h x (Memᴰ.tail m)))

-- a rule that alone fits is the one found
pub first_fitting_of_unique : (rs : List Rule) (u : List ℕ) (p : ℕ) (x : Rule) → Memᴰ x rs → fits x u p ≡ true
    → ((y : Rule) → Memᴰ y rs → fits y u p ≡ true → y ≡ x) → first_fitting rs u p ≡ some x
first_fitting_of_unique rs u p x m f h = first_fitting_of_unique_by_cases (first_fitting rs u p) refl
  where
    first_fitting_of_unique_by_cases : (o : Option Rule) → first_fitting rs u p ≡ o → o ≡ some x
    first_fitting_of_unique_by_cases none e = absurd (true≢false (sym f ∙ first_fitting_none rs u p e x m))
    first_fitting_of_unique_by_cases (some y) e = let s = first_fitting_some rs u p y e in ap some (h y s.0 s.1)

-- ---- rules of a kind

lowered_left : {l r : List ℕ} → Lowered l r → 1 ≤ length l
lowered_left dropped = omega arith
lowered_left (raised e h) = omega arith

-- no left side is empty
pub left_nonempty : (k : Kind) (n : ℕ) → least k ≤ n → (x : Rule) → Memᴰ x (rules k n) → 1 ≤ length x.left
left_nonempty k n h x m = lowered_left (rule-lowered (rule_of_list k n h x m))

-- a rule that fits rewrites the word
pub rewrites_of_fits : (k : Kind) (n : ℕ) → least k ≤ n → (x : Rule) → Memᴰ x (rules k n) → (u : List ℕ) (p : ℕ) → p ≤ length u → fits x u p ≡ true
    → Rewrites k n u (rewritten x u p)
rewrites_of_fits k n h x m u p l f =
    let s = fits_split x u p l f in
    subst₂ (Rewrites k n) (sym s.3)
    (sym (rewritten_split x s.0 s.1) ∙ ap₂ (rewritten x) (sym s.3) s.2)
    (within s.0 s.1 (rule_of_list k n h x m))

-- a word that rewrites has a rule that fits
pub fits_of_rewrites : (k : Kind) (n : ℕ) {u v : List ℕ} → least k ≤ n → Rewrites k n u v
    → (x : Rule) × (p : ℕ) × Memᴰ x (rules k n) × (p < length u) × (fits x u p ≡ true) × (rewritten x u p ≡ v)
fits_of_rewrites k n h (within x y {l} {r} q) =
    let s = list_of_rule k n h q in
    let z = s.0 in
    let o = lowered_left (rule-lowered q) in
    let f = fits-at z x y in
    let g = rewritten_split z x y in (
      z,
      length x,
      s.1,
      simp length-append (omega arith),
      ap (λ (w : List ℕ). fits z (x ++ (w ++ y)) (length x)) (sym s.2) ∙ f,
      ap (λ (w : List ℕ). rewritten z (x ++ (w ++ y)) (length x)) (sym s.2) ∙ g ∙ ap (λ (w : List ℕ). x ++ (w ++ y)) s.3,
    )
