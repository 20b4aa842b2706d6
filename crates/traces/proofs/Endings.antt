-- The rule whose left side ends a word. If no rule fits into a word, one that fits when a letter is added ends
-- there, and it fits at the lowest place, whatever follows: a left side that began before it would hold it behind
-- its own first letter, and there none fits (LeftSides).
--
-- Sections: a rule in a part of a word; the rule that ends a word; its first letter.
-- Assumes nothing.
use mathlib.Core.Path.{◌≡◌, refl, sym, ap, subst, ◌∙◌}
use mathlib.Core.Bool.{true, true≢false, and-eq-true_iff}
use mathlib.Core.List.{List, [], ◌∷◌, ◌++◌, append_assoc, Memᴰ}
use Prim.Native.Nat.{ℕ, suc, ◌+◌, ◌-◌, ◌*◌, ◌≤◌, ◌<◌}
use native.Mathlib.Nat.{lt_of_not-le}
use native.Mathlib.Decide.{dec_le}
use native.Mathlib.Omega.{arith}
use lib.Dec.{eqb}
use lib.ListN.{length, get_or, drop, length-append, length-drop, get_or-append}
use lib.Seq.{append_snoc, drop-append-le, drop-drop, get_or-drop}
use Rattle.coxeter.specs.declared.Kind.{Kind}
use Rattle.coxeter.specs.Kinds.{least}
use Rattle.coxeter.proofs.TestLaws.{not_true_false}
use Rattle.rules.specs.Rules.{Rule, rules, begins, fits, Irreducible}
use Rattle.rules.proofs.Fits.{begins-append, begins_split, none_first_fitting, first_fitting_of_unique, left_nonempty}
use Rattle.rules.proofs.ScanRules.{fitting_unique}
use Rattle.traces.proofs.LeftSideShapes.{lower, Shape, fits_inside}
use Rattle.traces.proofs.LeftSides.{shape_of_rule}
use Rattle.traces.proofs.Traces.{Lowest}

-- ---- a rule in a part of a word

begins-front : (l x z : List ℕ) → begins l (x ++ z) ≡ true → length l ≤ length x → begins l x ≡ true
unfolding begins
begins-front [] x z e g = refl
begins-front (a ∷ l) [] z e g = absurd (omega arith)
begins-front (a ∷ l) (b ∷ x) z e g =
    let t = (and-eq-true_iff (eqb a b) (begins l (x ++ z))).0 e in
    (and-eq-true_iff (eqb a b) (begins l x)).1 (t.0, begins-front l x z t.1 (omega arith))

begins_more : (l x z : List ℕ) → begins l x ≡ true → begins l (x ++ z) ≡ true
begins_more l x z e =
    let s = begins_split l x e in
    rw (s.1, append_assoc) (begins-append l (s.0 ++ z))

fits-front : (r : Rule) (u z : List ℕ) (p : ℕ) → fits r (u ++ z) p ≡ true → p + length r.left ≤ length u → fits r u p ≡ true
unfolding fits
fits-front r u z p e g =
    begins-front r.left (drop p u) z (ap (begins r.left) (sym (drop-append-le p u z (omega arith))) ∙ e) (simp length-drop (omega arith))

fits_more : (r : Rule) (u z : List ℕ) (p : ℕ) → fits r u p ≡ true → p ≤ length u → fits r (u ++ z) p ≡ true
unfolding fits
fits_more r u z p e g = ap (begins r.left) (drop-append-le p u z g) ∙ begins_more r.left (drop p u) z e

-- a left side that stands inside another, d letters after its start
fits_in_left : (r t : Rule) (u : List ℕ) (q d : ℕ) → fits t u q ≡ true → fits r u (q + d) ≡ true → d + length r.left ≤ length t.left
    → fits r t.left d ≡ true
unfolding fits
fits_in_left r t u q d e f g =
    let s = begins_split t.left (drop q u) e in
    begins-front r.left (drop d t.left) s.0
    (ap (begins r.left) (sym (drop-append-le d t.left s.0 (omega arith)) ∙ ap (drop d) (sym s.1) ∙ drop-drop d q u) ∙ f)
    (simp length-drop (omega arith))

fits-behind : (r : Rule) (b : ℕ) (u : List ℕ) (d : ℕ) → fits r (b ∷ u) (suc d) ≡ true → fits r u d ≡ true
unfolding fits
fits-behind r b u d e = e

-- ---- the rule that ends a word

module _ (k : Kind) (n : ℕ) (h : least k ≤ n) (a : List ℕ) (x : ℕ) (none_in : Irreducible (rules k n) a) where
  module _ (r : Rule) (m : Memᴰ r (rules k n)) (p : ℕ) (f : fits r (a ++ (x ∷ [])) p ≡ true) where
    pub ends_there : p + length r.left ≡ suc (length a)
    ends_there =
        let g = rw length-append at (fits_inside r (a ++ (x ∷ [])) p (left_nonempty k n h r m) f) in
        elim (dec_le (p + length r.left) (length a)) [
          | yes l ↦ absurd (true≢false (sym (fits-front r a (x ∷ []) p f l) ∙ none_in r m p))
          | no l ↦ omega arith
        ]

    module _ (rest : List ℕ) where
      abbrev word : List ℕ
      word = a ++ (x ∷ rest)

      fits_word : fits r word p ≡ true
      fits_word =
          subst (λ (w : List ℕ). fits r w p ≡ true) (append_snoc a x rest)
          (fits_more r (a ++ (x ∷ [])) rest p f (rw length-append (omega (arith, ends_there))))

      -- a rule before it would hold it behind its first letter
      before_it : (t : Rule) → Memᴰ t (rules k n) → (q : ℕ) → q < p → fits t word q ≡ true → ⊥
      before_it t i q l e =
          elim (dec_le (q + length t.left) (length a)) [
            | yes g ↦ true≢false (sym (fits-front t a (x ∷ rest) q e g) ∙ none_in t i q)
            | no g ↦ behind (shape_of_rule k n h t i) (lt_of_not-le g)
          ]
        where
          behind : Shape k n t.left → length a < q + length t.left → ⊥
          behind s g =
              let d : ℕ = p - suc q in
              let c : q + suc d ≡ p = omega arith in
              let v = fits_in_left r t word q (suc d) e (rw c fits_word) (omega (arith, ends_there)) in
              true≢false (sym (fits-behind r s.first s.tail d (rw s.is at v)) ∙ s.irreducible r m d)

      pub lowest_of_ending : Lowest k n word (record { place = p; rule = r })
      lowest_of_ending = record {
        inside = rw length-append (omega (arith, ends_there, left_nonempty k n h r m));
        fitting = first_fitting_of_unique (rules k n) word p r m fits_word (λ y i e. fitting_unique k n word p h i m e fits_word);
        below = λ q l. none_first_fitting (rules k n) word q (λ t i. not_true_false (fits t word q) (before_it t i q l));
      }

-- ---- its first letter

letter_of_fits : (r : Rule) (u : List ℕ) (p t : ℕ) → fits r u p ≡ true → t < length r.left → get_or u (p + t) 0 ≡ get_or r.left t 0
unfolding fits
letter_of_fits r u p t e l =
    let s = begins_split r.left (drop p u) e in
    sym (get_or-drop p u t 0) ∙ ap (λ (w : List ℕ). get_or w t 0) s.1 ∙ get_or-append r.left s.0 0 t l

-- the rule r fits at place p of u, and its left side ends at the place behind q
pub record EndsBehind (k : Kind) (n : ℕ) (r : Rule) (u : List ℕ) (p q : ℕ) : Type 0 where
  pub rank : least k ≤ n
  pub listed : Memᴰ r (rules k n)
  pub fit : fits r u p ≡ true
  pub ends : p + length r.left ≡ suc (suc q)

-- such a rule begins with the lower of the letters at q and behind it, less than 2n places before
pub first_of_ending : {k : Kind} {n : ℕ} {r : Rule} {u : List ℕ} {p q : ℕ} → EndsBehind k n r u p q
    → (get_or u p 0 ≡ lower (get_or u q 0) (get_or u (suc q) 0)) × (suc (suc q) ≤ p + 2 * n)
first_of_ending {k} {n} {r} {u} {p} {q} a =
    let f = a.fit in
    let e = a.ends in
    let s = shape_of_rule k n a.rank r a.listed in
    let t : ℕ = q - p in
    let c : length r.left ≡ suc (length s.tail) = ap length s.is in
    let b : p + t ≡ q = omega (arith, s.long) in
    let d : p + suc t ≡ suc q = omega (arith, s.long) in
    let z : p + 0 ≡ p = omega arith in
    let one : get_or u p 0 ≡ s.first = (rw z at (letter_of_fits r u p 0 f (omega arith))) ∙ ap (λ (w : List ℕ). get_or w 0 0) s.is in
    let two : get_or u q 0 ≡ get_or r.left t 0 = ap (λ (i : ℕ). get_or u i 0) (sym b) ∙ letter_of_fits r u p t f (omega (arith, s.long)) in
    let three : get_or u (suc q) 0 ≡ get_or r.left (suc t) 0 =
    ap (λ (i : ℕ). get_or u i 0) (sym d) ∙ letter_of_fits r u p (suc t) f (omega (arith, s.long)) in
    (one ∙ s.lowest t (omega (arith, s.long)) ∙ rw (two, three), omega (arith, s.short))

-- and below every letter between it and these two
pub between_of_ending : {k : Kind} {n : ℕ} {r : Rule} {u : List ℕ} {p q : ℕ} → EndsBehind k n r u p q → (t : ℕ) → p < t → t < q
    → get_or u p 0 < get_or u t 0
between_of_ending {k} {n} {r} {u} {p} a t g h =
    let f = a.fit in
    let e = a.ends in
    let s = shape_of_rule k n a.rank r a.listed in
    let d : ℕ = t - p in
    let c : length r.left ≡ suc (length s.tail) = ap length s.is in
    let i : p + d ≡ t = omega arith in
    let z : p + 0 ≡ p = omega arith in
    let one : get_or u p 0 ≡ s.first = (rw z at (letter_of_fits r u p 0 f (omega arith))) ∙ ap (λ (w : List ℕ). get_or w 0 0) s.is in
    let two : get_or u t 0 ≡ get_or r.left d 0 = ap (λ (j : ℕ). get_or u j 0) (sym i) ∙ letter_of_fits r u p d f (omega arith) in
    rw (one, two) (s.higher d (omega arith) (omega arith))
