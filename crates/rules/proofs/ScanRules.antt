-- At one place at most one rule fits, and the search finds it: where a letter leaves the way of a block, what the
-- search answers is an entry of the list whose left side begins the word; and of a word that begins with a left
-- side it answers that rule.
--
-- Sections: what the search finds is a rule; at most one rule fits.
-- Assumes nothing.
use mathlib.Core.Path.{◌≡◌, refl, sym, ap, subst⁻¹, ◌∙◌}
use mathlib.Core.Bool.{true, false, true≢false}
use mathlib.Core.Logic.{◌⊎◌, inl, inr, ⊎_elim}
use mathlib.Core.List.{List, [], ◌∷◌, ◌++◌, append_assoc, Memᴰ}
use mathlib.Core.Option.{Option, none, some, some-injective, none-ne-some}
use Prim.Native.Nat.{ℕ, suc, ◌+◌, ◌-◌, ◌*◌, ◌≤◌, ◌<◌}
use native.Mathlib.Decide.{ℕ_discrete}
use native.Mathlib.Omega.{arith}
use lib.Dec.{eqb}
use lib.ListN.{drop}
use borrow.Author.Tests.{eq-eqb, ne_eqb}
use Rattle.coxeter.specs.declared.Kind.{Kind}
use Rattle.coxeter.specs.declared.Kind.TheVariants.{A, B, D}
use Rattle.coxeter.specs.Kinds.{pick, least}
use Rattle.coxeter.specs.Checks.{wrong_letter}
use Rattle.coxeter.specs.NormalForm.{block, levels, last_index}
use Rattle.rules.specs.Rules.{Rule, rules, fits, first_fitting}
use Rattle.rules.proofs.Families.{Commutes, Carries, Turns, IsD}
use Rattle.rules.proofs.NextLetter.{commutes_top}
use Rattle.rules.proofs.RuleList.{Listed, square, commutation, carry, turn, five, six, seven, listed_of_mem, mem_of_listed}
use Rattle.rules.proofs.Fits.{begins-append, begins_split, first_fitting_some, first_fitting_none}
use Rattle.rules.proofs.LeavingLetters.{family_at_square, family_at_commute, family_at-below, family_at_carry, family_at_five}
use Rattle.rules.proofs.LeavingLetters.{family_at_inside, family_at_turn, family_at_six, family_at_seven, family_at-after}
use Rattle.rules.proofs.LeavingLetters.{rule_at_square, rule_at_commute, rule_at_carry, rule_at_turn, rule_at_five}
use Rattle.rules.proofs.LeavingLetters.{rule_at_six, rule_at_seven}
use Rattle.rules.proofs.ScanFamilies.{left_of, scan_left}
use Rattle.rules.proofs.Scan.{fork, family_at, rule_at, found, walk, scan, next_index, Leaving, Going}
use Rattle.rules.proofs.Scan.{climbs, tops, falls, leaves, going, Along, start, further, along_next}
use Rattle.rules.proofs.Letters.{commutes_below, block_one}
use Rattle.coxeter.proofs.Order.{less, same, more, compared}
use Rattle.coxeter.proofs.LetterLaws.{letter_within_cons, wrong_letter-drop}

-- ---- what the search finds is a rule

-- in the terms of the rules' side conditions: the letters beside the first, the end of a way, and a letter on it
commutes_of_leaving : (k : Kind) {n i j x : ℕ} → j ≡ i → i < x → x ≤ n → Leaving n (levels k n) (last_index k n i) j x → Commutes k n i x
commutes_of_leaving k {n} {i} {j} {x} e t l w = elim (ℕ_discrete x n) [
  | yes g ↦ rw g (commutes_top k n i (omega arith) (λ z. w.not_top (omega arith) g (omega arith)))
  | no g ↦ let z : x ≡ suc j → ⊥ = w.not_up (omega arith) (omega arith) in commutes_below k n i x (omega arith) (omega arith)
]

turns_of_end : (k : Kind) (n i j : ℕ) → i < j → i < levels k n → j ≤ last_index k n i → i + j ≡ 2 * n → (i ≡ fork k n → ⊥) → Turns k n i
turns_of_end A n i j e g m t f = omega arith
turns_of_end B n i j e g m t f = omega arith
turns_of_end D n i j e g m t f = omega arith

fork_of : (k : Kind) (n i : ℕ) → 1 ≤ i → i ≡ fork k n → IsD k × (i + 2 ≡ n)
fork_of A n i o e = absurd (omega arith)
fork_of B n i o e = absurd (omega arith)
fork_of D n i o e = (tt, omega arith)

carries_of_leaving : (k : Kind) {n i j : ℕ} → i < j → i < levels k n → j ≤ last_index k n i → (i + j ≡ 2 * n → ⊥)
    → (n ≤ j → j < last_index k n i → suc (i + j) ≡ 2 * n → ⊥) → (i ≡ fork k n → j ≡ n → ⊥) → Carries k n i j
carries_of_leaving A e g m t w f = m
carries_of_leaving B {n} {i} {j} e g m t w f = elim (ℕ_discrete (suc (i + j)) (2 * n)) [
  | yes z ↦ absurd (w (omega arith) (omega arith) z)
  | no z ↦ omega arith
]
carries_of_leaving D {n} {i} {j} e g m t w f = elim (ℕ_discrete (suc (i + j)) (2 * n)) [
  | yes z ↦ absurd (w (omega arith) (omega arith) z)
  | no z ↦ elim (ℕ_discrete (i + 2) n) [
    | yes q ↦ let y : j ≡ n → ⊥ = f (omega arith) in inr (omega arith)
    | no q ↦ inl (omega arith)
  ]
]

leaving_listed : {k : Kind} {n i j x : ℕ} → least k ≤ n → Along k n i j → 1 ≤ x → x ≤ n → Leaving n (levels k n) (last_index k n i) j x
    → (family_at n (fork k n) i j x ≡ 0) ⊎ Listed k n (rule_at k n i j x (family_at n (fork k n) i j x))
leaving_listed {k} {n} {i} {j} {x} h (start p q e) o l w =
    elim (compared x i) [
      | less t ↦ inl (family_at-below n (fork k n) i j x e t)
      | same t ↦ inr (rw (family_at_square n (fork k n) i j x e t, e, t) (rw (rule_at_square k n i h q) (square p q)))
      | more t ↦ inr (rw (family_at_commute n (fork k n) i j x e t, e)
          (rw (rule_at_commute k n i x h q) (commutation p l (commutes_of_leaving k e t l w))))
    ]
leaving_listed {k} {n} {i} {j} {x} h (further p q e m) o l w = elim (ℕ_discrete (i + j) (2 * n)) [ yes t ↦ after t | no t ↦ within_block t ]
  where
    forked : i + j ≡ 2 * n → i ≡ fork k n → (family_at n (fork k n) i j x ≡ 0) ⊎ Listed k n (rule_at k n i j x (family_at n (fork k n) i j x))
    forked t f =
        let d = fork_of k n i p f in
        let g : j ≡ n + 2 = omega arith in
        elim (ℕ_discrete x n) [
          | yes r ↦ inr (rw (family_at_six n (fork k n) i j x e t f r, g, r) (rw (rule_at_six k n i h d.0 d.1) (six d.0 d.1)))
          | no r ↦ elim (ℕ_discrete x (i + 1)) [
            | yes s ↦ inr (rw (family_at_seven n (fork k n) i j x e t f r s, g, s) (rw (rule_at_seven k n i h d.0 d.1) (seven d.0 d.1)))
            | no s ↦ inl (family_at-after n (fork k n) i j x e t (λ z. r) s)
          ]
        ]

    after : i + j ≡ 2 * n → (family_at n (fork k n) i j x ≡ 0) ⊎ Listed k n (rule_at k n i j x (family_at n (fork k n) i j x))
    after t =
        elim (ℕ_discrete i (fork k n)) [
          | yes f ↦ forked t f
          | no f ↦ elim (ℕ_discrete x (i + 1)) [
            | yes r ↦
                let g : j ≡ 2 * n - i = omega arith in
                inr (rw (family_at_turn n (fork k n) i j x e t f r, g, r) (rw (rule_at_turn k n i) (turn p (turns_of_end k n i j e q m t f))))
            | no r ↦ inl (family_at-after n (fork k n) i j x e t (λ z. absurd (f z)) r)
          ]
        ]

    carrying : (i + j ≡ 2 * n → ⊥) → x ≡ i → (i ≡ fork k n → j ≡ n → ⊥)
        → (family_at n (fork k n) i j x ≡ 0) ⊎ Listed k n (rule_at k n i j x (family_at n (fork k n) i j x))
    carrying t r f =
        inr (rw (family_at_carry n (fork k n) i j x e t r f, r)
        (rw (rule_at_carry k n i j) (carry p e (carries_of_leaving k e q m t (rw r at w.not_down) f))))

    within_block : (i + j ≡ 2 * n → ⊥) → (family_at n (fork k n) i j x ≡ 0) ⊎ Listed k n (rule_at k n i j x (family_at n (fork k n) i j x))
    within_block t =
        elim (ℕ_discrete x i) [
          | yes r ↦ elim (ℕ_discrete j n) [
            | yes g ↦ elim (ℕ_discrete i (fork k n)) [
              | yes f ↦
                  let d = fork_of k n i p f in
                  inr (rw (family_at_five n (fork k n) i j x e t r f g, g, r) (rw (rule_at_five k n i h d.0 d.1) (five d.0 d.1)))
              | no f ↦ carrying t r (λ z. absurd (f z))
            ]
            | no g ↦ carrying t r (λ z. g)
          ]
          | no r ↦ inl (family_at_inside n (fork k n) i j x e t r)
        ]

-- the rule is an entry of the list, and the word v begins with its left side
abbrev Begins : Kind → ℕ → List ℕ → Rule → Type 0
Begins k n v r = Listed k n r × ((y : List ℕ) × (v ≡ r.left ++ y))

leaving_of : {n c m j x s : ℕ} → Going n c m j x s → s ≡ 0 → Leaving n c m j x
leaving_of (climbs q r) z = absurd (omega arith)
leaving_of (tops q r t) z = absurd (omega arith)
leaving_of (falls q r t) z = absurd (omega arith)
leaving_of (leaves w) z = w

found_some : (k : Kind) (n i j x f : ℕ) (r : Rule) → found k n i j x f ≡ some r → (f ≡ 0 → ⊥) × (r ≡ rule_at k n i j x f)
unfolding found
found_some k n i j x f r e = elim (ℕ_discrete f 0) [
  | yes z ↦ absurd (none-ne-some r (rw (eq-eqb f 0 z) at e))
  | no z ↦ (z, sym (some-injective (rule_at k n i j x f) r (rw (ne_eqb f 0 z) at e)))
]

found-begins : {k : Kind} {n i j x : ℕ} (v : List ℕ) {r : Rule} → least k ≤ n → Along k n i j → 1 ≤ x → x ≤ n → Leaving n (levels k n) (last_index k n i) j x
    → found k n i j x (family_at n (fork k n) i j x) ≡ some r → Begins k n (block k n i j ++ (x ∷ v)) r
found-begins {k} {n} {i} {j} {x} v {r} h a o l w e =
    let f = family_at n (fork k n) i j x in
    let s = found_some k n i j x f r e in (
      subst⁻¹ (Listed k n) s.1 (⊎_elim (λ z. absurd (s.0 z)) (λ q. q) (leaving_listed h a o l w)),
      (v, sym (ap (λ (y : List ℕ). y ++ v) (left_of k n r i j x f s.1) ∙ append_assoc (block k n i j) (x ∷ []) v)),
    )

walk_begins : {k : Kind} {n i j : ℕ} (v : List ℕ) {r : Rule} → least k ≤ n → Along k n i j → wrong_letter n v ≡ false → walk k n i j v ≡ some r
    → Begins k n (block k n i j ++ v) r
unfolding walk
walk_begins [] {r} h a w e = absurd (none-ne-some r e)
walk_begins {k} {n} {i} {j} (x ∷ v) {r} h a w e =
    step (next_index n (levels k n) (last_index k n i) j x) (going n (levels k n) (last_index k n i) j x (letter_within_cons n x v w).1)
    (λ s b q. walk_begins v h b (letter_within_cons n x v w).2 q) e
  where
    step : (s : ℕ) → Going n (levels k n) (last_index k n i) j x s → ((s : ℕ) → Along k n i s → walk k n i s v ≡ some r → Begins k n (block k n i s ++ v) r)
        → pick (eqb s 0) (found k n i j x (family_at n (fork k n) i j x)) (walk k n i s v) ≡ some r → Begins k n (block k n i j ++ (x ∷ v)) r
    step s g ih q = elim (ℕ_discrete s 0) [ yes z ↦ left z | no z ↦ stays z ]
      where
        left : s ≡ 0 → Begins k n (block k n i j ++ (x ∷ v)) r
        left z = found-begins v h a (letter_within_cons n x v w).0 (letter_within_cons n x v w).1 (leaving_of g z) (rw (eq-eqb s 0 z) at q)

        stays : (s ≡ 0 → ⊥) → Begins k n (block k n i j ++ (x ∷ v)) r
        stays z =
            let b = along_next k n i j x a g z in
            let t = ih s b.0 (rw (ne_eqb s 0 z) at q) in
            (t.0, (t.1.0, sym (ap (λ (y : List ℕ). y ++ v) b.1 ∙ append_assoc (block k n i j) (x ∷ []) v) ∙ t.1.1))

scan_begins : (k : Kind) (n : ℕ) (v : List ℕ) (r : Rule) → least k ≤ n → wrong_letter n v ≡ false → scan k n v ≡ some r → Begins k n v r
unfolding scan wrong_letter
scan_begins k n [] r h w e = absurd (none-ne-some r e)
scan_begins k n (i ∷ v) r h w e =
    let g = letter_within_cons n i v w in
    rw (block_one k n i h g.1) at (walk_begins v h (start g.0 g.1 refl) g.2 e)

-- ---- at most one rule fits

-- the search finds the rule that fits at a place
scan_of_fits : (k : Kind) (n : ℕ) (u : List ℕ) (p : ℕ) (x : Rule) → least k ≤ n → Memᴰ x (rules k n) → fits x u p ≡ true
    → scan k n (drop p u) ≡ some x
unfolding fits
scan_of_fits k n u p x h m f =
    let s = begins_split x.left (drop p u) f in
    rw s.1 (scan_left k n x h (listed_of_mem k n h x m) s.0)

pub fitting_unique : (k : Kind) (n : ℕ) (u : List ℕ) (p : ℕ) {x y : Rule} → least k ≤ n → Memᴰ x (rules k n) → Memᴰ y (rules k n)
    → fits x u p ≡ true → fits y u p ≡ true → x ≡ y
fitting_unique k n u p {x} {y} h m q f g =
    some-injective x y (sym (scan_of_fits k n u p x h m f) ∙ scan_of_fits k n u p y h q g)

pub scan_is_first_fitting : (k : Kind) (n : ℕ) → least k ≤ n → (u : List ℕ) (p : ℕ) → wrong_letter n u ≡ false
    → scan k n (drop p u) ≡ first_fitting (rules k n) u p
unfolding fits
scan_is_first_fitting k n h u p w = scan_is_first_fitting_by_cases (scan k n (drop p u)) refl (first_fitting (rules k n) u p) refl
  where
    scan_is_first_fitting_by_cases : (a : Option Rule) → scan k n (drop p u) ≡ a → (b : Option Rule) → first_fitting (rules k n) u p ≡ b → a ≡ b
    scan_is_first_fitting_by_cases none e none q = refl
    scan_is_first_fitting_by_cases a e (some y) q = let s = first_fitting_some (rules k n) u p y q in sym e ∙ scan_of_fits k n u p y h s.0 s.1
    scan_is_first_fitting_by_cases (some x) e none q =
        let s = scan_begins k n (drop p u) x h (wrong_letter-drop n p u w) e in
        let f : fits x u p ≡ true = rw s.1.1 (begins-append x.left s.1.0) in
        absurd (true≢false (sym f ∙ first_fitting_none (rules k n) u p q x (mem_of_listed k n h s.0)))
