-- How many rules a kind and rank has: the lengths of the families, added up over i from the last back.
--
-- Sections: sums; the families; the list.
-- Assumes nothing.
use mathlib.Core.Path.{◌≡◌, refl, sym, ap, ap₂, ◌∙◌}
use mathlib.Core.Bool.{◌&&◌}
use mathlib.Core.List.{List, [], ◌∷◌}
use Prim.Native.Nat.{ℕ, zero, suc, ◌+◌, ◌-◌, ◌*◌, ◌≤◌}
use native.Mathlib.Nat.{suc-mul, mul-suc}
use native.Mathlib.Decide.{ℕ_discrete}
use native.Mathlib.Omega.{arith}
use lib.Dec.{eqb}
use lib.ListN.{length, length-append}
use borrow.Author.Tests.{eq-eqb, ne_eqb}
use Rattle.coxeter.specs.declared.Kind.{Kind}
use Rattle.coxeter.specs.declared.Kind.TheVariants.{A, B, D}
use Rattle.coxeter.specs.Kinds.{pick, least, up}
use Rattle.coxeter.specs.NormalForm.{rise}
use Rattle.rules.specs.Rules.{Rule, rule, concat_map, commuted, carried, turned, family1, family2, family3, family4, families5to7, rules}
use Rattle.presentation.specs.Presentations.{rule_count}

-- ---- sums

square_suc : (n : ℕ) → suc n * suc n ≡ n * n + 2 * n + 1
square_suc n = omega (arith, suc-mul n (suc n), mul-suc n n)

square_of : (d n : ℕ) → suc d ≡ n → n * n ≡ d * d + 2 * d + 1
square_of d n e = ap (λ (x : ℕ). x * x) (sym e) ∙ square_suc d

-- f a + f (a + 1) + .., with c terms
total : (ℕ → ℕ) → ℕ → ℕ → ℕ
total f a zero = 0
total f a (suc c) = f a + total f (suc a) c

length-concat_map : (g : ℕ → List Rule) (f : ℕ → ℕ) → ((i : ℕ) → length (g i) ≡ f i) → (a c : ℕ) → length (concat_map g (up a c)) ≡ total f a c
unfolding total concat_map up
length-concat_map g f h a zero = refl
length-concat_map g f h a (suc c) = length-append (g a) (concat_map g (up (suc a) c)) ∙ ap₂ (λ (x y : ℕ). x + y) (h a) (length-concat_map g f h (suc a) c)

-- a rule for each number from a to b
length_row : (g : ℕ → Rule) (a b : ℕ) → length (concat_map (λ i. g i ∷ []) (rise a b)) ≡ suc b - a
unfolding rise total
length_row g a b = length-concat_map (λ i. g i ∷ []) (λ i. 1) (λ i. refl) a (suc b - a) ∙ ones a (suc b - a)
  where
    ones : (a c : ℕ) → total (λ i. 1) a c ≡ c
    ones a zero = refl
    ones a (suc c) = omega (arith, ones (suc a) c)

-- a rule for each number from a to b and each from `lo i` to `hi i`
length-table : (g : ℕ → ℕ → Rule) (lo hi : ℕ → ℕ) (a b : ℕ)
    → length (concat_map (λ i. concat_map (λ j. g i j ∷ []) (rise (lo i) (hi i))) (rise a b)) ≡ total (λ i. suc (hi i) - lo i) a (suc b - a)
unfolding rise
length-table g lo hi a b = length-concat_map _ _ (λ i. length_row (g i) (lo i) (hi i)) a (suc b - a)

-- ---- the sums of families 2 and 3

module _ (n : ℕ) where
  -- family 3 in A
  total-up : (a c : ℕ) → a + c ≡ suc n → 2 * total (λ i. suc n - (i + 1)) a c + c ≡ c * c
  unfolding total
  total-up a zero e = refl
  total-up a (suc c) e = omega (arith, total-up (suc a) c (omega arith), square_suc c)

  -- family 2 in A and B
  total_apart : (a c : ℕ) → a + c ≡ n → 2 * total (λ i. suc n - (i + 2)) a (suc c) + c ≡ c * c
  unfolding total
  total_apart a zero e = omega arith
  total_apart a (suc c) e = omega (arith, total_apart (suc a) c (omega arith), square_suc c)

  -- family 3 in B
  total-turned : (a c : ℕ) → a + c ≡ n → total (λ i. suc (2 * n - i - 2) - (i + 1)) a (suc c) + c ≡ c * c
  unfolding total
  total-turned a zero e = omega arith
  total-turned a (suc c) e = omega (arith, total-turned (suc a) c (omega arith), square_suc c)

  -- family 3 in D, without the last rule
  total_forked : (a c : ℕ) → a + c + 2 ≡ n → total (λ i. suc (2 * n - i - 2) - (i + 1)) a c ≡ c * c + 3 * c
  unfolding total
  total_forked a zero e = refl
  total_forked a (suc c) e = omega (arith, total_forked (suc a) c (omega arith), square_suc c)

  -- family 2 in D, without the last rule: no j for i = n − 2
  abbrev without : ℕ → ℕ
  without i = pick (eqb (i + 2) n) 0 (suc n - (i + 2))

  without_corner : (i : ℕ) → i + 2 ≡ n → without i ≡ 0
  without_corner i e = rw (eq-eqb (i + 2) n e)

  without_other : (i : ℕ) → (i + 2 ≡ n → ⊥) → without i ≡ suc n - (i + 2)
  without_other i f = rw (ne_eqb (i + 2) n f)

  total-without : (a c : ℕ) → a + c ≡ n → 2 ≤ c → 2 * total without a (suc c) + c + 2 ≡ c * c
  unfolding total
  total-without a zero e h = absurd (omega arith)
  total-without a (suc zero) e h = absurd (omega arith)
  total-without a (suc (suc zero)) e h =
      omega (arith, without_corner a e, without_other (suc a) (omega arith), without_other (suc (suc a)) (omega arith))
  total-without a (suc (suc (suc c))) e h =
      omega (arith, without_other a (omega arith), total-without (suc a) (suc (suc c)) (omega arith) (omega arith), square_suc (suc (suc c)))

-- ---- the families

-- the rules of D's family 2 for one i, without the last rule
abbrev pairs : ℕ → ℕ → List Rule
pairs n i = concat_map (λ j. pick (eqb (i + 2) n && eqb j n) [] (commuted i j ∷ [])) (rise (i + 2) n)

length_pairs : (n i : ℕ) → length (pairs n i) ≡ without n i
unfolding rise concat_map up
length_pairs n i = elim (ℕ_discrete (i + 2) n) [
  | yes e ↦
      let one : suc n - n ≡ 1 = omega arith in
      rw (eq-eqb (i + 2) n e, e, one, eq-eqb n n refl)
  | no f ↦ rw (ne_eqb (i + 2) n f) (length_row (commuted i) (i + 2) n)
]

length-family1 : (n : ℕ) → length (family1 n) ≡ n
unfolding family1
length-family1 n = length_row (λ i. rule 1 i 0 (i ∷ i ∷ []) []) 1 n ∙ omega arith

length-family3-A : (n : ℕ) → 2 * length (family3 A n) + n ≡ n * n
unfolding family3
length-family3-A n =
    let terms : suc n - 1 ≡ n = omega arith in
    let q = length-table (carried A n) (λ i. i + 1) (λ i. n) 1 n ∙ ap (total (λ i. suc n - (i + 1)) 1) terms in
    omega (arith, total-up n 1 n (omega arith))

module _ (n d : ℕ) (e : suc d ≡ n) where
  terms : suc n - 1 ≡ suc d
  terms = omega arith

  -- the rules of family 2 are as many in all kinds, since D has one rule for the one that it leaves out
  length-family2 : (k : Kind) → least k ≤ n → 2 * length (family2 k n) + 3 * n ≡ n * n + 2
  unfolding family2 rise
  length-family2 A l =
      omega (
        arith,
        length-table commuted (λ i. i + 2) (λ i. n) 1 n ∙ ap (total (λ i. suc n - (i + 2)) 1) terms,
        total_apart n 1 d (omega arith),
        square_of d n e,
      )
  length-family2 B l =
      omega (
        arith,
        length-table commuted (λ i. i + 2) (λ i. n) 1 n ∙ ap (total (λ i. suc n - (i + 2)) 1) terms,
        total_apart n 1 d (omega arith),
        square_of d n e,
      )
  length-family2 D l =
      let q = length-concat_map (pairs n) (without n) (length_pairs n) 1 (suc n - 1) ∙ ap (total (without n) 1) terms in
      simp length-append (omega (arith, q, total-without n 1 d (omega arith) (omega arith), square_of d n e))

  length-family3-B : length (family3 B n) + 3 * n ≡ n * n + 2
  unfolding family3
  length-family3-B =
      omega (
        arith,
        length-table (carried B n) (λ i. i + 1) (λ i. 2 * n - i - 2) 1 n
            ∙ ap (total (λ i. suc (2 * n - i - 2) - (i + 1)) 1) terms,
        total-turned n 1 d (omega arith),
        square_of d n e,
      )

length-family3-D : (n c : ℕ) → c + 3 ≡ n → length (family3 D n) + 3 * n ≡ n * n + 1
unfolding family3
length-family3-D n c e =
    let terms : suc (n - 3) - 1 ≡ c = omega arith in
    simp length-append
    (omega (
      arith,
      length-table (carried D n) (λ i. i + 1) (λ i. 2 * n - i - 2) 1 (n - 3)
          ∙ ap (total (λ i. suc (2 * n - i - 2) - (i + 1)) 1) terms,
      total_forked n 1 c (omega arith),
      square_of c (suc c) refl,
      square_of (suc c) (suc (suc c)) refl,
      square_of (suc (suc c)) n (omega arith),
    ))

-- ---- the list

length-rules : (k : Kind) (n : ℕ)
    → length (rules k n)
    ≡ length (family1 n) + (length (family2 k n) + (length (family3 k n) + (length (family4 k n) + length (families5to7 k n))))
unfolding rules
length-rules k n = simp length-append

-- U9: how many rules there are
pub rules-count : (k : Kind) (n : ℕ) → least k ≤ n → length (rules k n) ≡ rule_count k n
unfolding family4 families5to7
rules-count A n l =
    let e : suc (n - 1) ≡ n = omega arith in
    omega (arith, length-rules A n, length-family1 n, length-family2 n (n - 1) e A l, length-family3-A n)
rules-count B n l =
    let e : suc (n - 1) ≡ n = omega arith in
    omega (
      arith,
      length-rules B n,
      length-family1 n,
      length-family2 n (n - 1) e B l,
      length-family3-B n (n - 1) e,
      length_row (turned B n) 1 (n - 1),
    )
rules-count D n l =
    let e : suc (n - 1) ≡ n = omega arith in
    omega (
      arith,
      length-rules D n,
      length-family1 n,
      length-family2 n (n - 1) e D l,
      length-family3-D n (n - 3) (omega arith),
      length_row (turned D n) 1 (n - 3),
    )
