-- No rule stands twice in the list of a kind and rank: two entries differ in their family, their i or their j.
--
-- Sections: lists made of parts; the families; the list; left sides.
-- Assumes nothing.
use mathlib.Core.Path.{◌≡◌, refl, sym, ap, subst, ◌∙◌}
use mathlib.Core.Bool.{Bool, true, false, ◌&&◌}
use mathlib.Core.Logic.{⊎_elim}
use mathlib.Core.List.Memᴰ
use mathlib.Core.List.{List, [], ◌∷◌, ◌++◌}
use Prim.Native.Nat.{ℕ, suc, ◌+◌, ◌-◌, ◌*◌, ◌≤◌, ◌<◌}
use native.Mathlib.Omega.{arith}
use lib.Dec.{eqb}
use Rattle.coxeter.specs.declared.Kind.{Kind}
use Rattle.coxeter.specs.declared.Kind.TheVariants.{A, B, D}
use Rattle.coxeter.specs.Kinds.{pick, least}
use Rattle.coxeter.specs.NormalForm.{rise}
use Rattle.rules.specs.Rules.{Rule, rule, concat_map, commuted, carried, turned, fits, Irreducible}
use Rattle.rules.specs.Rules.{family1, family2, family3, family4, families5to7, rules}
use Rattle.coxeter.proofs.TestLaws.{not_true_false}
use Rattle.rules.proofs.Letters.{mem_rise}
use Rattle.distribution.specs.AllWindows.{In, Once}
use Rattle.distribution.proofs.Members.{once_append, once_up}
use Rattle.presentation.proofs.Entries.{of_others, once_others}
use Rattle.presentation.proofs.Normalized.{left_fits}

-- ---- lists made of parts

-- what is in such a list is in one of its parts
of_concat_map : (f : ℕ → List Rule) (is : List ℕ) (x : Rule) → In x (concat_map f is) → (i : ℕ) × In i is × In x (f i)
unfolding concat_map
of_concat_map f [] x m = absurd (Memᴰ.not-nil m)
of_concat_map f (i ∷ is) x m =
    ⊎_elim
    (λ s. (i, Memᴰ.head refl, s))
    (λ s. let (j, q, t) = of_concat_map f is x s in (j, Memᴰ.tail q, t))
    (Memᴰ.append_cases (f i) m)

-- a number that the rules of each part show is that of the part
once_concat_map : (f : ℕ → List Rule) (label : Rule → ℕ) (is : List ℕ) → Once is → ((i : ℕ) → Once (f i))
    → ((i : ℕ) (x : Rule) → In x (f i) → label x ≡ i) → Once (concat_map f is)
unfolding concat_map
once_concat_map f label [] o p q = tt
once_concat_map f label (i ∷ is) o p q =
    once_append (f i) (concat_map f is) (p i) (once_concat_map f label is o.1 p q) (λ x s t.
    let (j, m, r) = of_concat_map f is x t in
    o.0 (Memᴰ.cast (sym (q i x s) ∙ q j x r) m))

once_range : (f : ℕ → List Rule) (label : Rule → ℕ) (a b : ℕ) → ((i : ℕ) → Once (f i)) → ((i : ℕ) (x : Rule) → In x (f i) → label x ≡ i)
    → Once (concat_map f (rise a b))
unfolding rise
once_range f label a b = once_concat_map f label (rise a b) (once_up a (suc b - a))

once_one : (x : Rule) → Once (x ∷ [])
once_one x = (Memᴰ.not-nil, tt)

once_pick : (t : Bool) (x : Rule) → Once (pick t [] (x ∷ []))
once_pick true x = tt
once_pick false x = once_one x

of_pick : (t : Bool) (x y : Rule) → In x (pick t [] (y ∷ [])) → x ≡ y
of_pick true x y m = absurd (Memᴰ.not-nil m)
of_pick false x y m = Memᴰ.eq_of_singleton m

-- none twice, and of the families c to d
record Part (c d : ℕ) (rs : List Rule) : Type 0 where
  pub once : Once rs
  pub families : (x : Rule) → In x rs → (c ≤ x.family) × (x.family ≤ d)

part_nil : (c d : ℕ) → Part c d []
part_nil c d = record { once = tt; families = λ x m. absurd (Memᴰ.not-nil m) }

part-one : (y : Rule) → Part y.family y.family (y ∷ [])
part-one y = record {
  once = once_one y;
  families = λ x m. let e = ap (λ (z : Rule). z.family) (Memᴰ.eq_of_singleton m) in (omega arith, omega arith);
}

-- two parts without a rule in common
part-append : {a b c d : ℕ} {rs qs : List Rule} → Part a b rs → Part c d qs → a ≤ c → b ≤ d → ((x : Rule) → In x rs → In x qs → ⊥)
    → Part a d (rs ++ qs)
part-append {rs = rs} {qs = qs} p q h g f = record {
  once = once_append rs qs p.once q.once f;
  families = λ x m.
      ⊎_elim
      (λ s. let t = p.families x s in (omega arith, omega arith))
      (λ s. let t = q.families x s in (omega arith, omega arith))
      (Memᴰ.append_cases rs m);
}

-- parts of different families
part-after : {a b c d : ℕ} {rs qs : List Rule} → Part a b rs → Part c d qs → a ≤ b → b < c → c ≤ d → Part a d (rs ++ qs)
part-after p q h g l = part-append p q (omega arith) (omega arith) (λ x s t. omega (arith, p.families x s, q.families x t))

-- a rule of family c that shows i and j
abbrev Shows : ℕ → ℕ → ℕ → Rule → Type 0
Shows c i j x = (x.family ≡ c) × (x.i ≡ i) × (x.j ≡ j)

-- for each i from a to b the rule g i
part_row : (g : ℕ → Rule) (a b c : ℕ) → ((i : ℕ) → Shows c i 0 (g i)) → Part c c (concat_map (λ i. g i ∷ []) (rise a b))
part_row g a b c h = record {
  once = once_range (λ i. g i ∷ []) (λ x. x.i) a b (λ i. once_one (g i)) (λ i x m. (shown i x m).1);
  families = λ x m. let (i, q, r) = of_concat_map (λ i. g i ∷ []) (rise a b) x m in omega (arith, (shown i x r).0);
}
  where
    shown : (i : ℕ) (x : Rule) → In x (g i ∷ []) → Shows c i 0 x
    shown i x m = rw (Memᴰ.eq_of_singleton m) (h i)

-- for each i from a to b and each j from `lo i` to `hi i` the rules g i j
module _ (g : ℕ → ℕ → List Rule) (lo hi : ℕ → ℕ) (a b c : ℕ) (shown : (i j : ℕ) (x : Rule) → In x (g i j) → Shows c i j x) where
  of_table : (x : Rule) → In x (concat_map (λ i. concat_map (g i) (rise (lo i) (hi i))) (rise a b)) → (i j : ℕ) × Shows c i j x × (i ≤ b) × (lo i ≤ j)
  of_table x m =
      let (i, q, r) = of_concat_map (λ i. concat_map (g i) (rise (lo i) (hi i))) (rise a b) x m in
      let (j, s, t) = of_concat_map (g i) (rise (lo i) (hi i)) x r in
      (i, j, shown i j x t, (mem_rise i a b q).1, (mem_rise j (lo i) (hi i) s).0)

  part-table : ((i j : ℕ) → Once (g i j)) → Part c c (concat_map (λ i. concat_map (g i) (rise (lo i) (hi i))) (rise a b))
  part-table o = record {
    once = once_range (λ i. concat_map (g i) (rise (lo i) (hi i))) (λ x. x.i) a b
        (λ i. once_range (g i) (λ x. x.j) (lo i) (hi i) (o i) (λ j x m. (shown i j x m).2))
        (λ i x m. let (j, s, t) = of_concat_map (g i) (rise (lo i) (hi i)) x m in (shown i j x t).1);
    families = λ x m. let (i, j, s, p, q) = of_table x m in omega (arith, s.0);
  }

-- ---- the families

family1-part : (n : ℕ) → Part 1 1 (family1 n)
unfolding family1
family1-part n = part_row (λ i. rule 1 i 0 (i ∷ i ∷ []) []) 1 n 1 (λ i. (refl, refl, refl))

-- family 2, but for the pairs that a test leaves out
module _ (n : ℕ) (t : ℕ → ℕ → Bool) where
  abbrev pair_unless : ℕ → ℕ → List Rule
  pair_unless i j = pick (t i j) [] (commuted i j ∷ [])

  pairs_shown : (i j : ℕ) (x : Rule) → In x (pair_unless i j) → Shows 2 i j x
  pairs_shown i j x m = rw (of_pick (t i j) x (commuted i j) m) (refl, refl, refl)

  pairs-part : Part 2 2 (concat_map (λ i. concat_map (pair_unless i) (rise (i + 2) n)) (rise 1 n))
  pairs-part = part-table pair_unless (λ i. i + 2) (λ i. n) 1 n 2 pairs_shown (λ i j. once_pick (t i j) (commuted i j))

  -- they lie two apart or more
  pairs_apart : (x : Rule) → In x (concat_map (λ i. concat_map (pair_unless i) (rise (i + 2) n)) (rise 1 n)) → x.i + 2 ≤ x.j
  pairs_apart x m = let (i, j, s, p, q) = of_table pair_unless (λ i. i + 2) (λ i. n) 1 n 2 pairs_shown x m in omega (arith, s.1, s.2)

family2-part : (k : Kind) (n : ℕ) → least k ≤ n → Part 2 2 (family2 k n)
unfolding family2
family2-part A n l = pairs-part n (λ i j. false)
family2-part B n l = pairs-part n (λ i j. false)
family2-part D n l =
    let t : ℕ → ℕ → Bool = λ i j. eqb (i + 2) n && eqb j n in
    let y = commuted (n - 1) n in
    part-append (pairs-part n t) (part-one y) (omega arith) (omega arith)
    (λ x p q.
    let e = Memᴰ.eq_of_singleton q in
    omega (arith, pairs_apart n t x p, ap (λ (z : Rule). z.i) e, ap (λ (z : Rule). z.j) e))

-- family 3 with i up to b
module _ (k : Kind) (n : ℕ) (hi : ℕ → ℕ) (b : ℕ) where
  carried_shown : (i j : ℕ) (x : Rule) → In x (carried k n i j ∷ []) → Shows 3 i j x
  carried_shown i j x m = rw (Memᴰ.eq_of_singleton m) (refl, refl, refl)

  carried-part : Part 3 3 (concat_map (λ i. concat_map (λ j. carried k n i j ∷ []) (rise (i + 1) (hi i))) (rise 1 b))
  carried-part = part-table (λ i j. carried k n i j ∷ []) (λ i. i + 1) hi 1 b 3 carried_shown (λ i j. once_one (carried k n i j))

  carried-up_to : (x : Rule) → In x (concat_map (λ i. concat_map (λ j. carried k n i j ∷ []) (rise (i + 1) (hi i))) (rise 1 b)) → x.i ≤ b
  carried-up_to x m =
      let (i, j, s, p, q) = of_table (λ i j. carried k n i j ∷ []) (λ i. i + 1) hi 1 b 3 carried_shown x m in
      omega (arith, s.1)

family3-part : (k : Kind) (n : ℕ) → least k ≤ n → Part 3 3 (family3 k n)
unfolding family3
family3-part A n l = carried-part A n (λ i. n) n
family3-part B n l = carried-part B n (λ i. 2 * n - i - 2) n
family3-part D n l =
    let y = carried D n (n - 2) (n - 1) in
    part-append (carried-part D n (λ i. 2 * n - i - 2) (n - 3)) (part-one y) (omega arith) (omega arith)
    (λ x p q.
    let e = Memᴰ.eq_of_singleton q in
    omega (arith, carried-up_to D n (λ i. 2 * n - i - 2) (n - 3) x p, ap (λ (z : Rule). z.i) e))

family4-part : (k : Kind) (n : ℕ) → Part 4 4 (family4 k n)
unfolding family4
family4-part A n = part_nil 4 4
family4-part B n = part_row (turned B n) 1 (n - 1) 4 (λ i. (refl, refl, refl))
family4-part D n = part_row (turned D n) 1 (n - 3) 4 (λ i. (refl, refl, refl))

families5to7-part : (k : Kind) (n : ℕ) → Part 5 7 (families5to7 k n)
unfolding families5to7
families5to7-part A n = part_nil 5 7
families5to7-part B n = part_nil 5 7
families5to7-part D n =
    part-after (part-one _)
    (part-after (part-one _) (part-one _) (omega arith) (omega arith) (omega arith))
    (omega arith) (omega arith) (omega arith)

-- ---- the list

-- no rule stands twice
pub rules_once : (k : Kind) (n : ℕ) → least k ≤ n → Once (rules k n)
unfolding rules
rules_once k n l =
    (part-after (family1-part n)
    (part-after (family2-part k n l)
    (part-after (family3-part k n l)
    (part-after (family4-part k n) (families5to7-part k n) (omega arith) (omega arith) (omega arith))
    (omega arith) (omega arith) (omega arith))
    (omega arith) (omega arith) (omega arith))
    (omega arith) (omega arith) (omega arith)).once

-- ---- left sides

-- U6: none of the other entries fits into a left side
pub rules_left_irreducible : (k : Kind) (n : ℕ) → least k ≤ n
    → (front : List Rule) (x : Rule) (rest : List Rule) → rules k n ≡ front ++ (x ∷ rest) → Irreducible (front ++ rest) x.left
rules_left_irreducible k n low front x rest e y m p = not_true_false (fits y x.left p) (λ f.
    let member : (z : Rule) → In z (front ++ (x ∷ rest)) → In z (rules k n) = λ z. subst (In z) (sym e) in
    let q = left_fits k n low x y (member x (Memᴰ.append_right front (Memᴰ.head refl))) (member y (of_others front x y rest m)) p f in
    once_others front x rest (subst Once e (rules_once k n low)) (Memᴰ.cast (sym q) m))
