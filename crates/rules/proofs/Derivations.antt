-- Both sides of a rule are congruent under the Coxeter relations, and those of every family but 1 by relations of equal
-- length alone: a letter that commutes with a word moves past it, and one or two threefold relations do the rest.
--
-- Sections: congruent words inside a word; moving past a word; families 3 and 4; families 5 to 7; every rule.
-- Assumes nothing.
use mathlib.Core.Path.{◌≡◌, refl, subst, subst₂}
use mathlib.Core.Logic.{inl, inr}
use mathlib.Core.List.Memᴰ
use mathlib.Core.List.{List, [], ◌∷◌, ◌++◌, append_assoc, append-nil, cons-ne-nil}
use Prim.Native.Nat.{ℕ, ◌+◌, ◌-◌, ◌*◌, ◌≤◌, ◌<◌}
use native.Mathlib.Omega.{arith}
use Rattle.coxeter.specs.declared.Kind.{Kind}
use Rattle.coxeter.specs.declared.Kind.TheVariants.{A, B, D}
use Rattle.coxeter.specs.Kinds.{least}
use Rattle.coxeter.specs.NormalForm.{block}
use Rattle.coxeter.specs.Relations.{Neighbours, Braid, threefold, fourfold, commute, Relation, twice, braid, Congruent, alone}
use Rattle.coxeter.proofs.Congruence.{congruent_trans, congruent_sym, congruent_context, congruent_one, congruent_map}
use Rattle.rules.proofs.Families.{Carries, IsD, RuleOf, square, commutation, carry, turn, five, six, seven}
use Rattle.rules.proofs.Letters.{Clear, CarriedBlock, carries_carried, TurnedBlock, wide, narrow, turns_turned}
use Rattle.coxeter.proofs.Relations.{apart_commuting}

-- ---- congruent words inside a word

congruent_after : {R : List ℕ → List ℕ → Type 0} {u v : List ℕ} (x : List ℕ) → Congruent R u v → Congruent R (x ++ u) (x ++ v)
congruent_after {R} {u} {v} x p = subst₂ (λ (s t : List ℕ). Congruent R (x ++ s) (x ++ t)) (append-nil u) (append-nil v) (congruent_context x [] p)

-- one relation inside a word, from left to right and from right to left
forwards : {k : Kind} {n : ℕ} {l r : List ℕ} (x y : List ℕ) → Braid k n l r → Congruent (Braid k n) (x ++ (l ++ y)) (x ++ (r ++ y))
forwards x y h = congruent_context x y (congruent_one h)

backwards : {k : Kind} {n : ℕ} {l r : List ℕ} (x y : List ℕ) → Braid k n l r → Congruent (Braid k n) (x ++ (r ++ y)) (x ++ (l ++ y))
backwards x y h = congruent_sym (forwards x y h)

-- ---- moving past a word

-- a letter below a word that commutes with each of its letters moves to the front
clear_congruent : (k : Kind) (n a : ℕ) (u : List ℕ) → 1 ≤ a → Clear k n a u → Congruent (Braid k n) (u ++ (a ∷ [])) (a ∷ u)
clear_congruent k n a [] o c = alone
clear_congruent k n a (b ∷ u) o c =
    let h = c b (Memᴰ.head refl) in
    congruent_trans
    (congruent_after (b ∷ []) (clear_congruent k n a u o (λ x m. c x (Memᴰ.tail m))))
    (backwards [] u (commute o h.0 (apart_commuting k n a b h.1)))

-- ---- families 3 and 4

-- a b T a → b a b T
carry_congruent : (k : Kind) (n a b : ℕ) (u : List ℕ) → 1 ≤ a → b ≤ n → Neighbours k n a b → Clear k n a u
    → Congruent (Braid k n) (a ∷ b ∷ (u ++ (a ∷ []))) (b ∷ a ∷ b ∷ u)
carry_congruent k n a b u o l h c =
    congruent_trans
    (congruent_after (a ∷ b ∷ []) (clear_congruent k n a u o c))
    (forwards [] u (threefold o l h))

-- a b T b a b → b a b T b a
turn_congruent : (k : Kind) (n a b : ℕ) (u : List ℕ) → 1 ≤ a → b ≤ n → Neighbours k n a b → Clear k n a u
    → Congruent (Braid k n) (a ∷ b ∷ (u ++ (b ∷ a ∷ b ∷ []))) (b ∷ a ∷ b ∷ (u ++ (b ∷ a ∷ [])))
turn_congruent k n a b u o l h c =
    congruent_trans
    (congruent_after (a ∷ b ∷ u) (backwards [] [] (threefold o l h)))
    (subst (λ (w : List ℕ). Congruent (Braid k n) (a ∷ b ∷ w) (b ∷ a ∷ b ∷ (u ++ (b ∷ a ∷ []))))
    (append_assoc u (a ∷ []) (b ∷ a ∷ []))
    (congruent_context [] (b ∷ a ∷ []) (carry_congruent k n a b u o l h c)))

carries_neighbours : (k : Kind) (n i j : ℕ) → 1 ≤ i → i < j → Carries k n i j → (i + 1 ≤ n) × Neighbours k n i (i + 1)
carries_neighbours A n i j o h g = (omega arith, refl)
carries_neighbours B n i j o h g = (omega arith, (refl, omega arith))
carries_neighbours D n i j o h (inl g) = (omega arith, inl (refl, omega arith))
carries_neighbours D n i j o h (inr g) = (omega arith, inl (refl, omega arith))

carried_congruent : (k : Kind) (n i j : ℕ) → 1 ≤ i → i + 1 ≤ n → Neighbours k n i (i + 1) → CarriedBlock k n i j
    → Congruent (Braid k n) (block k n i j ++ (i ∷ [])) ((i + 1) ∷ block k n i j)
carried_congruent k n i j o l h c = rw c.shape (carry_congruent k n i (i + 1) c.rest o l h c.clear)

turned_congruent : (k : Kind) (n i : ℕ) → 1 ≤ i → TurnedBlock k n i
    → Congruent (Braid k n) (block k n i (2 * n - i) ++ ((i + 1) ∷ [])) ((i + 1) ∷ block k n i (2 * n - i))
turned_congruent k n i o (wide u e c h l) = rw (e, append_assoc) (turn_congruent k n i (i + 1) u o l h c)
turned_congruent k n i o (narrow e h l) = rw e (congruent_one (fourfold o l h))

-- ---- families 5 to 7

-- the relations between a = n − 2, b = n − 1 and c = n in kind D
record ForkRelations (k : Kind) (n a : ℕ) : Type 0 where
  ab : Braid k n (a ∷ (a + 1) ∷ a ∷ []) ((a + 1) ∷ a ∷ (a + 1) ∷ [])
  ac : Braid k n (a ∷ n ∷ a ∷ []) (n ∷ a ∷ n ∷ [])
  bc : Braid k n ((a + 1) ∷ n ∷ []) (n ∷ (a + 1) ∷ [])

fork : (k : Kind) (n a : ℕ) → IsD k → least k ≤ n → a + 2 ≡ n → ForkRelations k n a
fork A n a d h e = absurd d
fork B n a d h e = absurd d
fork D n a d h e = record {
  ab = threefold {a = a} {b = a + 1} (omega arith) (omega arith) (inl (refl, omega arith));
  ac = threefold {a = a} {b = n} (omega arith) (omega arith) (inr (e, refl));
  bc = commute {a = a + 1} {b = n} (omega arith) (omega arith) (apart_commuting D n (a + 1) n (inr (inr (omega arith))));
}

-- a c b a c, a b c a c, a b a c a, b a b c a, b a c b a
six_congruent : {k : Kind} {n a : ℕ} → ForkRelations k n a → Congruent (Braid k n) (a ∷ n ∷ (a + 1) ∷ a ∷ n ∷ []) ((a + 1) ∷ a ∷ n ∷ (a + 1) ∷ a ∷ [])
six_congruent {n} {a} f =
    congruent_trans (backwards (a ∷ []) (a ∷ n ∷ []) f.bc)
    (congruent_trans (backwards (a ∷ (a + 1) ∷ []) [] f.ac)
    (congruent_trans (forwards [] (n ∷ a ∷ []) f.ab)
    (forwards ((a + 1) ∷ a ∷ []) (a ∷ []) f.bc)))

-- a c b a b, a c a b a, c a c b a
seven_congruent : {k : Kind} {n a : ℕ} → ForkRelations k n a → Congruent (Braid k n) (a ∷ n ∷ (a + 1) ∷ a ∷ (a + 1) ∷ []) (n ∷ a ∷ n ∷ (a + 1) ∷ a ∷ [])
seven_congruent {n} {a} f = congruent_trans (backwards (a ∷ n ∷ []) [] f.ab) (forwards [] ((a + 1) ∷ a ∷ []) f.ac)

-- ---- every rule

-- the rules of every family but 1 follow from the relations of equal length
pub rule_braid : (k : Kind) (n : ℕ) {l r : List ℕ} → least k ≤ n → RuleOf k n l r → (r ≡ [] → ⊥) → Congruent (Braid k n) l r
rule_braid k n h (square o l) f = absurd (f refl)
rule_braid k n h (commutation {i} {j} o l g) f = congruent_one (commute o l (apart_commuting k n i j g))
rule_braid k n h (carry {i} {j} o l g) f =
    let s = carries_neighbours k n i j o l g in
    carried_congruent k n i j o s.0 s.1 (carries_carried k n i j o l g)
rule_braid k n h (turn {i} o g) f = turned_congruent k n i o (turns_turned k n i o g)
rule_braid k n h (five {a} d e) f = congruent_one (fork k n a d h e).ac
rule_braid k n h (six {a} d e) f = six_congruent (fork k n a d h e)
rule_braid k n h (seven {a} d e) f = seven_congruent (fork k n a d h e)

-- every rule follows from the Coxeter relations
pub rule_congruent : (k : Kind) (n : ℕ) {l r : List ℕ} → least k ≤ n → RuleOf k n l r → Congruent (Relation k n) l r
rule_congruent k n {l} {r} h q = rule_congruent_by_cases l r q
  where
    rule_congruent_by_cases : (l r : List ℕ) → RuleOf k n l r → Congruent (Relation k n) l r
    rule_congruent_by_cases l [] (square o g) = congruent_one (twice o g)
    rule_congruent_by_cases l (x ∷ u) q = congruent_map (λ a b. braid) (rule_braid k n h q (cons-ne-nil x u))
