-- The relations, one application of them and their congruence, each exactly (E1 to E8 of the specification): the
-- relations outright, kind by kind, by the numbers of their steps.
--
-- Sections: applications and the congruence; the relations of each kind; the sides of a relation.
-- Not here: which pairs of steps have which relation, by windows (RelationWindows).
-- Assumes nothing.
use mathlib.Core.Path.{◌≡◌, refl, ap}
use mathlib.Core.Logic.{◌↔◌, ◌⊎◌, inl, inr}
use mathlib.Core.List.{List, [], ◌∷◌, ◌++◌}
use Prim.Native.Nat.{ℕ, zero, suc, ◌+◌, ◌≤◌, ◌<◌}
use native.Mathlib.Nat.{suc-add}
use native.Mathlib.Omega.{arith}
use lib.ListN.{length, get_or}
use Rattle.coxeter.specs.declared.Kind.{Kind}
use Rattle.coxeter.specs.declared.Kind.TheVariants.{A, B, D}
use Rattle.coxeter.specs.Relations.{Neighbours, FourfoldPair, Commuting, Braid, threefold, fourfold, commute}
use Rattle.coxeter.specs.Relations.{Relation, twice, braid, Application, forth, back, Congruent, alone, next}
use Rattle.coxeter.proofs.Congruence.{congruent_one, congruent_of_equal}
use Rattle.coxeter.proofs.Relations.{neighbours_lt, fourfold_pair_lt, Apart, commuting_apart, apart_commuting, congruent_length_braid}

-- ---- applications and the congruence

-- E6: one application puts one side of a relation in place of the other, in either direction, anywhere inside a word
pub application_exactly : (R : List ℕ → List ℕ → Type 0) (u v : List ℕ) → Application R u v
    ↔ ((x y l r : List ℕ) × (R l r ⊎ R r l) × (u ≡ x ++ (l ++ y)) × (v ≡ x ++ (r ++ y)))
application_exactly R u v = (parts, whole)
  where
    parts : {u v : List ℕ} → Application R u v → (x y l r : List ℕ) × (R l r ⊎ R r l) × (u ≡ x ++ (l ++ y)) × (v ≡ x ++ (r ++ y))
    parts (forth x y {l} {r} c) = (x, y, l, r, inl c, refl, refl)
    parts (back x y {l} {r} c) = (x, y, r, l, inr c, refl, refl)

    whole : (x y l r : List ℕ) × (R l r ⊎ R r l) × (u ≡ x ++ (l ++ y)) × (v ≡ x ++ (r ++ y)) → Application R u v
    whole (x, y, l, r, inl c, p, q) = rw (p, q) (forth x y c)
    whole (x, y, l, r, inr c, p, q) = rw (p, q) (back x y c)

-- a list of words that begins with u and ends with v, each next word by one application from the word before it
Chain : (List ℕ → List ℕ → Type 0) → List ℕ → List ℕ → List (List ℕ) → Type 0
Chain R u v ws =
    (get_or (u ∷ ws) (length ws) [] ≡ v) × ((i : ℕ) → i < length ws → Application R (get_or (u ∷ ws) i []) (get_or (u ∷ ws) (i + 1) []))

chain_of_congruent : {R : List ℕ → List ℕ → Type 0} {u v : List ℕ} → Congruent R u v → (ws : List (List ℕ)) × Chain R u v ws
unfolding Chain
chain_of_congruent alone = ([], (refl, λ i h. absurd (omega arith)))
chain_of_congruent {R} (next {u} {v} {w} s t) = longer (chain_of_congruent t)
  where
    longer : (ws : List (List ℕ)) × Chain R v w ws → (ws : List (List ℕ)) × Chain R u w ws
    longer (ws, (e, f)) = (v ∷ ws, (e, uses))
      where
        uses : (i : ℕ) → i < suc (length ws) → Application R (get_or (u ∷ v ∷ ws) i []) (get_or (u ∷ v ∷ ws) (i + 1) [])
        uses zero h = s
        uses (suc i) h = rw (suc-add i 1) (f i (omega arith))

congruent_of_chain : {R : List ℕ → List ℕ → Type 0} (u v : List ℕ) (ws : List (List ℕ)) → Chain R u v ws → Congruent R u v
unfolding Chain
congruent_of_chain u v [] (e, f) = congruent_of_equal e
congruent_of_chain u v (w ∷ ws) (e, f) =
    next (f 0 (omega arith)) (congruent_of_chain w v ws (e, λ i h. rw (suc-add i 1) at (f (suc i) (omega arith))))

-- E7, E8: two words are congruent exactly if a finite list of words, perhaps of one word, leads from the first to the
-- second, in which each next word comes from the one before by one application
pub congruent_exactly : (R : List ℕ → List ℕ → Type 0) (u v : List ℕ) → Congruent R u v
    ↔ ((ws : List (List ℕ)) × (get_or (u ∷ ws) (length ws) [] ≡ v)
    × ((i : ℕ) → i < length ws → Application R (get_or (u ∷ ws) i []) (get_or (u ∷ ws) (i + 1) [])))
unfolding Chain
congruent_exactly R u v = (λ c. let d = chain_of_congruent c in (d.0, d.1.0, d.1.1), λ d. congruent_of_chain u v d.0 (d.1, d.2))

-- ---- the relations of each kind

-- the two sides of a relation, and which steps they are made of
Sides : Kind → ℕ → List ℕ → List ℕ → ℕ → ℕ → Type 0
Sides k n l r a b =
    ((a ≡ b) × (l ≡ a ∷ a ∷ []) × (r ≡ []))
    ⊎ (Neighbours k n a b × (l ≡ a ∷ b ∷ a ∷ []) × (r ≡ b ∷ a ∷ b ∷ []))
    ⊎ (FourfoldPair k n a b × (l ≡ a ∷ b ∷ a ∷ b ∷ []) × (r ≡ b ∷ a ∷ b ∷ a ∷ []))
    ⊎ (Commuting k n a b × (l ≡ a ∷ b ∷ []) × (r ≡ b ∷ a ∷ []))

sides_of : {k : Kind} {n : ℕ} {l r : List ℕ} → Relation k n l r → (a b : ℕ) × (1 ≤ a) × (b ≤ n) × Sides k n l r a b
unfolding Sides
sides_of (twice {a} o h) = (a, a, o, h, inl (refl, refl, refl))
sides_of (braid (threefold {a} {b} o h c)) = (a, b, o, h, inr (inl (c, refl, refl)))
sides_of (braid (fourfold {a} {b} o h c)) = (a, b, o, h, inr (inr (inl (c, refl, refl))))
sides_of (braid (commute {a} {b} o h c)) = (a, b, o, h, inr (inr (inr (c, refl, refl))))

of_sides : {k : Kind} {n : ℕ} {l r : List ℕ} (a b : ℕ) → 1 ≤ a → b ≤ n → Sides k n l r a b → Relation k n l r
unfolding Sides
of_sides a b o h (inl (c, p, q)) = rw (p, q) (twice o (omega arith))
of_sides a b o h (inr (inl (c, p, q))) = rw (p, q) (braid (threefold o h c))
of_sides a b o h (inr (inr (inl (c, p, q)))) = rw (p, q) (braid (fourfold o h c))
of_sides a b o h (inr (inr (inr (c, p, q)))) = rw (p, q) (braid (commute o h c))

-- E1, E2, E3: in kind A the relations are exactly that a step twice equals the empty word, that steps that differ by
-- 1 satisfy a b a = b a b, and that steps that differ by more satisfy a b = b a
pub relations_in_A : (n : ℕ) (l r : List ℕ) → Relation A n l r
    ↔ ((a b : ℕ) × (1 ≤ a) × (b ≤ n)
    × (((a ≡ b) × (l ≡ a ∷ a ∷ []) × (r ≡ []))
    ⊎ ((a + 1 ≡ b) × (l ≡ a ∷ b ∷ a ∷ []) × (r ≡ b ∷ a ∷ b ∷ []))
    ⊎ ((a + 2 ≤ b) × (l ≡ a ∷ b ∷ []) × (r ≡ b ∷ a ∷ []))))
unfolding Sides
relations_in_A n l r = (
  λ c.
      let (a, b, o, h, s) = sides_of c in (
        a,
        b,
        o,
        h,
        elim s [
          | inl x ↦ inl x
          | inr (inl x) ↦ inr (inl x)
          | inr (inr (inl x)) ↦ absurd x.0
          | inr (inr (inr (x, p, q))) ↦ inr (inr (commuting_apart A n a b h x, p, q))
        ],
      ),
  λ (a, b, o, h, s).
      of_sides a b o h
      (elim s [
        | inl x ↦ inl x
        | inr (inl x) ↦ inr (inl x)
        | inr (inr (x, p, q)) ↦ inr (inr (inr (apart_commuting A n a b x, p, q)))
      ]),
)

-- E1, E2, E3, E4: in kind B they are the same, but for n − 1 and n, which satisfy a b a b = b a b a instead
pub relations_in_B : (n : ℕ) (l r : List ℕ) → Relation B n l r
    ↔ ((a b : ℕ) × (1 ≤ a) × (b ≤ n)
    × (((a ≡ b) × (l ≡ a ∷ a ∷ []) × (r ≡ []))
    ⊎ ((a + 1 ≡ b) × (b < n) × (l ≡ a ∷ b ∷ a ∷ []) × (r ≡ b ∷ a ∷ b ∷ []))
    ⊎ ((a + 1 ≡ b) × (b ≡ n) × (l ≡ a ∷ b ∷ a ∷ b ∷ []) × (r ≡ b ∷ a ∷ b ∷ a ∷ []))
    ⊎ ((a + 2 ≤ b) × (l ≡ a ∷ b ∷ []) × (r ≡ b ∷ a ∷ []))))
unfolding Sides
relations_in_B n l r = (
  λ c.
      let (a, b, o, h, s) = sides_of c in (
        a,
        b,
        o,
        h,
        elim s [
          | inl x ↦ inl x
          | inr (inl ((e, f), p, q)) ↦ inr (inl (e, f, p, q))
          | inr (inr (inl ((e, f), p, q))) ↦ inr (inr (inl (e, f, p, q)))
          | inr (inr (inr (x, p, q))) ↦ inr (inr (inr (commuting_apart B n a b h x, p, q)))
        ],
      ),
  λ (a, b, o, h, s).
      of_sides a b o h
      (elim s [
        | inl x ↦ inl x
        | inr (inl (e, f, p, q)) ↦ inr (inl ((e, f), p, q))
        | inr (inr (inl (e, f, p, q))) ↦ inr (inr (inl ((e, f), p, q)))
        | inr (inr (inr (x, p, q))) ↦ inr (inr (inr (apart_commuting B n a b x, p, q)))
      ]),
)

-- E1, E2, E3, E5: in kind D they are those of kind A, but for step n, which satisfies a b a = b a b with n − 2 alone
-- and a b = b a with all others, n − 1 among them
pub relations_in_D : (n : ℕ) (l r : List ℕ) → Relation D n l r
    ↔ ((a b : ℕ) × (1 ≤ a) × (b ≤ n)
    × (((a ≡ b) × (l ≡ a ∷ a ∷ []) × (r ≡ []))
    ⊎ ((((a + 1 ≡ b) × (b < n)) ⊎ ((a + 2 ≡ b) × (b ≡ n))) × (l ≡ a ∷ b ∷ a ∷ []) × (r ≡ b ∷ a ∷ b ∷ []))
    ⊎ ((((a + 1 ≡ b) × (b ≡ n)) ⊎ ((a + 2 ≤ b) × ((a + 2 ≡ b) × (b ≡ n) → ⊥))) × (l ≡ a ∷ b ∷ []) × (r ≡ b ∷ a ∷ []))))
unfolding Sides
relations_in_D n l r = (
  λ c.
      let (a, b, o, h, s) = sides_of c in (
        a,
        b,
        o,
        h,
        elim s [
          | inl x ↦ inl x
          | inr (inl x) ↦ inr (inl x)
          | inr (inr (inl x)) ↦ absurd x.0
          | inr (inr (inr (x, p, q))) ↦ inr (inr (apart a b (commuting_apart D n a b h x), p, q))
        ],
      ),
  λ (a, b, o, h, s).
      of_sides a b o h
      (elim s [
        | inl x ↦ inl x
        | inr (inl x) ↦ inr (inl x)
        | inr (inr (x, p, q)) ↦ inr (inr (inr (commuting a b x, p, q)))
      ]),
)
  where
    apart : (a b : ℕ) → Apart D n a b → ((a + 1 ≡ b) × (b ≡ n)) ⊎ ((a + 2 ≤ b) × ((a + 2 ≡ b) × (b ≡ n) → ⊥))
    apart a b (inl h) = inr (h.0, λ c. omega arith)
    apart a b (inr (inl h)) = inr (omega arith, λ c. omega arith)
    apart a b (inr (inr h)) = inl h

    commuting : (a b : ℕ) → ((a + 1 ≡ b) × (b ≡ n)) ⊎ ((a + 2 ≤ b) × ((a + 2 ≡ b) × (b ≡ n) → ⊥)) → Commuting D n a b
    commuting a b (inl h) = apart_commuting D n a b (inr (inr h))
    commuting a b (inr (h, f)) = (omega arith, elim [ inl c ↦ omega arith | inr c ↦ f c ], λ c. c)

-- ---- the sides of a relation

-- E1, E2, E3, E4, E5: the sides of a relation are a step twice and the empty word, or two different steps by turns,
-- once beginning with the one and once with the other, of two, three or four letters
pub relation_sides : (k : Kind) (n : ℕ) (l r : List ℕ) → Relation k n l r
    → ((a : ℕ) × (1 ≤ a) × (a ≤ n) × (l ≡ a ∷ a ∷ []) × (r ≡ []))
    ⊎ ((a b : ℕ) × (1 ≤ a) × (a < b) × (b ≤ n)
    × (((l ≡ a ∷ b ∷ []) × (r ≡ b ∷ a ∷ []))
    ⊎ ((l ≡ a ∷ b ∷ a ∷ []) × (r ≡ b ∷ a ∷ b ∷ []))
    ⊎ ((l ≡ a ∷ b ∷ a ∷ b ∷ []) × (r ≡ b ∷ a ∷ b ∷ a ∷ []))))
unfolding Sides
relation_sides k n l r c =
    let (a, b, o, h, s) = sides_of c in
    elim s [
      | inl (e, p, q) ↦ inl (a, o, omega arith, p, q)
      | inr (inl (x, p, q)) ↦ inr (a, b, o, neighbours_lt k n a b x, h, inr (inl (p, q)))
      | inr (inr (inl (x, p, q))) ↦ inr (a, b, o, fourfold_pair_lt k n a b x, h, inr (inr (p, q)))
      | inr (inr (inr (x, p, q))) ↦ inr (a, b, o, x.0, h, inl (p, q))
    ]

-- E1: a step twice and the empty word are the sides of a relation exactly for the steps 1 to n
pub twice_exactly : (k : Kind) (n a : ℕ) → Relation k n (a ∷ a ∷ []) [] ↔ ((1 ≤ a) × (a ≤ n))
twice_exactly k n a = (λ c. within c refl refl, λ h. twice h.0 h.1)
  where
    within : {l r : List ℕ} → Relation k n l r → l ≡ a ∷ a ∷ [] → r ≡ [] → (1 ≤ a) × (a ≤ n)
    within (twice {a = s} o h) e f = let q : s ≡ a = cc in (omega arith, omega arith)
    within (braid c) e f = absurd (omega (arith, congruent_length_braid (congruent_one c), ap length e, ap length f))

-- E2, E3, E4: the relations of `Braid` are exactly the relations whose two sides have equally many letters
pub braid_exactly : (k : Kind) (n : ℕ) (l r : List ℕ) → Braid k n l r ↔ (Relation k n l r × (length l ≡ length r))
braid_exactly k n l r = (λ c. (braid c, congruent_length_braid (congruent_one c)), λ (c, e). equal c e)
  where
    equal : {l r : List ℕ} → Relation k n l r → length l ≡ length r → Braid k n l r
    equal (twice o h) e = absurd (omega arith)
    equal (braid c) e = c
