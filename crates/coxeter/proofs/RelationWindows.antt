-- The relations by windows (E2 to E5 of the specification): two words that take two steps by turns, one beginning with
-- the one step and one with the other, are the sides of a relation exactly if they have one window and no shorter two
-- of that form have.
--
-- Sections: entries that tell two windows apart; pairs of steps; the relations.
-- Not here: the relations outright, by the numbers of their steps (RelationSides).
-- Assumes nothing.
use mathlib.Core.Path.{◌≡◌, refl, sym, ap, ◌∙◌}
use mathlib.Core.Logic.{◌↔◌, ◌⊎◌, inl, inr}
use mathlib.Core.List.{List, [], ◌∷◌}
use Prim.Native.Nat.{ℕ, zero, suc, ◌+◌, ◌-◌, ◌≤◌, ◌<◌}
use native.Mathlib.Decide.{ℕ_discrete}
use native.Mathlib.Omega.{arith}
use lib.IntN.{ℤ, pos, negsuc, neg_ℤ}
use lib.ListN.{length, get_or}
use Rattle.coxeter.specs.declared.Kind.{Kind}
use Rattle.coxeter.specs.declared.Kind.TheVariants.{A, B, D}
use Rattle.coxeter.specs.Kinds.{lanes}
use Rattle.coxeter.specs.Windows.{act, window_from, identity, window}
use Rattle.coxeter.specs.Relations.{Neighbours, FourfoldPair, Commuting, threefold, fourfold, commute, Relation, twice, braid}
use Rattle.coxeter.proofs.Basics.{length-act, length-identity}
use Rattle.coxeter.proofs.Products.{get_or-identity}
use Rattle.coxeter.proofs.Congruence.{congruent_one}
use Rattle.coxeter.proofs.Relations.{congruent_window}
use Rattle.coxeter.proofs.WindowEntries.{step_swaps, last_step_in_B, last_step_in_D}
use Rattle.coxeter.proofs.TestLaws.{impossible}

-- ---- entries that tell two windows apart

-- step p + 1 as a swap of the entries at positions p and p + 1, counted from 0
swapped : (k : Kind) (n p : ℕ) (w : List ℤ) → suc p < lanes k n → length w ≡ lanes k n
    → (get_or (act k n (suc p) w) p (pos 0) ≡ get_or w (suc p) (pos 0)) × (get_or (act k n (suc p) w) (suc p) (pos 0) ≡ get_or w p (pos 0))
    × ((i : ℕ) → (i ≡ p → ⊥) → (i ≡ suc p → ⊥) → get_or (act k n (suc p) w) i (pos 0) ≡ get_or w i (pos 0))
swapped k n p w h e =
    let q : suc p - 1 ≡ p = omega arith in
    rw q at (step_swaps k n (suc p) w (omega arith) h (omega arith))

-- steps p + 1 and b, where b leaves position p alone
module _ (k : Kind) (n p b : ℕ) (h : suc p < lanes k n)
    (low : (w : List ℤ) → length w ≡ lanes k n → get_or (act k n b w) p (pos 0) ≡ get_or w p (pos 0)) where
  -- if they commute, b leaves position p + 1 of the straight window alone too
  two_alike : window k n (suc p ∷ b ∷ []) ≡ window k n (b ∷ suc p ∷ [])
      → pos (suc (suc p)) ≡ get_or (act k n b (identity (lanes k n))) (suc p) (pos 0)
  unfolding window window_from
  two_alike e =
      let s = identity (lanes k n) in
      let g = length-identity (lanes k n) in
      sym (low (act k n (suc p) s) (length-act k n (suc p) s ∙ g) ∙ (swapped k n p s h g).0 ∙ get_or-identity (lanes k n) (suc p) h)
      ∙ ap (λ (w : List ℤ). get_or w p (pos 0)) e
      ∙ (swapped k n p (act k n b s) h (length-act k n b s ∙ g)).0

-- a b and b a where both steps are swaps
differ_swaps : (k : Kind) (n p : ℕ) → suc (suc p) < lanes k n
    → window k n (suc p ∷ suc (suc p) ∷ []) ≡ window k n (suc (suc p) ∷ suc p ∷ []) → ⊥
differ_swaps k n p h e =
    let z : pos (suc (suc p)) ≡ pos (suc (suc (suc p))) =
    two_alike k n p (suc (suc p)) (omega arith) (λ w g. (swapped k n (suc p) w h g).2 p (λ q. omega arith) (λ q. omega arith)) e
    ∙ (swapped k n (suc p) (identity (lanes k n)) h (length-identity (lanes k n))).0
    ∙ get_or-identity (lanes k n) (suc (suc p)) h in
    let q : suc (suc p) ≡ suc (suc (suc p)) = cc in
    omega arith

-- where b is the last step of D
last_D : (p : ℕ) (w : List ℤ) → length w ≡ suc (suc (suc p)) → let v = act D (suc (suc (suc p))) (suc (suc (suc p))) w in
    (get_or v (suc p) (pos 0) ≡ neg_ℤ (get_or w (suc (suc p)) (pos 0))) × (get_or v p (pos 0) ≡ get_or w p (pos 0))
last_D p w e =
    let a : suc (suc (suc p)) - 2 ≡ suc p = omega arith in
    let c : suc (suc (suc p)) - 1 ≡ suc (suc p) = omega arith in
    let s = rw (a, c) at (last_step_in_D (suc (suc (suc p))) w (omega arith) (omega arith)) in
    (s.0, s.2 p (λ q. omega arith) (λ q. omega arith))

differ_last_D : (p : ℕ) → let n : ℕ = suc (suc (suc p)) in window D n (suc p ∷ n ∷ []) ≡ window D n (n ∷ suc p ∷ []) → ⊥
differ_last_D p e =
    let n : ℕ = suc (suc (suc p)) in
    let z : pos (suc (suc p)) ≡ negsuc (suc (suc p)) =
    two_alike D n p n (omega arith) (λ w g. (last_D p w g).1) e
    ∙ (last_D p (identity n) (length-identity n)).0
    ∙ ap neg_ℤ (get_or-identity n (suc (suc p)) (omega arith)) in
    impossible (cc)

-- where b is the last step of B
last_B : (p : ℕ) (w : List ℤ) → length w ≡ suc (suc p) → let v = act B (suc (suc p)) (suc (suc p)) w in
    (get_or v (suc p) (pos 0) ≡ neg_ℤ (get_or w (suc p) (pos 0))) × (get_or v p (pos 0) ≡ get_or w p (pos 0))
last_B p w e =
    let a : suc (suc p) - 1 ≡ suc p = omega arith in
    let s = rw a at (last_step_in_B (suc (suc p)) w (omega arith) (omega arith)) in
    (s.0, s.1 p (λ q. omega arith))

differ_last_B : (p : ℕ) → let n : ℕ = suc (suc p) in window B n (suc p ∷ n ∷ []) ≡ window B n (n ∷ suc p ∷ []) → ⊥
differ_last_B p e =
    let n : ℕ = suc (suc p) in
    let z : pos (suc (suc p)) ≡ negsuc (suc p) =
    two_alike B n p n (omega arith) (λ w g. (last_B p w g).1) e
    ∙ (last_B p (identity n) (length-identity n)).0
    ∙ ap neg_ℤ (get_or-identity n (suc p) (omega arith)) in
    impossible (cc)

differ_three_B : (p : ℕ) → let n : ℕ = suc (suc p) in window B n (suc p ∷ n ∷ suc p ∷ []) ≡ window B n (n ∷ suc p ∷ n ∷ []) → ⊥
unfolding window window_from
differ_three_B p e =
    let n : ℕ = suc (suc p) in
    let s = identity n in
    let g = length-identity n in
    let sa : List ℤ = act B n (suc p) s in
    let sb : List ℤ = act B n n s in
    let ga : length sa ≡ n = length-act B n (suc p) s ∙ g in
    let gb : length sb ≡ n = length-act B n n s ∙ g in
    let first : get_or (act B n (suc p) (act B n n sa)) p (pos 0) ≡ negsuc p =
    (swapped B n p (act B n n sa) (omega arith) (length-act B n n sa ∙ ga)).0
    ∙ (last_B p sa ga).0
    ∙ ap neg_ℤ ((swapped B n p s (omega arith) g).1 ∙ get_or-identity n p (omega arith)) in
    let second : get_or (act B n n (act B n (suc p) sb)) p (pos 0) ≡ negsuc (suc p) =
    (last_B p (act B n (suc p) sb) (length-act B n (suc p) sb ∙ gb)).1
    ∙ (swapped B n p sb (omega arith) gb).0
    ∙ (last_B p s g).0
    ∙ ap neg_ℤ (get_or-identity n (suc p) (omega arith)) in
    let z : negsuc p ≡ negsuc (suc p) = sym first ∙ ap (λ (w : List ℤ). get_or w p (pos 0)) e ∙ second in
    let q : p ≡ suc p = cc in
    omega arith

-- ---- pairs of steps

-- each pair is of one of the three sorts
sorted : (k : Kind) (n a b : ℕ) → a < b → b ≤ n → Neighbours k n a b ⊎ FourfoldPair k n a b ⊎ Commuting k n a b
sorted A n a b h l = elim (ℕ_discrete (a + 1) b) [ yes e ↦ inl e | no f ↦ inr (inr (h, f, λ c. c)) ]
sorted B n a b h l =
    elim (ℕ_discrete (a + 1) b) [
      | yes e ↦ elim (ℕ_discrete b n) [ yes g ↦ inr (inl (e, g)) | no g ↦ inl (e, omega arith) ]
      | no f ↦ inr (inr (h, λ c. f c.0, λ c. f c.0))
    ]
sorted D n a b h l =
    elim (ℕ_discrete b n) [
      | yes g ↦ elim (ℕ_discrete (a + 2) b) [
        | yes e ↦ inl (inr (e, g))
        | no f ↦ inr (inr (h, elim [ inl c ↦ omega arith | inr c ↦ f c.0 ], λ c. c))
      ]
      | no g ↦ elim (ℕ_discrete (a + 1) b) [
        | yes e ↦ inl (inl (e, omega arith))
        | no f ↦ inr (inr (h, elim [ inl c ↦ f c.0 | inr c ↦ g c.1 ], λ c. c))
      ]
    ]

-- neighbours do not commute
neighbours_differ : (k : Kind) (n a b : ℕ) → 1 ≤ a → b ≤ n → Neighbours k n a b → window k n (a ∷ b ∷ []) ≡ window k n (b ∷ a ∷ []) → ⊥
neighbours_differ k n zero b o l h e = absurd (omega arith)
neighbours_differ A n (suc p) b o l h e = let q : b ≡ suc (suc p) = omega arith in differ_swaps A n p (omega arith) (rw q at e)
neighbours_differ B n (suc p) b o l h e = let q : b ≡ suc (suc p) = omega arith in differ_swaps B n p (omega arith) (rw q at e)
neighbours_differ D n (suc p) b o l (inl h) e = let q : b ≡ suc (suc p) = omega arith in differ_swaps D n p (omega arith) (rw q at e)
neighbours_differ D n (suc p) b o l (inr h) e =
    let q : b ≡ suc (suc (suc p)) = omega arith in
    let r : n ≡ suc (suc (suc p)) = omega arith in
    differ_last_D p (rw (q, r) at e)

-- nor does the fourfold pair, and it is not threefold
fourfold_differs : (k : Kind) (n a b : ℕ) → 1 ≤ a → FourfoldPair k n a b
    → (window k n (a ∷ b ∷ []) ≡ window k n (b ∷ a ∷ []) → ⊥) × (window k n (a ∷ b ∷ a ∷ []) ≡ window k n (b ∷ a ∷ b ∷ []) → ⊥)
fourfold_differs A n a b o h = absurd h
fourfold_differs B n zero b o h = absurd (omega arith)
fourfold_differs B n (suc p) b o h =
    let q : b ≡ suc (suc p) = omega arith in
    let r : n ≡ suc (suc p) = omega arith in
    rw (q, r) (differ_last_B p, differ_three_B p)
fourfold_differs D n a b o h = absurd h

-- the sort of pair that a relation's left side tells
neighbours_of : {k : Kind} {n : ℕ} {l r : List ℕ} (a b : ℕ) → Relation k n l r → l ≡ a ∷ b ∷ a ∷ [] → Neighbours k n a b
neighbours_of a b (twice o h) e = absurd (omega (arith, ap length e))
neighbours_of a b (braid (threefold {a = s} {b = t} o h c)) e =
    let p : s ≡ a = cc in
    let q : t ≡ b = cc in
    rw (← p, ← q) c
neighbours_of a b (braid (fourfold o h c)) e = absurd (omega (arith, ap length e))
neighbours_of a b (braid (commute o h c)) e = absurd (omega (arith, ap length e))

fourfold_pair_of : {k : Kind} {n : ℕ} {l r : List ℕ} (a b : ℕ) → Relation k n l r → l ≡ a ∷ b ∷ a ∷ b ∷ [] → FourfoldPair k n a b
fourfold_pair_of a b (twice o h) e = absurd (omega (arith, ap length e))
fourfold_pair_of a b (braid (threefold o h c)) e = absurd (omega (arith, ap length e))
fourfold_pair_of a b (braid (fourfold {a = s} {b = t} o h c)) e =
    let p : s ≡ a = cc in
    let q : t ≡ b = cc in
    rw (← p, ← q) c
fourfold_pair_of a b (braid (commute o h c)) e = absurd (omega (arith, ap length e))

-- ---- the relations

relation_window : (k : Kind) (n : ℕ) (l r : List ℕ) → Relation k n l r → window k n l ≡ window k n r
relation_window k n l r c = congruent_window k n (congruent_one c)

module _ (k : Kind) (n a b : ℕ) (o : 1 ≤ a) (h : a < b) (l : b ≤ n) where
  -- E3, E5: a b and b a are the sides of a relation exactly if they have one window
  pub commute_exactly : Relation k n (a ∷ b ∷ []) (b ∷ a ∷ []) ↔ (window k n (a ∷ b ∷ []) ≡ window k n (b ∷ a ∷ []))
  commute_exactly = (
    relation_window k n (a ∷ b ∷ []) (b ∷ a ∷ []),
    λ e. elim (sorted k n a b h l) [
      | inl c ↦ absurd (neighbours_differ k n a b o l c e)
      | inr (inl c) ↦ absurd ((fourfold_differs k n a b o c).0 e)
      | inr (inr c) ↦ braid (commute o l c)
    ],
  )

  -- E2, E5: a b a and b a b are the sides of a relation exactly if they have one window and a b and b a have not
  pub threefold_exactly : Relation k n (a ∷ b ∷ a ∷ []) (b ∷ a ∷ b ∷ [])
      ↔ ((window k n (a ∷ b ∷ a ∷ []) ≡ window k n (b ∷ a ∷ b ∷ [])) × (window k n (a ∷ b ∷ []) ≡ window k n (b ∷ a ∷ []) → ⊥))
  threefold_exactly = (
    λ c. (relation_window k n _ _ c, neighbours_differ k n a b o l (neighbours_of a b c refl)),
    λ (e, f). elim (sorted k n a b h l) [
      | inl c ↦ braid (threefold o l c)
      | inr (inl c) ↦ absurd ((fourfold_differs k n a b o c).1 e)
      | inr (inr c) ↦ absurd (f (commute_exactly.0 (braid (commute o l c))))
    ],
  )

  -- E4: a b a b and b a b a are the sides of a relation exactly if they have one window, a b and b a have not, and
  -- a b a and b a b have not
  pub fourfold_exactly : Relation k n (a ∷ b ∷ a ∷ b ∷ []) (b ∷ a ∷ b ∷ a ∷ [])
      ↔ ((window k n (a ∷ b ∷ a ∷ b ∷ []) ≡ window k n (b ∷ a ∷ b ∷ a ∷ []))
      × (window k n (a ∷ b ∷ []) ≡ window k n (b ∷ a ∷ []) → ⊥)
      × (window k n (a ∷ b ∷ a ∷ []) ≡ window k n (b ∷ a ∷ b ∷ []) → ⊥))
  fourfold_exactly = (
    λ c. let d = fourfold_differs k n a b o (fourfold_pair_of a b c refl) in (relation_window k n _ _ c, d.0, d.1),
    λ (e, f, g). elim (sorted k n a b h l) [
      | inl c ↦ absurd (g (threefold_exactly.0 (braid (threefold o l c))).0)
      | inr (inl c) ↦ braid (fourfold o l c)
      | inr (inr c) ↦ absurd (f (commute_exactly.0 (braid (commute o l c))))
    ],
  )
