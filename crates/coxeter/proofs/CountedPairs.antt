-- The three counts of a length as numbers of positions (L2 to L4 of the specification): for each count there is a list
-- without repetition whose members are exactly the pairs of positions, or the positions, that the clause names, and
-- whose length is the count. Positions count from 1 in the specification and from 0 here.
--
-- Sections: lists of what is counted; counts over positions; the three counts.
-- Not here: the order of the entries, which `later_by_place` says (WindowEntries).
-- Assumes nothing.
use mathlib.Core.Path.{◌≡◌, refl, sym, ap, ap₂, ◌∙◌}
use mathlib.Core.Bool.{Bool, true, false, false≢true}
use mathlib.Core.Logic.{◌↔◌, ◌⊎◌, inl, inr, ⊎_elim}
use mathlib.Core.List.Memᴰ
use mathlib.Core.List.{List, [], ◌∷◌, ◌++◌, map, Memᴰ}
use Prim.Native.Nat.{ℕ, zero, suc, ◌+◌, ◌-◌, ◌≤◌, ◌<◌}
use native.Mathlib.Decide.{dec_le}
use native.Mathlib.Omega.{arith}
use lib.IntN.{ℤ, pos, neg_ℤ}
use lib.ListN.{length, get_or, length-append, length-map, get_or-append}
use lib.Seq.{get_or-append-add}
use Rattle.coxeter.specs.Length.{later, negative, one, later_than, inversions, negative_sum_pairs, negatives}
use Rattle.coxeter.proofs.Products.{get_d_map}

-- ---- lists of what is counted

-- no element stands at two places of the list
abbrev Once : {X : Type 0} → X → List X → Type 0
Once d l = (a b : ℕ) → a < b → b < length l → get_or l a d ≡ get_or l b d → ⊥

-- a list without repetition whose members are exactly the x with P x, c of them
record ListedOnce {X : Type 0} (d : X) (P : X → Type 0) (c : ℕ) : Type 0 where
  list : List X
  once : Once d list
  exactly : (x : X) → Memᴰ x list ↔ P x
  counted : length list ≡ c

-- a list without repetition whose members are exactly the x with P x, c of them
record Listed {X : Type 0} (d : X) (P : X → Type 0) (c : ℕ) : Type 0 where
  list : List X
  once : (a b : ℕ) → a < b → b < length list → get_or list a d ≡ get_or list b d → ⊥
  exactly : (x : X) → Memᴰ x list ↔ P x
  counted : length list ≡ c

pub mem_get_or : {X : Type 0} (l : List X) (i : ℕ) (d : X) → i < length l → Memᴰ (get_or l i d) l
mem_get_or [] i d h = absurd (omega arith)
mem_get_or (x ∷ l) zero d h = Memᴰ.head refl
mem_get_or (x ∷ l) (suc i) d h = Memᴰ.tail (mem_get_or l i d (omega arith))

listed_none : {X : Type 0} {d : X} {P : X → Type 0} → ((x : X) → P x → ⊥) → ListedOnce d P 0
listed_none f =
    record {
      list = [];
      once = λ a b h l e. omega arith;
      exactly = λ x. (λ m. absurd (Memᴰ.not-nil m), λ p. absurd (f x p));
      counted = refl;
    }

-- one element if the test holds, else none
listed-one : {X : Type 0} (d x : X) (t : Bool) → ListedOnce d (λ y. (y ≡ x) × (t ≡ true)) (one t)
unfolding one
listed-one d x true =
    record {
      list = x ∷ [];
      once = λ a b h l e. omega arith;
      exactly = λ y. (λ m. (Memᴰ.eq_of_singleton m, refl), λ p. Memᴰ.head p.0);
      counted = refl;
    }
listed-one d x false = listed_none (λ y p. false≢true p.1)

listed-map : {X Y : Type 0} {d : X} {P : X → Type 0} {c : ℕ} (e : Y) (f : X → Y) → ((x y : X) → f x ≡ f y → x ≡ y)
    → ListedOnce d P c → ListedOnce e (λ y. (x : X) × P x × (f x ≡ y)) c
listed-map {d = d} e f i l =
    record {
      list = map f l.list;
      once = λ a b h g q.
          let s : length (map f l.list) ≡ length l.list = length-map l.list f in
          l.once a b h (omega arith)
          (i _ _ (sym (get_d_map f l.list a e d (omega arith)) ∙ q ∙ get_d_map f l.list b e d (omega arith)));
      exactly = λ y. (
        λ m. let p = Memᴰ.of_map f l.list m in (p.0, (l.exactly p.0).0 p.1, p.2),
        λ (x, p, q). Memᴰ.cast (sym q) (Memᴰ.map f ((l.exactly x).1 p)),
      );
      counted = length-map l.list f ∙ l.counted;
    }

once_append : {X : Type 0} (d : X) (l m : List X) → Once d l → Once d m
    → ((a b : ℕ) → a < length l → b < length m → get_or l a d ≡ get_or m b d → ⊥) → Once d (l ++ m)
once_append d l m f g h a b u v e =
    let s = length-append l m in
    elim (dec_le (length l) a) [
      | yes p ↦ g (a - length l) (b - length l) (omega arith) (omega arith) (sym (right a p) ∙ e ∙ right b (omega arith))
      | no p ↦ elim (dec_le (length l) b) [
        | yes q ↦ h a (b - length l) (omega arith) (omega arith) (sym (left a (omega arith)) ∙ e ∙ right b q)
        | no q ↦ f a b u (omega arith) (sym (left a (omega arith)) ∙ e ∙ left b (omega arith))
      ]
    ]
  where
    left : (c : ℕ) → c < length l → get_or (l ++ m) c d ≡ get_or l c d
    left c o = get_or-append l m d c o

    right : (c : ℕ) → length l ≤ c → get_or (l ++ m) c d ≡ get_or m (c - length l) d
    right c o =
        let q : c ≡ length l + (c - length l) = omega arith in
        ap (λ (j : ℕ). get_or (l ++ m) j d) q ∙ get_or-append-add l m (c - length l) d

listed_join : {X : Type 0} {d : X} {P Q : X → Type 0} {a b : ℕ} → ((x : X) → P x → Q x → ⊥) → ListedOnce d P a → ListedOnce d Q b
    → ListedOnce d (λ x. P x ⊎ Q x) (a + b)
listed_join {d = d} f l m =
    record {
      list = l.list ++ m.list;
      once = once_append d l.list m.list l.once m.once
          (λ a b h g e. f _ ((l.exactly _).0 (mem_get_or l.list a d h)) ((m.exactly _).0 (Memᴰ.cast e (mem_get_or m.list b d g))));
      exactly = λ x. (
        λ i. ⊎_elim (λ j. inl ((l.exactly x).0 j)) (λ j. inr ((m.exactly x).0 j)) (Memᴰ.append_cases l.list i),
        ⊎_elim (λ p. Memᴰ.append_left m.list ((l.exactly x).1 p)) (λ p. Memᴰ.append_right l.list ((m.exactly x).1 p)),
      );
      counted = length-append l.list m.list ∙ omega arith;
    }

listed_iff : {X : Type 0} {d : X} {P Q : X → Type 0} {a b : ℕ} → ((x : X) → P x ↔ Q x) → a ≡ b → ListedOnce d P a → ListedOnce d Q b
listed_iff f e l =
    record {
      list = l.list;
      once = l.once;
      exactly = λ x. (λ m. (f x).0 ((l.exactly x).0 m), λ q. (l.exactly x).1 ((f x).1 q));
      counted = l.counted ∙ e;
    }

-- ---- counts over positions

-- the positions of w whose entries pass the test t, where c is a count that adds 1 for each of them
positions : (t : ℤ → Bool) (c : List ℤ → ℕ) → c [] ≡ 0 → ((x : ℤ) (w : List ℤ) → c (x ∷ w) ≡ one (t x) + c w)
    → (w : List ℤ) → ListedOnce 0 (λ i. (i < length w) × (t (get_or w i (pos 0)) ≡ true)) (c w)
positions t c z s [] = listed_iff (λ i. (λ p. p, λ p. p)) (sym z) (listed_none (λ i p. omega arith))
positions t c z s (x ∷ w) =
    listed_iff (λ i. (forth i, back i)) (sym (s x w))
    (listed_join (λ i p q. omega arith) (listed-one 0 0 (t x)) (listed-map 0 suc (λ i j e. omega arith) (positions t c z s w)))
  where
    After : ℕ → Type 0
    After i = ((i ≡ 0) × (t x ≡ true)) ⊎ ((j : ℕ) × ((j < length w) × (t (get_or w j (pos 0)) ≡ true)) × (suc j ≡ i))

    forth : (i : ℕ) → After i → (i < suc (length w)) × (t (get_or (x ∷ w) i (pos 0)) ≡ true)
    forth i (inl (e, q)) = rw e (omega arith, q)
    forth i (inr (j, (h, q), e)) = rw (← e) (omega arith, q)

    back : (i : ℕ) → (i < suc (length w)) × (t (get_or (x ∷ w) i (pos 0)) ≡ true) → After i
    back zero (h, q) = inl (refl, q)
    back (suc j) (h, q) = inr (j, (omega arith, q), refl)

-- the pairs of positions i < j of w whose entries pass the test t, where c x w counts those of a first entry x with
-- the entries of w, and p is a count that adds these for each entry
module _ (t : ℤ → ℤ → Bool) (c : ℤ → List ℤ → ℕ)
    (l : (x : ℤ) (w : List ℤ) → ListedOnce 0 (λ j. (j < length w) × (t x (get_or w j (pos 0)) ≡ true)) (c x w))
    (p : List ℤ → ℕ) (z : p [] ≡ 0) (s : (x : ℤ) (w : List ℤ) → p (x ∷ w) ≡ c x w + p w) where
  abbrev Pair : List ℤ → ℕ × ℕ → Type 0
  Pair w (i, j) = (i < j) × (j < length w) × (t (get_or w i (pos 0)) (get_or w j (pos 0)) ≡ true)

  pairs : (w : List ℤ) → ListedOnce (0, 0) (Pair w) (p w)
  pairs [] = listed_iff (λ q. (λ r. r, λ r. r)) (sym z) (listed_none (λ (i, j) r. omega arith))
  pairs (x ∷ w) =
      listed_iff (λ q. (forth q, back q)) (sym (s x w))
      (listed_join (λ q a b. let e = first (a.2 ∙ sym b.2) in omega arith)
      (listed-map (0, 0) (λ (j : ℕ). (0, suc j)) (λ i j e. let q = second e in omega arith) (l x w))
      (listed-map (0, 0) next (λ q r e. let a = first e in let b = second e in ap₂ (λ (i j : ℕ). (i, j)) (omega arith) (omega arith)) (pairs w)))
    where
      first : {q r : ℕ × ℕ} → q ≡ r → q.0 ≡ r.0
      first e = ap (λ (q : ℕ × ℕ). q.0) e

      second : {q r : ℕ × ℕ} → q ≡ r → q.1 ≡ r.1
      second e = ap (λ (q : ℕ × ℕ). q.1) e

      next : ℕ × ℕ → ℕ × ℕ
      next (i, j) = (suc i, suc j)

      After : ℕ × ℕ → Type 0
      After q =
          ((j : ℕ) × ((j < length w) × (t x (get_or w j (pos 0)) ≡ true)) × ((0, suc j) ≡ q))
          ⊎ ((r : ℕ × ℕ) × Pair w r × (next r ≡ q))

      forth : (q : ℕ × ℕ) → After q → Pair (x ∷ w) q
      forth q (inl (j, (h, a), e)) = rw (← e) (omega arith, omega arith, a)
      forth q (inr (r, (h, g, a), e)) = rw (← e) (omega arith, omega arith, a)

      back : (q : ℕ × ℕ) → Pair (x ∷ w) q → After q
      back (zero, zero) (h, g, a) = absurd (omega arith)
      back (zero, suc j) (h, g, a) = inl (j, (omega arith, a), refl)
      back (suc i, zero) (h, g, a) = absurd (omega arith)
      back (suc i, suc j) (h, g, a) = inr ((i, j), (omega arith, omega arith, a), refl)

-- ---- the three counts

-- L2: the number of plain pairs is the number of pairs of positions i < j whose entry at i stands later than the
-- entry at j
pub inversions_counted : (w : List ℤ) → (ps : List (ℕ × ℕ))
    × ((a b : ℕ) → a < b → b < length ps → get_or ps a (0, 0) ≡ get_or ps b (0, 0) → ⊥)
    × ((i j : ℕ) → Memᴰ (i, j) ps ↔ ((i < j) × (j < length w) × (later (get_or w i (pos 0)) (get_or w j (pos 0)) ≡ true)))
    × (length ps ≡ inversions w)
unfolding later_than inversions
inversions_counted w =
    let l = pairs later later_than (λ x. positions (later x) (later_than x) refl (λ y v. refl)) inversions refl (λ x v. refl) w in
    (l.list, l.once, λ i j. l.exactly (i, j), l.counted)

-- L3: the number of pairs against a mirrored lane is the number of pairs of positions i < j whose entry at i stands
-- later than minus the entry at j
pub negative_sum_pairs_counted : (w : List ℤ) → (ps : List (ℕ × ℕ))
    × ((a b : ℕ) → a < b → b < length ps → get_or ps a (0, 0) ≡ get_or ps b (0, 0) → ⊥)
    × ((i j : ℕ) → Memᴰ (i, j) ps ↔ ((i < j) × (j < length w) × (later (get_or w i (pos 0)) (neg_ℤ (get_or w j (pos 0))) ≡ true)))
    × (length ps ≡ negative_sum_pairs w)
unfolding later_than negative_sum_pairs
negative_sum_pairs_counted w =
    let l = pairs (λ x y. later x (neg_ℤ y)) (λ x v. later_than x (map neg_ℤ v))
    (λ x. positions (λ y. later x (neg_ℤ y)) (λ v. later_than x (map neg_ℤ v)) refl (λ y v. refl)) negative_sum_pairs refl (λ x v. refl) w in
    (l.list, l.once, λ i j. l.exactly (i, j), l.counted)

-- L4: the number of mirrored lanes is the number of positions with a negative entry
pub negatives_counted : (w : List ℤ) → (is : List ℕ)
    × ((a b : ℕ) → a < b → b < length is → get_or is a 0 ≡ get_or is b 0 → ⊥)
    × ((i : ℕ) → Memᴰ i is ↔ ((i < length w) × (negative (get_or w i (pos 0)) ≡ true)))
    × (length is ≡ negatives w)
unfolding negatives
negatives_counted w =
    let l = positions negative negatives refl (λ x v. refl) w in
    (l.list, l.once, l.exactly, l.counted)
