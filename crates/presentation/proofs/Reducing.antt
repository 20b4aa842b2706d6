-- Reductions by any list of rules: one reduction in plain terms, the words that have none, and what one reduction and
-- a chain of them keep.
--
-- Sections: one reduction; irreducible words; chains; the congruence; the order.
-- Not here: chains of the rules of a kind and rank (Confluence).
-- Assumes nothing.
use mathlib.Core.Path.{◌≡◌, refl, sym, ap, ap₂, subst, subst₂, ◌∙◌}
use mathlib.Core.Bool.{true, false, true≢false}
use mathlib.Core.Logic.{◌↔◌, ◌⊎◌, inl, inr}
use mathlib.Core.List.{List, [], ◌∷◌, ◌++◌, append_assoc, Memᴰ}
use mathlib.Core.Option.{Option, none, some}
use Prim.Native.Nat.{ℕ, zero, suc, ◌+◌, ◌≤◌, ◌<◌}
use native.Mathlib.Nat.{suc-add}
use native.Mathlib.Decide.{dec_le, ℕ_discrete}
use native.Mathlib.Omega.{arith}
use lib.ListN.{length, get_or, length-append}
use Rattle.coxeter.specs.Dictionary.{before, shortlex}
use Rattle.coxeter.specs.Relations.{forth, back, Congruent, alone, next}
use Rattle.coxeter.proofs.Congruence.{regroup, congruent_trans, congruent_sym, congruent_context, congruent_application}
use Rattle.coxeter.proofs.Order.{shortlex_shorter, shortlex-before, shortlex_cases}
use Rattle.coxeter.proofs.Orders.{before_exactly}
use Rattle.coxeter.proofs.TestLaws.{not_true_false}
use Rattle.rules.specs.Rules.{Rule, fits, first_fitting, rewritten, Irreducible}
use Rattle.rules.proofs.Ending.{before-append}
use Rattle.rules.proofs.Fits.{fits_split, fits-at, fits-past, rewritten_split, first_fitting_some, first_fitting_none}
use Rattle.presentation.specs.Reductions.{Pair, pair, Reduces, within, Reductions, stays, step, ReducesTo}

-- ---- one reduction

-- U1: one reduction replaces the left side of a rule of the list, wherever it stands, by its right side
pub reduces_exactly : (rs : List Rule) (u v : List ℕ) → Reduces rs u v
    ↔ ((front rest : List ℕ) × (x : Rule) × Memᴰ x rs × (u ≡ front ++ (x.left ++ rest)) × (v ≡ front ++ (x.right ++ rest)))
reduces_exactly rs u v = (parts, λ (b, a, x, m, p, q). rw (p, q) (within b a x m))
  where
    parts : {u v : List ℕ} → Reduces rs u v
        → (front rest : List ℕ) × (x : Rule) × Memᴰ x rs × (u ≡ front ++ (x.left ++ rest)) × (v ≡ front ++ (x.right ++ rest))
    parts (within b a x m) = (b, a, x, m, refl, refl)

-- U4, R1: the pairs of a list are the two sides of each of its rules
pub pair_exactly : (rs : List Rule) (l r : List ℕ) → Pair rs l r ↔ ((x : Rule) × Memᴰ x rs × (x.left ≡ l) × (x.right ≡ r))
pair_exactly rs l r = (parts, λ (x, m, p, q). subst₂ (Pair rs) p q (pair x m))
  where
    parts : {l r : List ℕ} → Pair rs l r → (x : Rule) × Memᴰ x rs × (x.left ≡ l) × (x.right ≡ r)
    parts (pair x m) = (x, m, refl, refl)

-- what has the sides of another list reduces as that one does
pub reduces_map : {rs qs : List Rule} {u v : List ℕ} → ((l r : List ℕ) → Pair rs l r → Pair qs l r) → Reduces rs u v → Reduces qs u v
reduces_map {qs = qs} f (within b a x m) =
    let (y, q, e, g) = (pair_exactly qs x.left x.right).0 (f x.left x.right (pair x m)) in
    subst₂ (λ (l r : List ℕ). Reduces qs (b ++ (l ++ a)) (b ++ (r ++ a))) e g (within b a y q)

-- a rule that fits reduces the word
pub reduces_of_fits : (rs : List Rule) (x : Rule) → Memᴰ x rs → (u : List ℕ) (p : ℕ) → p ≤ length u → fits x u p ≡ true
    → Reduces rs u (rewritten x u p)
reduces_of_fits rs x m u p l f =
    let s = fits_split x u p l f in
    subst₂ (Reduces rs) (sym s.3)
    (sym (rewritten_split x s.0 s.1) ∙ ap₂ (rewritten x) (sym s.3) s.2)
    (within s.0 s.1 x m)

-- a reduction inside a longer word
reduces_context : {rs : List Rule} {u v : List ℕ} (x y : List ℕ) → Reduces rs u v → Reduces rs (x ++ (u ++ y)) (x ++ (v ++ y))
reduces_context {rs} x y (within b a z m) =
    subst₂ (Reduces rs) (regroup x b z.left a y) (regroup x b z.right a y) (within (x ++ b) (a ++ y) z m)

-- ---- irreducible words

-- U1, T10: a word is irreducible exactly if no left side stands in it
pub irreducible_exactly : (rs : List Rule) (u : List ℕ) → Irreducible rs u
    ↔ ((x : Rule) → Memᴰ x rs → (front rest : List ℕ) → u ≡ front ++ (x.left ++ rest) → ⊥)
irreducible_exactly rs u = (
  λ i x m b a e. true≢false (sym (fits-at x b a) ∙ ap (λ (w : List ℕ). fits x w (length b)) (sym e) ∙ i x m (length b)),
  λ f x m p. elim (dec_le p (length u)) [
    | yes l ↦ not_true_false (fits x u p) (λ e. let (b, a, q, d) = fits_split x u p l e in f x m b a d)
    | no l ↦ past f x m (omega arith) x.left refl
  ],
)
  where
    -- an empty left side stands everywhere
    past : ((x : Rule) → Memᴰ x rs → (front rest : List ℕ) → u ≡ front ++ (x.left ++ rest) → ⊥) → (x : Rule) → Memᴰ x rs
        → {p : ℕ} → length u ≤ p → (l : List ℕ) → x.left ≡ l → fits x u p ≡ false
    past f x m h [] e = absurd (f x m [] u (ap (λ (l : List ℕ). l ++ u) (sym e)))
    past f x m {p} h (a ∷ l) e = fits-past x u p (rw e (omega arith)) h

-- U1: a word is irreducible exactly if no reduction leads on from it
pub irreducible_stops : (rs : List Rule) (u : List ℕ) → Irreducible rs u ↔ ((v : List ℕ) → Reduces rs u v → ⊥)
irreducible_stops rs u = (
  λ i v r. let (b, a, x, m, e, f) = (reduces_exactly rs u v).0 r in (irreducible_exactly rs u).0 i x m b a e,
  λ f. (irreducible_exactly rs u).1 (λ x m b a e. f _ ((reduces_exactly rs u (b ++ (x.right ++ a))).1 (b, a, x, m, e, refl))),
)

-- a word is irreducible, or some reduction leads on from it
pub reducible_or : (rs : List Rule) (u : List ℕ) → Irreducible rs u ⊎ ((v : List ℕ) × Reduces rs u v)
reducible_or rs u = elim (search (suc (length u)) (omega arith)) [
  | inl f ↦ inl ((irreducible_exactly rs u).1 (λ x m b a e.
      true≢false (sym (fits-at x b a) ∙ ap (λ (w : List ℕ). fits x w (length b)) (sym e)
      ∙ f (length b) (omega (arith, ap length e, length-append b (x.left ++ a))) x m)))
  | inr r ↦ inr r
]
  where
    search : (t : ℕ) → t ≤ suc (length u)
        → ((p : ℕ) → p < t → (x : Rule) → Memᴰ x rs → fits x u p ≡ false) ⊎ ((v : List ℕ) × Reduces rs u v)
    search zero h = inl (λ p l. absurd (omega arith))
    search (suc t) h = elim (search t (omega arith)) [
      | inl f ↦ search_by_cases f (first_fitting rs u t) refl
      | inr r ↦ inr r
    ]
      where
        search_by_cases : ((p : ℕ) → p < t → (x : Rule) → Memᴰ x rs → fits x u p ≡ false) → (o : Option Rule) → first_fitting rs u t ≡ o
            → ((p : ℕ) → p < suc t → (x : Rule) → Memᴰ x rs → fits x u p ≡ false) ⊎ ((v : List ℕ) × Reduces rs u v)
        search_by_cases f none e = inl (λ p l x m. elim (ℕ_discrete p t) [
          | yes q ↦ rw q (first_fitting_none rs u t e x m)
          | no q ↦ f p (omega arith) x m
        ])
        search_by_cases f (some x) e = let (m, q) = first_fitting_some rs u t x e in inr (_, reduces_of_fits rs x m u t (omega arith) q)

-- a part of an irreducible word
pub irreducible_part : (rs : List Rule) (x u y : List ℕ) → Irreducible rs (x ++ (u ++ y)) → Irreducible rs u
irreducible_part rs x u y i =
    (irreducible_stops rs u).1 (λ v r. (irreducible_stops rs (x ++ (u ++ y))).0 i (x ++ (v ++ y)) (reduces_context x y r))

-- a letter before an irreducible word
pub irreducible_cons : (rs : List Rule) (a : ℕ) (u : List ℕ) → Irreducible rs u → ((x : Rule) → Memᴰ x rs → fits x (a ∷ u) 0 ≡ false)
    → Irreducible rs (a ∷ u)
unfolding fits
irreducible_cons rs a u i f x m zero = f x m
irreducible_cons rs a u i f x m (suc p) = i x m p

-- ---- chains

-- a list of words that begins with u and ends with v, each next word by one reduction from the word before it
abbrev Chain : List Rule → List ℕ → List ℕ → List (List ℕ) → Type 0
Chain rs u v ws =
    (get_or (u ∷ ws) (length ws) [] ≡ v) × ((i : ℕ) → i < length ws → Reduces rs (get_or (u ∷ ws) i []) (get_or (u ∷ ws) (i + 1) []))

chain_of : {rs : List Rule} {t : ℕ} {u v : List ℕ} → Reductions rs t u v → (ws : List (List ℕ)) × (length ws ≡ t) × Chain rs u v ws
chain_of stays = ([], refl, (refl, λ i h. absurd (omega arith)))
chain_of {rs} (step {t = t} {u = u} {v = v} {w = w} r p) = let (ws, l, (e, f)) = chain_of p in (v ∷ ws, ap suc l, (e, longer ws f))
  where
    longer : (ws : List (List ℕ)) → ((i : ℕ) → i < length ws → Reduces rs (get_or (v ∷ ws) i []) (get_or (v ∷ ws) (i + 1) []))
        → (i : ℕ) → i < suc (length ws) → Reduces rs (get_or (u ∷ v ∷ ws) i []) (get_or (u ∷ v ∷ ws) (i + 1) [])
    longer ws f zero h = r
    longer ws f (suc i) h = rw (suc-add i 1) (f i (omega arith))

of_chain : {rs : List Rule} (u v : List ℕ) (ws : List (List ℕ)) → Chain rs u v ws → Reductions rs (length ws) u v
of_chain {rs} u v [] (e, f) = subst (Reductions rs 0 u) e stays
of_chain u v (w ∷ ws) (e, f) = step (f 0 (omega arith)) (of_chain w v ws (e, λ i h. rw (suc-add i 1) at (f (suc i) (omega arith))))

-- U1: t reductions lead from one word to another exactly if a list of t more words goes from the first to the other, each
-- by one reduction from the word before it
pub reductions_exactly : (rs : List Rule) (t : ℕ) (u v : List ℕ) → Reductions rs t u v
    ↔ ((ws : List (List ℕ)) × (length ws ≡ t) × (get_or (u ∷ ws) (length ws) [] ≡ v)
    × ((i : ℕ) → i < length ws → Reduces rs (get_or (u ∷ ws) i []) (get_or (u ∷ ws) (i + 1) [])))
reductions_exactly rs t u v = (
  λ p. let (ws, l, (e, f)) = chain_of p in (ws, l, e, f),
  λ (ws, l, e, f). subst (λ (s : ℕ). Reductions rs s u v) l (of_chain u v ws (e, f)),
)

pub reduces_to_one : {rs : List Rule} {u v : List ℕ} → Reduces rs u v → ReducesTo rs u v
reduces_to_one r = (1, step r stays)

pub reduces_to_trans : {rs : List Rule} {u v w : List ℕ} → ReducesTo rs u v → ReducesTo rs v w → ReducesTo rs u w
reduces_to_trans {rs} (t, p) q = reduces_to_trans_by_induction p q
  where
    reduces_to_trans_by_induction : {t : ℕ} {u v w : List ℕ} → Reductions rs t u v → ReducesTo rs v w → ReducesTo rs u w
    reduces_to_trans_by_induction stays q = q
    reduces_to_trans_by_induction (step r p) q = let z = reduces_to_trans_by_induction p q in (suc z.0, step r z.1)

pub reduces_to_map : {rs qs : List Rule} {u v : List ℕ} → ((l r : List ℕ) → Pair rs l r → Pair qs l r) → ReducesTo rs u v → ReducesTo qs u v
reduces_to_map {rs} {qs} f (t, p) = (t, reduces_to_map_by_induction p)
  where
    reduces_to_map_by_induction : {t : ℕ} {u v : List ℕ} → Reductions rs t u v → Reductions qs t u v
    reduces_to_map_by_induction stays = stays
    reduces_to_map_by_induction (step r p) = step (reduces_map f r) (reduces_to_map_by_induction p)

-- an irreducible word has no descendant but itself
pub reduces_to_same : {rs : List Rule} {u v : List ℕ} → Irreducible rs u → ReducesTo rs u v → u ≡ v
reduces_to_same {rs} i (t, p) = reduces_to_same_by_cases i p
  where
    reduces_to_same_by_cases : {t : ℕ} {u v : List ℕ} → Irreducible rs u → Reductions rs t u v → u ≡ v
    reduces_to_same_by_cases i stays = refl
    reduces_to_same_by_cases {u = u} i (step {v = v} r p) = absurd ((irreducible_stops rs u).0 i v r)

-- ---- the congruence

pub reduces_congruent : {rs : List Rule} {u v : List ℕ} → Reduces rs u v → Congruent (Pair rs) u v
reduces_congruent (within b a x m) = congruent_application (forth b a (pair x m))

pub reduces_to_congruent : {rs : List Rule} {u v : List ℕ} → ReducesTo rs u v → Congruent (Pair rs) u v
reduces_to_congruent {rs} (t, p) = reduces_to_congruent_by_induction p
  where
    reduces_to_congruent_by_induction : {t : ℕ} {u v : List ℕ} → Reductions rs t u v → Congruent (Pair rs) u v
    reduces_to_congruent_by_induction stays = alone
    reduces_to_congruent_by_induction (step r p) = congruent_trans (reduces_congruent r) (reduces_to_congruent_by_induction p)

-- words with a descendant in common are congruent
pub joined_congruent : {rs : List Rule} {u v z : List ℕ} → ReducesTo rs u z → ReducesTo rs v z → Congruent (Pair rs) u v
joined_congruent p q = congruent_trans (reduces_to_congruent p) (congruent_sym (reduces_to_congruent q))

-- if the two sides of each pair of R are congruent under S, so are all words that are congruent under R
pub congruent_flat : {R S : List ℕ → List ℕ → Type 0} {u v : List ℕ} → ((l r : List ℕ) → R l r → Congruent S l r) → Congruent R u v → Congruent S u v
congruent_flat f alone = alone
congruent_flat f (next (forth x y {l} {r} h) q) = congruent_trans (congruent_context x y (f l r h)) (congruent_flat f q)
congruent_flat f (next (back x y {l} {r} h) q) = congruent_trans (congruent_context x y (congruent_sym (f l r h))) (congruent_flat f q)

-- ---- the order

-- what comes before another word of its length does so with anything behind both
before-behind : (u v y : List ℕ) → length u ≡ length v → before u v ≡ true → before (u ++ y) (v ++ y) ≡ true
before-behind u v y e h = elim ((before_exactly u v).0 h) [
  | inl (x, s, t, a, b, l, p, q) ↦
      rw (p, q) ((before_exactly ((x ++ (a ∷ s)) ++ y) ((x ++ (b ∷ t)) ++ y)).1
      (inl (x, s ++ y, t ++ y, a, b, l, append_assoc x (a ∷ s) y, append_assoc x (b ∷ t) y)))
  | inr (a, z, q) ↦ absurd (omega (arith, simp length-append at (ap length q)))
]

-- the order by length and dictionary inside longer words
pub shortlex_within : (x u v y : List ℕ) → shortlex u v ≡ true → shortlex (x ++ (u ++ y)) (x ++ (v ++ y)) ≡ true
shortlex_within x u v y h = elim (shortlex_cases u v h) [
  | inl l ↦ shortlex_shorter (x ++ (u ++ y)) (x ++ (v ++ y)) (simp length-append (omega arith))
  | inr (e, b) ↦
      shortlex-before (x ++ (u ++ y)) (x ++ (v ++ y)) (simp length-append (omega arith))
      (before-append x (u ++ y) (v ++ y) ∙ before-behind u v y e b)
]
