-- Congruent words have one window, one length where no step is cancelled, and letters from 1 to n together; each shown
-- for a relation, then for an application, then for a list of them.
--
-- Sections: pairs of steps; a relation's sides; windows; lengths; letters.
-- Not here: the congruence of any relation (Congruence), what a step is as a map of lists (Steps).
-- Assumes nothing.
use mathlib.Core.Path.{◌≡◌, refl, sym, ap, ◌∙◌}
use mathlib.Core.Bool.{false, ◌||◌, or_assoc}
use mathlib.Core.Logic.{◌⊎◌, inl, inr}
use mathlib.Core.List.{List, [], ◌∷◌, ◌++◌}
use Prim.Native.Nat.{ℕ, zero, suc, ◌+◌, ◌≤◌, ◌<◌}
use native.Mathlib.Omega.{arith}
use native.Mathlib.Decide.{ℕ_discrete}
use lib.Dec.{eqb, ltb}
use lib.IntN.{ℤ}
use lib.ListN.{length, length-append}
use borrow.Author.Tests.{le-ltb, ne_eqb}
use Rattle.coxeter.specs.declared.Kind.{Kind}
use Rattle.coxeter.specs.declared.Kind.TheVariants.{A, B, D}
use Rattle.coxeter.specs.Kinds.{lanes}
use Rattle.coxeter.specs.Windows.{swap, negate_first, swap_negate, act, window_from, identity, window}
use Rattle.coxeter.specs.Relations.{Neighbours, FourfoldPair, Commuting, Braid, threefold, fourfold, commute}
use Rattle.coxeter.specs.Relations.{Relation, twice, braid, Application, forth, back, Congruent}
use Rattle.coxeter.specs.Checks.{wrong_letter}
use Rattle.coxeter.proofs.Basics.{window_from-append, length-window_from, length-identity}
use Rattle.coxeter.proofs.Congruence.{congruent_keeps}
use Rattle.coxeter.proofs.Steps.{from_commute, from-swap-swap_negate, from-swap_threefold}
use Rattle.coxeter.proofs.Steps.{from-swap_negate_threefold, from-negate_first_fourfold, act-swap}
use Rattle.coxeter.proofs.Steps.{act-B_last, act-D_last, act_involution}

-- ---- pairs of steps

pub neighbours_lt : (k : Kind) (n a b : ℕ) → Neighbours k n a b → a < b
neighbours_lt A n a b h = omega arith
neighbours_lt B n a b h = omega arith
neighbours_lt D n a b (inl h) = omega arith
neighbours_lt D n a b (inr h) = omega arith

pub fourfold_pair_lt : (k : Kind) (n a b : ℕ) → FourfoldPair k n a b → a < b
fourfold_pair_lt A n a b h = absurd h
fourfold_pair_lt B n a b h = omega arith
fourfold_pair_lt D n a b h = absurd h

-- the other pairs, said positively
abbrev pub Apart : Kind → ℕ → ℕ → ℕ → Type 0
Apart A n a b = a + 2 ≤ b
Apart B n a b = a + 2 ≤ b
Apart D n a b = ((a + 2 ≤ b) × (b < n)) ⊎ (((a + 3 ≤ b) × (b ≡ n)) ⊎ ((a + 1 ≡ b) × (b ≡ n)))

pub commuting_apart : (k : Kind) (n a b : ℕ) → b ≤ n → Commuting k n a b → Apart k n a b
commuting_apart A n a b l (h, nb, ff) = elim (ℕ_discrete (a + 1) b) [ yes e ↦ absurd (nb e) | no e ↦ omega arith ]
commuting_apart B n a b l (h, nb, ff) =
    elim (ℕ_discrete (a + 1) b) [
      | yes e ↦ elim (ℕ_discrete b n) [ yes g ↦ absurd (ff (e, g)) | no g ↦ absurd (nb (e, omega arith)) ]
      | no e ↦ omega arith
    ]
commuting_apart D n a b l (h, nb, ff) =
    elim (ℕ_discrete b n) [
      | yes g ↦ elim (ℕ_discrete (a + 1) b) [
        | yes e ↦ inr (inr (e, g))
        | no e ↦ elim (ℕ_discrete (a + 2) b) [ yes f ↦ absurd (nb (inr (f, g))) | no f ↦ inr (inl (omega arith, g)) ]
      ]
      | no g ↦ elim (ℕ_discrete (a + 1) b) [ yes e ↦ absurd (nb (inl (e, omega arith))) | no e ↦ inl (omega arith, omega arith) ]
    ]

pub apart_commuting : (k : Kind) (n a b : ℕ) → Apart k n a b → Commuting k n a b
apart_commuting A n a b h = (omega arith, (λ nb. omega arith), λ ff. ff)
apart_commuting B n a b h = (omega arith, (λ nb. omega arith), λ ff. omega arith)
apart_commuting D n a b (inl h) = (omega arith, elim [ inl nb ↦ omega arith | inr nb ↦ omega arith ], λ ff. ff)
apart_commuting D n a b (inr (inl h)) = (omega arith, elim [ inl nb ↦ omega arith | inr nb ↦ omega arith ], λ ff. ff)
apart_commuting D n a b (inr (inr h)) = (omega arith, elim [ inl nb ↦ omega arith | inr nb ↦ omega arith ], λ ff. ff)

-- ---- a relation's sides (steps a = p + 1 and b = q + 1)

threefold_swap : (k : Kind) (n p q : ℕ) → p + 1 ≡ q → suc q < lanes k n → (w : List ℤ) → length w ≡ lanes k n
    → act k n (suc p) (act k n (suc q) (act k n (suc p) w)) ≡ act k n (suc q) (act k n (suc p) (act k n (suc q) w))
threefold_swap k n p q f h w e =
    rw (← f, act-swap k n p (omega arith), act-swap k n (p + 1) (omega arith)) (from-swap_threefold p w (omega arith))

threefold_acts : (k : Kind) (n p q : ℕ) → suc q ≤ n → Neighbours k n (suc p) (suc q) → (w : List ℤ) → length w ≡ lanes k n
    → act k n (suc p) (act k n (suc q) (act k n (suc p) w)) ≡ act k n (suc q) (act k n (suc p) (act k n (suc q) w))
threefold_acts A n p q l h w e = threefold_swap A n p q (omega arith) (omega arith) w e
threefold_acts B n p q l h w e = threefold_swap B n p q (omega arith) (omega arith) w e
threefold_acts D n p q l (inl h) w e = threefold_swap D n p q (omega arith) (omega arith) w e
threefold_acts D n p q l (inr h) w e =
    rw (h.1, act-swap D n p (omega arith), act-D_last n (p + 1) (omega arith)) (from-swap_negate_threefold p w (omega arith))

fourfold_acts : (k : Kind) (n p q : ℕ) → FourfoldPair k n (suc p) (suc q) → (w : List ℤ) → length w ≡ lanes k n
    → act k n (suc q) (act k n (suc p) (act k n (suc q) (act k n (suc p) w)))
    ≡ act k n (suc p) (act k n (suc q) (act k n (suc p) (act k n (suc q) w)))
fourfold_acts A n p q h w e = absurd h
fourfold_acts B n p q h w e =
    rw (h.1, act-swap B n p (omega arith), act-B_last n (p + 1) (omega arith)) (from-negate_first_fourfold p w (omega arith))
fourfold_acts D n p q h w e = absurd h

apart_swap : (k : Kind) (n p q : ℕ) → p + 2 ≤ q → suc q < lanes k n → (w : List ℤ)
    → act k n (suc q) (act k n (suc p) w) ≡ act k n (suc p) (act k n (suc q) w)
apart_swap k n p q h l w =
    rw (act-swap k n p (omega arith), act-swap k n q l) (sym (from_commute swap p q h w))

apart_acts : (k : Kind) (n p q : ℕ) → suc q ≤ n → Apart k n (suc p) (suc q) → (w : List ℤ)
    → act k n (suc q) (act k n (suc p) w) ≡ act k n (suc p) (act k n (suc q) w)
apart_acts A n p q l h w = apart_swap A n p q (omega arith) (omega arith) w
apart_acts B n p q l h w =
    elim (ℕ_discrete (suc q) n) [
      | yes e ↦ rw (e, act-swap B n p (omega arith), act-B_last n q (omega arith)) (sym (from_commute negate_first p q (omega arith) w))
      | no e ↦ apart_swap B n p q (omega arith) (omega arith) w
    ]
apart_acts D n p q l (inl h) w = apart_swap D n p q (omega arith) (omega arith) w
apart_acts D n p zero l (inr (inl h)) w = absurd (omega arith)
apart_acts D n p (suc q) l (inr (inl h)) w =
    rw (h.1, act-swap D n p (omega arith), act-D_last n q (omega arith)) (sym (from_commute swap_negate p q (omega arith) w))
apart_acts D n p q l (inr (inr h)) w =
    rw (h.1, act-swap D n p (omega arith), act-D_last n p (omega arith)) (sym (from-swap-swap_negate p w))

braid_acts : (k : Kind) (n : ℕ) {l r : List ℕ} → Braid k n l r → (w : List ℤ) → length w ≡ lanes k n
    → window_from k n w l ≡ window_from k n w r
unfolding window_from
braid_acts k n (threefold {a = zero} {b = b} o l h) w e = elim o [ ]
braid_acts k n (threefold {a = suc p} {b = zero} o l h) w e = absurd (omega (arith, neighbours_lt k n (suc p) 0 h))
braid_acts k n (threefold {a = suc p} {b = suc q} o l h) w e = threefold_acts k n p q l h w e
braid_acts k n (fourfold {a = zero} {b = b} o l h) w e = elim o [ ]
braid_acts k n (fourfold {a = suc p} {b = zero} o l h) w e = absurd (omega (arith, fourfold_pair_lt k n (suc p) 0 h))
braid_acts k n (fourfold {a = suc p} {b = suc q} o l h) w e = fourfold_acts k n p q h w e
braid_acts k n (commute {a = zero} {b = b} o l h) w e = elim o [ ]
braid_acts k n (commute {a = suc p} {b = zero} o l h) w e = absurd (omega (arith, h.0))
braid_acts k n (commute {a = suc p} {b = suc q} o l h) w e = apart_acts k n p q l (commuting_apart k n (suc p) (suc q) l h) w

-- a relation's two sides act equally
pub relation_acts : (k : Kind) (n : ℕ) {l r : List ℕ} → Relation k n l r → (w : List ℤ) → length w ≡ lanes k n
    → window_from k n w l ≡ window_from k n w r
unfolding window_from
relation_acts k n (twice {a} o l) w e = act_involution k n a w
relation_acts k n (braid c) w e = braid_acts k n c w e

-- ---- windows

context_acts : (k : Kind) (n : ℕ) (w : List ℤ) (x y l r : List ℕ) → window_from k n (window_from k n w x) l ≡ window_from k n (window_from k n w x) r
    → window_from k n w (x ++ (l ++ y)) ≡ window_from k n w (x ++ (r ++ y))
context_acts k n w x y l r e = simp window_from-append (ap (λ v. window_from k n v y) e)

application_window : (k : Kind) (n : ℕ) {u v : List ℕ} → Application (Relation k n) u v → (w : List ℤ) → length w ≡ lanes k n
    → window_from k n w u ≡ window_from k n w v
application_window k n (forth x y {l} {r} c) w e =
    context_acts k n w x y l r (relation_acts k n c (window_from k n w x) (length-window_from k n w x ∙ e))
application_window k n (back x y {l} {r} c) w e =
    sym (context_acts k n w x y l r (relation_acts k n c (window_from k n w x) (length-window_from k n w x ∙ e)))

congruent_window_from : (k : Kind) (n : ℕ) {u v : List ℕ} → Congruent (Relation k n) u v → (w : List ℤ) → length w ≡ lanes k n
    → window_from k n w u ≡ window_from k n w v
congruent_window_from k n c w e = congruent_keeps (window_from k n w) (λ u v s. application_window k n s w e) c

-- congruent words have one window
pub congruent_window : (k : Kind) (n : ℕ) {u v : List ℕ} → Congruent (Relation k n) u v → window k n u ≡ window k n v
unfolding window
congruent_window k n c = congruent_window_from k n c (identity (lanes k n)) (length-identity (lanes k n))

-- ---- lengths

braid_length : {k : Kind} {n : ℕ} {l r : List ℕ} → Braid k n l r → length l ≡ length r
braid_length (threefold o l nb) = refl
braid_length (fourfold o l ff) = refl
braid_length (commute o l c) = refl

context_length : (x y l r : List ℕ) → length l ≡ length r → length (x ++ (l ++ y)) ≡ length (x ++ (r ++ y))
context_length x y l r e = simp (length-append, e)

application_length_braid : {k : Kind} {n : ℕ} {u v : List ℕ} → Application (Braid k n) u v → length u ≡ length v
application_length_braid (forth x y {l} {r} c) = context_length x y l r (braid_length c)
application_length_braid (back x y {l} {r} c) = context_length x y r l (sym (braid_length c))

pub congruent_length_braid : {k : Kind} {n : ℕ} {u v : List ℕ} → Congruent (Braid k n) u v → length u ≡ length v
congruent_length_braid c = congruent_keeps length (λ u v s. application_length_braid s) c

-- ---- letters

pub wrong_letter-append : (n : ℕ) (u v : List ℕ) → wrong_letter n (u ++ v) ≡ (wrong_letter n u || wrong_letter n v)
unfolding wrong_letter
wrong_letter-append n [] v = refl
wrong_letter-append n (s ∷ u) v = rw (wrong_letter-append n u v) (sym (or_assoc (eqb s 0 || ltb n s) (wrong_letter n u) (wrong_letter n v)))

pub letters-append : (n : ℕ) (u v : List ℕ) → wrong_letter n u ≡ false → wrong_letter n v ≡ false → wrong_letter n (u ++ v) ≡ false
letters-append n u v e f = rw (wrong_letter-append, e, f)

pub wrong_letter_nil : (n : ℕ) → wrong_letter n [] ≡ false
unfolding wrong_letter
wrong_letter_nil n = refl

-- a letter from 1 to n adds no wrong one
pub wrong_letter_cons : (n s : ℕ) (u : List ℕ) → 1 ≤ s → s ≤ n → wrong_letter n (s ∷ u) ≡ wrong_letter n u
unfolding wrong_letter
wrong_letter_cons n s u o l = rw (ne_eqb s 0 (omega arith), le-ltb n s l)

braid_letters : {k : Kind} {n : ℕ} {l r : List ℕ} → Braid k n l r → (wrong_letter n l ≡ false) × (wrong_letter n r ≡ false)
braid_letters {k} {n} (threefold {a} {b} o l h) =
    let ab : a < b = neighbours_lt k n a b h in
    let ob : 1 ≤ b = omega arith in
    let la : a ≤ n = omega arith in
    (simp (wrong_letter_cons, wrong_letter_nil), simp (wrong_letter_cons, wrong_letter_nil))
braid_letters {k} {n} (fourfold {a} {b} o l h) =
    let ab : a < b = fourfold_pair_lt k n a b h in
    let ob : 1 ≤ b = omega arith in
    let la : a ≤ n = omega arith in
    (simp (wrong_letter_cons, wrong_letter_nil), simp (wrong_letter_cons, wrong_letter_nil))
braid_letters {k} {n} (commute {a} {b} o l h) =
    let ob : 1 ≤ b = omega arith in
    let la : a ≤ n = omega arith in
    (simp (wrong_letter_cons, wrong_letter_nil), simp (wrong_letter_cons, wrong_letter_nil))

-- both sides of a relation have letters from 1 to n alone
pub relation_letters : {k : Kind} {n : ℕ} {l r : List ℕ} → Relation k n l r → (wrong_letter n l ≡ false) × (wrong_letter n r ≡ false)
relation_letters (twice o l) = (simp (wrong_letter_cons, wrong_letter_nil), wrong_letter_nil _)
relation_letters (braid c) = braid_letters c

application_wrong_letter : {k : Kind} {n : ℕ} {u v : List ℕ} → Application (Relation k n) u v → wrong_letter n u ≡ wrong_letter n v
application_wrong_letter (forth x y c) = simp (wrong_letter-append, (relation_letters c).0, (relation_letters c).1)
application_wrong_letter (back x y c) = simp (wrong_letter-append, (relation_letters c).0, (relation_letters c).1)

congruent_wrong_letter : (k : Kind) (n : ℕ) {u v : List ℕ} → Congruent (Relation k n) u v → wrong_letter n u ≡ wrong_letter n v
congruent_wrong_letter k n c = congruent_keeps (wrong_letter n) (λ u v s. application_wrong_letter s) c

pub congruent_letters : (k : Kind) (n : ℕ) {u v : List ℕ} → Congruent (Relation k n) u v → wrong_letter n u ≡ false → wrong_letter n v ≡ false
congruent_letters k n c e = sym (congruent_wrong_letter k n c) ∙ e
