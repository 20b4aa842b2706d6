-- What a block does to a window: it moves the entry i to its place and, past the turn, changes its sign. By runs:
-- going up moves an entry to the right, going down to the left, and at the turn B negates it and D negates it and
-- its neighbour.
-- Assumes nothing.
use mathlib.Core.Path.{◌≡◌, refl, sym, ap, ◌∙◌}
use mathlib.Core.Bool.{false, true≢false}
use mathlib.Core.List.{List, [], ◌∷◌, ◌++◌, append_assoc, append-nil}
use Prim.Native.Nat.{ℕ, zero, suc, ◌+◌, ◌-◌, ◌*◌, ◌≤◌, ◌<◌}
use native.Mathlib.Omega.{arith}
use lib.IntN.{ℤ, pos, negsuc, neg_ℤ, nat_abs, neg_ℤ-neg_ℤ}
use lib.ListN.{length, length-append}
use Rattle.coxeter.specs.declared.Kind.{Kind}
use Rattle.coxeter.specs.declared.Kind.TheVariants.{A, B, D}
use Rattle.coxeter.specs.Kinds.{lanes}
use Rattle.coxeter.specs.Windows.{from, swap, negate_first, swap_negate, act, window_from, signed}
use Rattle.coxeter.specs.Length.{negative}
use Rattle.coxeter.specs.Checks.{negative_in_A}
use Rattle.coxeter.specs.NormalForm.{block, levels, last_index, index_of, rest_of}
use Rattle.coxeter.proofs.Basics.{window_from-append}
use Rattle.coxeter.proofs.Steps.{act-swap, act-B_last, act-D_last}
use Rattle.coxeter.proofs.LetterRuns.{span, slide, span_nil, span_cons, slide_nil, slide_cons, slide_snoc, rise-span, Corner, IsBlock, block_up, block_turn}
use Rattle.coxeter.proofs.Peeling.{rest_of_positive, index_of_positive, index_of-negative}

-- ---- one step

from-append : (p : ℕ) (f : List ℤ → List ℤ) (u v : List ℤ) → p ≡ length u → from p f (u ++ v) ≡ u ++ f v
unfolding from
from-append zero f [] v h = refl
from-append zero f (x ∷ u) v h = absurd (omega arith)
from-append (suc p) f [] v h = absurd (omega arith)
from-append (suc p) f (x ∷ u) v h = ap (λ (l : List ℤ). x ∷ l) (from-append p f u v (omega arith))

act-swap-append : (k : Kind) (n s : ℕ) (u : List ℤ) (x y : ℤ) (v : List ℤ) → s ≡ suc (length u) → s < lanes k n
    → act k n s (u ++ (x ∷ y ∷ v)) ≡ u ++ (y ∷ x ∷ v)
unfolding swap
act-swap-append k n s u x y v h l = rw (h, act-swap k n (length u) (omega arith)) (from-append (length u) swap u (x ∷ y ∷ v) refl)

act_negate_append : (n : ℕ) (u : List ℤ) (x : ℤ) → length u + 1 ≡ n → act B n n (u ++ (x ∷ [])) ≡ u ++ (neg_ℤ x ∷ [])
unfolding negate_first
act_negate_append n u x h = rw (act-B_last n (length u) h) (from-append (length u) negate_first u (x ∷ []) refl)

act-swap_negate-append : (n : ℕ) (u : List ℤ) (x y : ℤ) → length u + 2 ≡ n → act D n n (u ++ (x ∷ y ∷ [])) ≡ u ++ (neg_ℤ y ∷ neg_ℤ x ∷ [])
unfolding swap_negate
act-swap_negate-append n u x y h = rw (act-D_last n (length u) h) (from-append (length u) swap_negate u (x ∷ y ∷ []) refl)

-- ---- runs

-- going up, an entry moves to the right past v
window_from-span : (k : Kind) (n : ℕ) {s c : ℕ} (u : List ℤ) (x : ℤ) (v z : List ℤ) → s ≡ suc (length u) → c ≡ s + length v → c ≤ lanes k n
    → window_from k n (u ++ (x ∷ (v ++ z))) (span s c) ≡ u ++ (v ++ (x ∷ z))
unfolding window_from
window_from-span k n {s} {c} u x [] z h q l = rw (span_nil s c (omega arith))
window_from-span k n {s} {c} u x (y ∷ v) z h q l =
    rw (span_cons s c (omega arith))
    (ap (λ (w : List ℤ). window_from k n w (span (suc s) c)) (act-swap-append k n s u x y (v ++ z) h (omega arith))
    ∙ (simp append_assoc at (window_from-span k n {s = suc s} (u ++ (y ∷ [])) x v z (omega (arith, length-append u (y ∷ []))) (omega arith) l)))

-- going down, it moves back
window_from-slide : (k : Kind) (n : ℕ) {s c : ℕ} (u v : List ℤ) (x : ℤ) (z : List ℤ) → s ≡ suc (length u) → c ≡ s + length v → c ≤ lanes k n
    → window_from k n (u ++ (v ++ (x ∷ z))) (slide c s) ≡ u ++ (x ∷ (v ++ z))
unfolding window_from
window_from-slide k n {s} {c} u [] x z h q l = rw (slide_nil c s (omega arith))
window_from-slide k n {s} {c} u (y ∷ v) x z h q l =
    let r : window_from k n (u ++ (y ∷ (v ++ (x ∷ z)))) (slide c (suc s)) ≡ u ++ (y ∷ (x ∷ (v ++ z))) =
    simp append_assoc at (window_from-slide k n {s = suc s} (u ++ (y ∷ [])) v x z (omega (arith, length-append u (y ∷ []))) (omega arith) l) in
    rw (slide_snoc c s (omega arith), window_from-append k n (u ++ (y ∷ (v ++ (x ∷ z)))) (slide c (suc s)) (s ∷ []))
    (ap (act k n s) r ∙ act-swap-append k n s u y x (v ++ z) h (omega arith))

-- ---- the turn

-- a list with an entry ends in one
record Ending (w : List ℤ) : Type 0 where
  front : List ℤ
  final : ℤ
  whole : w ≡ front ++ (final ∷ [])

ending : (w : List ℤ) → 1 ≤ length w → Ending w
ending [] h = absurd (omega arith)
ending (x ∷ []) h = record { front = []; final = x; whole = refl }
ending (x ∷ (y ∷ w)) h =
    let r : Ending (y ∷ w) = ending (y ∷ w) (omega arith) in
    record { front = x ∷ r.front; final = r.final; whole = ap (λ (l : List ℤ). x ∷ l) r.whole }

rest_of_ending : (x : ℕ) (m : List ℤ) (z : ℤ) → rest_of D (negsuc x) (m ++ (z ∷ [])) ≡ m ++ (neg_ℤ z ∷ [])
unfolding rest_of negate_first
rest_of_ending x m z = from-append _ negate_first m (z ∷ []) (omega (arith, length-append m (z ∷ [])))

turn_D : {n i : ℕ} (x : ℕ) (u m : List ℤ) (y : ℤ) → i ≡ suc (length u) → n ≡ suc (i + length m)
    → window_from D n (u ++ (pos i ∷ rest_of D (negsuc x) (m ++ (y ∷ [])))) (span i (n - 1) ++ (n ∷ [])) ≡ u ++ ((m ++ (y ∷ [])) ++ (neg_ℤ (pos i) ∷ []))
unfolding window_from
turn_D {n} {i} x u m y h q =
    let r : window_from D n (u ++ (pos i ∷ (m ++ (neg_ℤ y ∷ [])))) (span i (n - 1)) ≡ (u ++ m) ++ (pos i ∷ neg_ℤ y ∷ []) =
    simp append_assoc (window_from-span D n u (pos i) m (neg_ℤ y ∷ []) h (omega arith) (omega arith)) in
    rw (rest_of_ending x m y, window_from-append D n (u ++ (pos i ∷ (m ++ (neg_ℤ y ∷ [])))) (span i (n - 1)) (n ∷ []))
    (ap (act D n n) r ∙ act-swap_negate-append n (u ++ m) (pos i) (neg_ℤ y) (omega (arith, length-append u m)) ∙ rw neg_ℤ-neg_ℤ (simp append_assoc))

-- at the turn the entry i gets to the end with its sign changed, and in D the last entry its sign back
window_from_turn : (k : Kind) {n i : ℕ} (x : ℕ) (u w : List ℤ) → i ≡ suc (length u) → length w + i ≡ n → i ≤ levels k n → negative_in_A k (negsuc x) ≡ false
    → window_from k n (u ++ (pos i ∷ rest_of k (negsuc x) w)) (span i (levels k n) ++ (n ∷ [])) ≡ u ++ (w ++ (neg_ℤ (pos i) ∷ []))
unfolding window_from negative_in_A negative rest_of
window_from_turn A x u w h q l a = absurd (true≢false a)
window_from_turn B {n} {i} x u w h q l a =
    let r : window_from B n (u ++ (pos i ∷ w)) (span i n) ≡ (u ++ w) ++ (pos i ∷ []) =
    simp append_assoc (rw append-nil at (window_from-span B n {c = n} u (pos i) w [] h (omega arith) (omega arith))) in
    rw (window_from-append B n (u ++ (pos i ∷ w)) (span i n) (n ∷ []))
    (ap (act B n n) r ∙ act_negate_append n (u ++ w) (pos i) (omega (arith, length-append u w)) ∙ append_assoc u w (neg_ℤ (pos i) ∷ []))
window_from_turn D {n} {i} x u w h q l a =
    let r : Ending w = ending w (omega arith) in
    rw r.whole (turn_D x u r.front r.final h (omega (arith, length-append r.front (r.final ∷ []), ap length r.whole)))

-- ---- blocks

-- a block that does not turn
block-identity : (k : Kind) (n i j : ℕ) → j < lanes k n → block k n i j ≡ span i (suc j)
unfolding block
block-identity A n i j h = rise-span i j
block-identity B n i j h = block_up B n i j h
block-identity D n i j h = block_up D n i j h

pub corner : (k : Kind) (n i : ℕ) → i ≤ levels k n → 1 ≤ i → (c : ℕ) × Corner k n c × (i ≤ c)
corner A n i l o = (n, refl, l)
corner B n i l o = (n, refl, l)
corner D n i l o = (n - 1, omega arith, l)

block_positive : (k : Kind) (n i : ℕ) (u v z : List ℤ) → i ≡ suc (length u) → length v + i ≤ lanes k n
    → window_from k n (u ++ (pos i ∷ (v ++ z))) (block k n i (i + length v - 1)) ≡ u ++ (v ++ (pos i ∷ z))
block_positive k n i u v z h q =
    let e : suc (i + length v - 1) ≡ i + length v = omega arith in
    rw (block-identity k n i (i + length v - 1) (omega arith), e) (window_from-span k n u (pos i) v z h refl (omega arith))

-- no block of A turns
pub turning : (k : Kind) (n i x : ℕ) → negative_in_A k (negsuc x) ≡ false → (lanes k n ≡ n) × (last_index k n i ≡ 2 * n - i)
unfolding negative_in_A negative
turning A n i x h = absurd (true≢false h)
turning B n i x h = (refl, refl)
turning D n i x h = (refl, refl)

block-negative : (k : Kind) {n i : ℕ} (x : ℕ) (u v z : List ℤ) → i ≤ levels k n → i ≡ suc (length u) → length v + length z + i ≡ n
    → negative_in_A k (negsuc x) ≡ false
    → window_from k n (u ++ (pos i ∷ rest_of k (negsuc x) (v ++ z))) (block k n i (2 * n - (i + length v))) ≡ u ++ (v ++ (neg_ℤ (pos i) ∷ z))
block-negative k {n} {i} x u v z l h q a =
    let t : (lanes k n ≡ n) × (last_index k n i ≡ 2 * n - i) = turning k n i x a in
    let w : List ℤ = u ++ (pos i ∷ rest_of k (negsuc x) (v ++ z)) in
    let c : List ℕ = span i (levels k n) in
    let d : ℕ = i + length v in
    let b : IsBlock k n i (2 * n - d) = omega arith in
    let r : window_from k n w (c ++ (n ∷ [])) ≡ (u ++ v) ++ (z ++ (neg_ℤ (pos i) ∷ [])) =
    simp append_assoc (simp append_assoc at (window_from_turn k x u (v ++ z) h (omega (arith, length-append v z)) l a)) in
    ap (window_from k n w)
    (block_turn d b (omega arith) (omega arith)
    ∙ ap (λ (s : List ℕ). c ++ s) (slide_cons n d (omega arith))
    ∙ sym (append_assoc c (n ∷ []) (slide n d)))
    ∙ window_from-append k n w (c ++ (n ∷ [])) (slide n d)
    ∙ ap (λ (y : List ℤ). window_from k n y (slide n d)) r
    ∙ window_from-slide k n (u ++ v) z (neg_ℤ (pos i)) [] (omega (arith, length-append u v)) (omega arith) (omega arith)
    ∙ simp (append-nil, append_assoc)

-- e is the entry of size i, between v and z, of those at the positions i, i + 1, ..
pub record LevelEntry (k : Kind) (n i : ℕ) (v : List ℤ) (e : ℤ) (z : List ℤ) : Type 0 where
  pub level : i ≤ levels k n
  pub count : length (v ++ (e ∷ z)) + i ≡ suc (lanes k n)
  pub size : nat_abs e ≡ i
  pub sign : negative_in_A k e ≡ false

-- its block puts it there, what is left of v and z standing behind the entry i
pub window_from-block : {k : Kind} {n i : ℕ} (u : List ℤ) {v : List ℤ} {e : ℤ} {z : List ℤ} → i ≡ suc (length u) → LevelEntry k n i v e z
    → window_from k n (u ++ (pos i ∷ rest_of k e (v ++ z))) (block k n i (index_of n (signed e (i + length v)))) ≡ u ++ (v ++ (e ∷ z))
window_from-block {k} {n} {i} u {v} {e = pos x} {z} h s =
    rw (rest_of_positive k x (v ++ z), index_of_positive n x (i + length v), s.size)
    (block_positive k n i u v z h (omega (arith, length-append v (pos x ∷ z))))
window_from-block {k} {n} {i} u {v} {e = negsuc x} {z} h s =
    rw (index_of-negative n x (i + length v) (omega arith))
    (block-negative k x u v z s.level h (omega (arith, length-append v (negsuc x ∷ z), turning k n i x s.sign)) s.sign
    ∙ ap (λ (y : ℕ). u ++ (v ++ (neg_ℤ (pos y) ∷ z))) (sym s.size))
