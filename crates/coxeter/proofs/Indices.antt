-- A window is the same thing as its list of indices, one j for each level: the blocks of its indices show the
-- window, and the window of blocks has their indices. By induction on the levels, one block each.
-- Assumes nothing.
use mathlib.Core.Path.{◌≡◌, refl, sym, ap, ap₂, ◌∙◌, subst}
use mathlib.Core.Bool.{false}
use mathlib.Core.List.{List, [], ◌∷◌, ◌++◌, map, map-append, append_assoc}
use Prim.Native.Nat.{ℕ, zero, suc, ◌+◌, ◌-◌, ◌*◌, ◌≤◌, ◌<◌}
use native.Mathlib.Nat.{lt_of_not-le}
use native.Mathlib.Decide.{dec_le}
use native.Mathlib.Omega.{arith}
use lib.IntN.{ℤ, pos, negsuc, nat_abs}
use lib.ListN.{length, take, drop, length-append, length-map, take-append-drop}
use lib.Seq.{length-take-le}
use Rattle.coxeter.specs.declared.Kind.{Kind}
use Rattle.coxeter.specs.declared.Kind.TheVariants.{A, B, D}
use Rattle.coxeter.specs.Kinds.{lanes, up}
use Rattle.coxeter.specs.Windows.{window_from, identity, window, signed, place_from}
use Rattle.coxeter.specs.Length.{negative}
use Rattle.coxeter.specs.Checks.{has_size, negative_in_A}
use Rattle.coxeter.specs.NormalForm.{block, levels, last_index, blocks, Indices, none, level, without, index_of, rest_of}
use Rattle.coxeter.proofs.Basics.{length_up, up-append, window_from-append}
use Rattle.coxeter.proofs.Levels.{Accepted, has_size-below, window_from_accepted, identity_accepted}
use Rattle.coxeter.proofs.Peeling.{Peeled, place_from_peeled, rest_of_positive, index_of_positive, index_of-negative, rest_of_peeled}
use Rattle.coxeter.proofs.Peeling.{length-rest_of, rest_of-rest_of, between-rest_of, AtLevel, at_level_of_accepted, peeled}
use Rattle.coxeter.proofs.Peeling.{at_level_rest, at_level_negative_in_A, at_level_last, levels_le_lanes}
use Rattle.coxeter.proofs.BlockAction.{turning, LevelEntry, window_from-block}
use Rattle.coxeter.proofs.Sizes.{has_size-head, has_size-tail}

-- ---- indices

-- the js of t levels from i on, w at positions i, i + 1, ..
unfoldable pub indices : Kind → ℕ → ℕ → ℕ → List ℤ → List ℕ
indices k n zero i w = []
indices k n (suc t) i w = index_of n (place_from i w i) ∷ indices k n t (suc i) (rest_of k (place_from i w i) (without i w))

indices_peeled : (k : Kind) (n t : ℕ) {i : ℕ} (u : List ℤ) (e : ℤ) (v : List ℤ) → 1 ≤ i → nat_abs e ≡ i → has_size i u ≡ false
    → indices k n (suc t) i (u ++ (e ∷ v)) ≡ index_of n (signed e (i + length u)) ∷ indices k n t (suc i) (rest_of k e (u ++ v))
unfolding indices
indices_peeled k n t {i} u e v o s h = rw (rest_of_peeled k i u e v o s h, place_from_peeled i i u e v s h)

indices_of_peeled : (k : Kind) (n t i : ℕ) (w : List ℤ) (c : Peeled i w) → 1 ≤ i
    → indices k n (suc t) i w ≡ index_of n (signed c.entry (i + length c.left)) ∷ indices k n t (suc i) (rest_of k c.entry (c.left ++ c.right))
indices_of_peeled k n t i w c o = ap (indices k n (suc t) i) c.whole ∙ indices_peeled k n t c.left c.entry c.right o c.size c.new

-- ---- entries that stand still

identity_cut : (m p q : ℕ) → p + q ≡ m → identity m ≡ map pos (up 1 p) ++ map pos (up (suc p) q)
unfolding identity
identity_cut m p q h =
    let e : 1 + p ≡ suc p = omega arith in
    rw (← h, up-append 1 p q, e) (map-append pos (up 1 p) (up (suc p) q))

-- one entry more stands still
still_snoc : (p : ℕ) (w : List ℤ) → map pos (up 1 (suc p)) ++ w ≡ map pos (up 1 p) ++ (pos (suc p) ∷ w)
unfolding identity up
still_snoc p w = ap (λ (l : List ℤ). l ++ w) (identity_cut (suc p) p 1 (omega arith)) ∙ append_assoc (map pos (up 1 p)) (pos (suc p) ∷ []) w

-- what stands behind the entries i, .., j − 1 is at level j
at_level_still : {k : Kind} {n i : ℕ} (q : ℕ) {j : ℕ} {w : List ℤ} → 1 ≤ i → j ≡ i + q → j ≤ suc (levels k n) → AtLevel k n i (map pos (up i q) ++ w)
    → AtLevel k n j w
unfolding up
at_level_still {k} {n} {i} zero {j} {w} o e l h = let q : i ≡ j = omega arith in subst (λ (x : ℕ). AtLevel k n x w) q h
at_level_still {k} {n} {i} (suc q) {j} {w} o e l h =
    let v : List ℤ = map pos (up (suc i) q) ++ w in
    let g : AtLevel k n (suc i) v = subst (AtLevel k n (suc i)) (rest_of_positive k i v) (at_level_rest [] (pos i) v o (omega arith) refl h) in
    at_level_still q (omega arith) (omega arith) l g

-- ---- the blocks of a window's indices show the window

-- one block more, of the entry e at the level p + 1
window_from_step : {k : Kind} {n p : ℕ} (js : List ℕ) {u : List ℤ} {e : ℤ} {v : List ℤ} → LevelEntry k n (suc p) u e v
    → window_from k n (identity (lanes k n)) (blocks k n (suc (suc p)) js) ≡ map pos (up 1 (suc p)) ++ rest_of k e (u ++ v)
    → window_from k n (identity (lanes k n)) (blocks k n (suc p) (index_of n (signed e (suc p + length u)) ∷ js)) ≡ map pos (up 1 p) ++ (u ++ (e ∷ v))
unfolding blocks
window_from_step {k} {n} {p} js {u} {e} {v} s h =
    let b : List ℕ = block k n (suc p) (index_of n (signed e (suc p + length u))) in
    window_from-append k n (identity (lanes k n)) (blocks k n (suc (suc p)) js) b
    ∙ ap (λ (w : List ℤ). window_from k n w b) (h ∙ still_snoc p (rest_of k e (u ++ v)))
    ∙ window_from-block (map pos (up 1 p)) (omega (arith, length-map (up 1 p) pos, length_up 1 p)) s

window_from-indices : (k : Kind) (n t p : ℕ) (w : List ℤ) → t + suc p ≡ suc (levels k n) → AtLevel k n (suc p) w
    → window_from k n (identity (lanes k n)) (blocks k n (suc p) (indices k n t (suc p) w)) ≡ map pos (up 1 p) ++ w
unfolding indices blocks window_from
window_from-indices k n zero p w l h =
    identity_cut (lanes k n) p (length w) (omega (arith, h.size))
    ∙ ap (λ (v : List ℤ). map pos (up 1 p) ++ v) (sym (at_level_last k n (suc p) w (omega arith) h))
window_from-indices k n (suc t) p w l h = window_from-indices_by_cases (peeled k n (suc p) w (omega arith) h) (window_from-indices k n t (suc p))
  where
    window_from-indices_by_cases : Peeled (suc p) w
        → ((v : List ℤ) → t + suc (suc p) ≡ suc (levels k n) → AtLevel k n (suc (suc p)) v
        → window_from k n (identity (lanes k n)) (blocks k n (suc (suc p)) (indices k n t (suc (suc p)) v)) ≡ map pos (up 1 (suc p)) ++ v)
        → window_from k n (identity (lanes k n)) (blocks k n (suc p) (indices k n (suc t) (suc p) w)) ≡ map pos (up 1 p) ++ w
    window_from-indices_by_cases c ih =
        let g : AtLevel k n (suc p) (c.left ++ (c.entry ∷ c.right)) = subst (AtLevel k n (suc p)) c.whole h in
        let s : LevelEntry k n (suc p) c.left c.entry c.right =
        record { level = omega arith; count = g.size; size = c.size; sign = at_level_negative_in_A k n (suc p) c.left c.entry c.right g } in
        ap (λ (js : List ℕ). window_from k n (identity (lanes k n)) (blocks k n (suc p) js)) (indices_of_peeled k n t (suc p) w c (omega arith))
        ∙ window_from_step (indices k n t (suc (suc p)) (rest_of k c.entry (c.left ++ c.right))) s
        (ih (rest_of k c.entry (c.left ++ c.right)) (omega arith)
        (at_level_rest c.left c.entry c.right (omega arith) (omega arith) c.size g))
        ∙ ap (λ (v : List ℤ). map pos (up 1 p) ++ v) (sym c.whole)

pub window-indices : (k : Kind) (n : ℕ) (w : List ℤ) → Accepted k n w → window k n (blocks k n 1 (indices k n (levels k n) 1 w)) ≡ w
unfolding window up
window-indices k n w h = window_from-indices k n (levels k n) 0 w (omega arith) (at_level_of_accepted k n w h)

-- ---- a window's indices are in their ranges

positive_in_range : (k : Kind) (n i a b : ℕ) → 1 ≤ i → i ≤ levels k n → a + suc b + i ≡ suc (lanes k n)
    → (i ≤ suc (i + a - 1)) × (i + a - 1 ≤ last_index k n i)
positive_in_range A n i a b o l q = omega arith
positive_in_range B n i a b o l q = omega arith
positive_in_range D n i a b o l q = omega arith

index_in_range : (k : Kind) (n i : ℕ) (u : List ℤ) (e : ℤ) (v : List ℤ) → 1 ≤ i → i ≤ levels k n → AtLevel k n i (u ++ (e ∷ v))
    → (i ≤ suc (index_of n (signed e (i + length u)))) × (index_of n (signed e (i + length u)) ≤ last_index k n i)
index_in_range k n i u (pos x) v o l h =
    rw (index_of_positive n x (i + length u))
    (positive_in_range k n i (length u) (length v) o l (omega (arith, h.size, length-append u (pos x ∷ v))))
index_in_range k n i u (negsuc x) v o l h =
    let t : (lanes k n ≡ n) × (last_index k n i ≡ 2 * n - i) = turning k n i x (at_level_negative_in_A k n i u (negsuc x) v h) in
    rw (index_of-negative n x (i + length u) (omega arith), t.1) (omega (arith, h.size, length-append u (negsuc x ∷ v)))

indices_at_level : (k : Kind) (n t i : ℕ) (w : List ℤ) → 1 ≤ i → t + i ≡ suc (levels k n) → AtLevel k n i w → Indices k n i (indices k n t i w)
unfolding indices
indices_at_level k n zero i w o l h = none {i = i} (omega arith)
indices_at_level k n (suc t) i w o l h = indices_at_level_by_cases (peeled k n i w (omega arith) h) (indices_at_level k n t (suc i))
  where
    indices_at_level_by_cases : Peeled i w
        → ((v : List ℤ) → 1 ≤ suc i → t + suc i ≡ suc (levels k n) → AtLevel k n (suc i) v → Indices k n (suc i) (indices k n t (suc i) v))
        → Indices k n i (indices k n (suc t) i w)
    indices_at_level_by_cases c ih =
        let g : AtLevel k n i (c.left ++ (c.entry ∷ c.right)) = subst (AtLevel k n i) c.whole h in
        let b = index_in_range k n i c.left c.entry c.right o (omega arith) g in
        let a : i ≤ levels k n = omega arith in
        let v : List ℤ = rest_of k c.entry (c.left ++ c.right) in
        subst (Indices k n i) (sym (indices_of_peeled k n t i w c o))
        (level a b.0 b.1 (ih v (omega arith) (omega arith) (at_level_rest c.left c.entry c.right o a c.size g)))

pub indices_in_range : (k : Kind) (n : ℕ) (w : List ℤ) → Accepted k n w → Indices k n 1 (indices k n (levels k n) 1 w)
indices_in_range k n w h = indices_at_level k n (levels k n) 1 w (omega arith) (omega arith) (at_level_of_accepted k n w h)

-- ---- the window of blocks has their indices

-- an entry of size i and its neighbours, of which peeling makes the index j and the rest w
record Chosen (k : Kind) (n i j : ℕ) (w : List ℤ) : Type 0 where
  left : List ℤ
  entry : ℤ
  right : List ℤ
  size : nat_abs entry ≡ i
  sign : negative_in_A k entry ≡ false
  rest : rest_of k entry (left ++ right) ≡ w
  index : index_of n (signed entry (i + length left)) ≡ j

positive_sign : (k : Kind) (i : ℕ) → negative_in_A k (pos i) ≡ false
unfolding negative_in_A negative
positive_sign A i = refl
positive_sign B i = refl
positive_sign D i = refl

chosen_positive : (k : Kind) (n i j : ℕ) (w : List ℤ) → 1 ≤ i → i ≤ suc j → j < lanes k n → length w + i ≡ lanes k n → Chosen k n i j w
chosen_positive k n i j w o a b q =
    let c : ℕ = suc j - i in
    record {
      left = take c w;
      entry = pos i;
      right = drop c w;
      size = refl;
      sign = positive_sign k i;
      rest = rest_of_positive k i (take c w ++ drop c w) ∙ take-append-drop c w;
      index = index_of_positive n i (i + length (take c w)) ∙ omega (arith, length-take-le c w (omega arith));
    }

negative_sign : (k : Kind) (n i j x : ℕ) → lanes k n ≤ j → j ≤ last_index k n i → negative_in_A k (negsuc x) ≡ false
unfolding negative_in_A
negative_sign A n i j x a b = absurd (omega arith)
negative_sign B n i j x a b = refl
negative_sign D n i j x a b = refl

chosen_negative : (k : Kind) (n p j : ℕ) (w : List ℤ) → lanes k n ≤ j → j ≤ last_index k n (suc p) → length w + suc p ≡ lanes k n → Chosen k n (suc p) j w
chosen_negative k n p j w a b q =
    let s : negative_in_A k (negsuc p) ≡ false = negative_sign k n (suc p) j p a b in
    let t : (lanes k n ≡ n) × (last_index k n (suc p) ≡ 2 * n - suc p) = turning k n (suc p) p s in
    let v : List ℤ = rest_of k (negsuc p) w in
    let c : ℕ = 2 * n - (j + suc p) in
    let f : length (take c v) ≡ c = length-take-le c v (omega (arith, length-rest_of k (negsuc p) w)) in
    record {
      left = take c v;
      entry = negsuc p;
      right = drop c v;
      size = refl;
      sign = s;
      rest = ap (rest_of k (negsuc p)) (take-append-drop c v) ∙ rest_of-rest_of k (negsuc p) w;
      index = index_of-negative n p (suc p + length (take c v)) (omega arith) ∙ omega arith;
    }

chosen : (k : Kind) (n p j : ℕ) (w : List ℤ) → suc p ≤ suc j → j ≤ last_index k n (suc p) → length w + suc p ≡ lanes k n → Chosen k n (suc p) j w
chosen k n p j w a b q =
    elim (dec_le (lanes k n) j) [
      | yes h ↦ chosen_negative k n p j w h b q
      | no h ↦ chosen_positive k n (suc p) j w (omega arith) a (lt_of_not-le h) q
    ]

-- the blocks of the levels p + 1, .. leave 1, .., p standing still, and peeling gives back their js
record Shown (k : Kind) (n p : ℕ) (js : List ℕ) : Type 0 where
  entries : List ℤ
  shows : window_from k n (identity (lanes k n)) (blocks k n (suc p) js) ≡ map pos (up 1 p) ++ entries
  again : indices k n (length js) (suc p) entries ≡ js

has_size_left : (s : ℕ) (u v : List ℤ) → has_size s (u ++ v) ≡ false → has_size s u ≡ false
unfolding has_size
has_size_left s [] v h = refl
has_size_left s (x ∷ u) v h =
    rw (has_size-head s x (u ++ v) h) (has_size_left s u v (has_size-tail s x (u ++ v) h))

shown_step : (k : Kind) (n p j : ℕ) (js : List ℕ) → suc p ≤ levels k n → (h : Shown k n (suc p) js) → AtLevel k n (suc (suc p)) h.entries
    → Chosen k n (suc p) j h.entries → Shown k n p (j ∷ js)
shown_step k n p j js l h a c =
    let u : List ℤ = c.left in
    let e : ℤ = c.entry in
    let v : List ℤ = c.right in
    let q : rest_of k e h.entries ≡ u ++ v = sym (ap (rest_of k e) c.rest) ∙ rest_of-rest_of k e (u ++ v) in
    let new : has_size (suc p) (rest_of k e h.entries) ≡ false =
    has_size-below (suc (suc p)) _ (suc p) (rest_of k e h.entries) (omega arith) (between-rest_of k e (suc (suc p)) _ h.entries a.level.between) in
    let s : LevelEntry k n (suc p) u e v = record {
      level = l;
      count = omega (arith, a.size, length-append u (e ∷ v), length-append u v, length-rest_of k e (u ++ v), ap length c.rest);
      size = c.size;
      sign = c.sign;
    } in
    record {
      entries = u ++ (e ∷ v);
      shows =
          ap (λ (x : ℕ). window_from k n (identity (lanes k n)) (blocks k n (suc p) (x ∷ js))) (sym c.index)
          ∙ window_from_step js s (h.shows ∙ ap (λ (w : List ℤ). map pos (up 1 (suc p)) ++ w) (sym c.rest));
      again =
          indices_peeled k n (length js) u e v (omega arith) c.size
          (has_size_left (suc p) u v (subst (λ (w : List ℤ). has_size (suc p) w ≡ false) q new))
          ∙ ap₂ (λ (x : ℕ) (xs : List ℕ). x ∷ xs) c.index (ap (indices k n (length js) (suc (suc p))) c.rest ∙ h.again);
    }

shown_none : (k : Kind) (n p : ℕ) → p ≡ levels k n → Shown k n p []
unfolding window_from blocks indices
shown_none k n p h =
    record {
      entries = map pos (up (suc p) (lanes k n - p));
      shows = identity_cut (lanes k n) p (lanes k n - p) (omega (arith, levels_le_lanes k n));
      again = refl;
    }

shown_at_level : (k : Kind) (n p : ℕ) (js : List ℕ) → p ≤ levels k n → (h : Shown k n p js) → AtLevel k n (suc p) h.entries
shown_at_level k n p js l h =
    at_level_still p (omega arith) (omega arith) (omega arith)
    (at_level_of_accepted k n (map pos (up 1 p) ++ h.entries)
    (subst (Accepted k n) h.shows (window_from_accepted k n (identity (lanes k n)) (blocks k n (suc p) js) (identity_accepted k n))))

shown : (k : Kind) (n p : ℕ) {js : List ℕ} → Indices k n (suc p) js → Shown k n p js
shown k n p (none q) = shown_none k n p (omega arith)
shown k n p (level {j = j} {js = js} a b c d) =
    let h : Shown k n (suc p) js = shown k n (suc p) d in
    let f : AtLevel k n (suc (suc p)) h.entries = shown_at_level k n (suc p) js a h in
    shown_step k n p j js a h f (chosen k n p j h.entries b c (omega (arith, f.size)))

pub length_of_indices : (k : Kind) (n : ℕ) {i : ℕ} {js : List ℕ} → Indices k n i js → length js + i ≡ suc (levels k n)
length_of_indices k n (none q) = omega arith
length_of_indices k n (level a b c d) = omega (arith, length_of_indices k n d)

pub indices-window : (k : Kind) (n : ℕ) (js : List ℕ) → Indices k n 1 js → indices k n (levels k n) 1 (window k n (blocks k n 1 js)) ≡ js
unfolding window up
indices-window k n js h =
    let g : Shown k n 0 js = shown k n 0 h in
    let l : levels k n ≡ length js = omega (arith, length_of_indices k n h) in
    ap (indices k n (levels k n) 1) g.shows ∙ ap (λ (t : ℕ). indices k n t 1 g.entries) l ∙ g.again
