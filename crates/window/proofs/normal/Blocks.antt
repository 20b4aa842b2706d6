-- Runs of letters up and down, stored one letter a turn of a loop, and the blocks as such runs.
--
-- Sections: letters up and down; blocks as runs.
-- Assumes nothing.
use mathlib.Core.Path.{◌≡◌, refl, sym, ap, ◌∙◌}
use mathlib.Core.Logic.{◌⊎◌, ⊎_elim}
use mathlib.Core.List.{List, [], ◌∷◌, ◌++◌, append-nil, append_assoc}
use Prim.Native.Nat.{ℕ, zero, suc, ◌+◌, ◌-◌, ◌*◌, ◌≤◌, ◌<◌}
use native.Mathlib.Nat.{lt_of_not-le}
use native.Mathlib.Decide.{dec_le}
use native.Mathlib.Numerals.{add-one}
use native.Mathlib.Omega.{arith}
use lib.ListN.{length, length-drop, take, drop, set}
use lib.Seq.{take-suc-set, take_all, length-take-le, drop-drop, sets, sets-eq}
use borrow.Rule.Slice.PartMut.{put_mid}
use borrow.Author.Tests.{le-leb, lt-leb, le-ltb}
use Rattle.coxeter.specs.declared.Kind.{Kind}
use Rattle.coxeter.specs.declared.Kind.TheVariants.{B, D}
use Rattle.coxeter.specs.Kinds.{least}
use Rattle.coxeter.specs.NormalForm.{down, rise, fall, block}
use Rattle.coxeter.proofs.LetterRuns.{slide, fall-slide, slide_cons, slide_nil}
use Rattle.coxeter.proofs.LetterRuns.{rise-span, span_cons, span_nil}
use Rattle.coxeter.proofs.Lists.{Stored, Storing, stored_of_storing}

-- ---- letters up and down

length_down : (b n : ℕ) → length (down b n) ≡ n
unfolding down
length_down b zero = refl
length_down b (suc n) = ap (λ (x : ℕ). suc x) (length_down (b - 1) n)

pub down-fall : (b a n : ℕ) → n ≡ b + 1 - a → down b n ≡ fall b a
unfolding fall
down-fall b a n e = ap (down b) (omega arith)

pub length-fall : (b a : ℕ) → length (fall b a) ≡ b + 1 - a
unfolding fall
length-fall b a = length_down b (suc b - a) ∙ omega arith

down_snoc : (b i : ℕ) → down b (suc i) ≡ down b i ++ ((b - i) ∷ [])
unfolding down
down_snoc b zero = let e : b - 0 ≡ b = omega arith in rw e
down_snoc b (suc i) = let e : b - 1 - i ≡ b - suc i = omega arith in ap (λ (l : List ℕ). b ∷ l) (down_snoc (b - 1) i ∙ rw e)

module _ {o : List ℕ} {at : ℕ} {u out : List ℕ} {r : ℕ} where
  pub storing_up : {x b : ℕ} → x ≤ b → Storing o at u out r (rise x b) → Storing o at u out r (x ∷ rise (x + 1) b)
  storing_up {x} {b} l h = rw (rise-span, add-one) (rw (rise-span, span_cons x (suc b) (omega arith)) at h)

  pub stored_up : {x b : ℕ} → b < x → Storing o at u out r (rise x b) → Stored o at u out r
  stored_up {x} {b} l h = stored_of_storing (rw (rise-span, span_nil x (suc b) l) at h)

-- one letter more at the end
pub down_next : (b i : ℕ) {x : ℕ} (part : List ℕ) → i < length part → x ≡ b - i → take i part ≡ down b i → take (i + 1) (set part i x) ≡ down b (i + 1)
down_next b i part l e h = rw (e, add-one i, down_snoc b i, ← h) (take-suc-set part i (b - i) l)

-- how long a part of `out` is that has room for n letters
pub part_long : (out : List ℕ) (at k n : ℕ) → at + n ≤ length out → k ≡ n → length (take k (drop at out)) ≡ n
part_long out at k n room e = rw e (length-take-le n (drop at out) (rw length-drop (omega arith)))

-- that part after the letters u were stored in it
pub stored_in_part : (out part u : List ℕ) (at k i : ℕ) → at + length u ≤ length out → k ≡ length u → length part ≡ length u → length part ≤ i → take i part ≡ u
    → put_mid at k out part ≡ sets out at u
stored_in_part out part u at k i room size long full h =
    let e : part ≡ u = sym (take_all i part full) ∙ h in
    rw (e, size, drop-drop (length u) at out) (sym (sets-eq u out at room ∙ append_assoc (take at out) u (drop (at + length u) out)))

-- ---- blocks as runs

pub two_le : (k : Kind) (n : ℕ) → (k ≡ B) ⊎ (k ≡ D) → least k ≤ n → 2 ≤ n
two_le k n h l = ⊎_elim (λ e. let m : least B ≤ n = rw e at l in m) (λ e. let m : least D ≤ n = rw e at l in omega arith) h

pub block-two : (k : Kind) (n i j : ℕ) → k ≡ B → least k ≤ n → n ≤ j → block k n i j ≡ rise i n ++ fall (n - 1) (2 * n - j)
unfolding block
block-two k n i j e l h = rw e (elim (dec_le j n) [ yes t ↦ rw (le-leb j n t) (identity t) | no t ↦ rw (lt-leb j n (lt_of_not-le t)) ])
  where
    o : 2 ≤ n
    o = rw e at l

    identity : j ≤ n → rise i j ≡ rise i n ++ fall (n - 1) (2 * n - j)
    identity t =
        let q : j ≡ n = omega arith in
        let z : fall (n - 1) (2 * n - j) ≡ [] = fall-slide (n - 1) (2 * n - j) ∙ slide_nil (suc (n - 1)) (2 * n - j) (omega (arith, o)) in
        ap (rise i) q ∙ sym (ap (λ (u : List ℕ). rise i n ++ u) z ∙ append-nil (rise i n))

pub block_three : (k : Kind) (n i j : ℕ) → k ≡ D → least k ≤ n → n ≤ j → block k n i j ≡ rise i (n - 2) ++ fall n (2 * n - j)
unfolding block
block_three k n i j e l h =
    let o : 4 ≤ n = rw e at l in
    let p : suc (n - 1) ≡ n = omega arith in
    let d : ℕ = 2 * n - j in
    let below : fall (n - 1) d ≡ slide n d = fall-slide (n - 1) d ∙ ap (λ (y : ℕ). slide y d) p in
    rw (e, le-ltb j n h, below, fall-slide n d, slide_cons n d (omega arith))
