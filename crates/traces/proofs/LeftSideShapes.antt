-- The shapes that a left side may have: without its first letter it is a letter or a word of two blocks, so that no
-- rule fits into it. LeftSides.antt shows that each left side has one of them.
--
-- Sections: where a rule fits; the shapes.
-- Assumes nothing.
use mathlib.Core.Path.{◌≡◌, refl, sym, ap, ◌∙◌}
use mathlib.Core.Bool.{Bool, true, false, true≢false}
use mathlib.Core.List.{List, [], ◌∷◌, ◌++◌, Memᴰ}
use Prim.Native.Nat.{ℕ, zero, suc, ◌+◌, ◌*◌, ◌≤◌, ◌<◌}
use native.Mathlib.Decide.{dec_le}
use native.Mathlib.Omega.{arith}
use lib.Dec.{ltb}
use lib.ListN.{length, get_or, length-append, get_or-append}
use lib.Seq.{get_or-append_seam, get_or-append-add}
use borrow.Author.Tests.{lt-ltb, le-ltb}
use Rattle.coxeter.specs.declared.Kind.{Kind}
use Rattle.coxeter.specs.Kinds.{pick, least}
use Rattle.coxeter.specs.NormalForm.{block, levels, last_index}
use Rattle.coxeter.proofs.KindLaws.{levels_le}
use Rattle.coxeter.proofs.LetterRuns.{IsBlock}
use Rattle.rules.specs.Rules.{Rule, rules, fits, Irreducible}
use Rattle.rules.proofs.Irreducible.{block_first}
use Rattle.rules.proofs.Letters.{block_one}
use Rattle.rules.proofs.Fits.{fits_split, fits-past, left_nonempty}
use Rattle.rules.proofs.RuleList.{listed_of_mem}
use Rattle.rules.proofs.ScanFamilies.{ends_of_listed, left_of}
use Rattle.coxeter.proofs.CountedPairs.{mem_get_or}
use Rattle.rules.proofs.BlockWords.{two_blocks, block-at-least, block-short, block_nonempty, along_nonempty}

-- ---- where a rule fits

-- what fits lies wholly inside
pub fits_inside : (r : Rule) (u : List ℕ) (p : ℕ) → 1 ≤ length r.left → fits r u p ≡ true → p + length r.left ≤ length u
fits_inside r u p o e = elim (dec_le p (length u)) [
  | yes l ↦ let s = fits_split r u p l e in omega (arith, simp length-append at (ap length s.3), s.2)
  | no l ↦ absurd (true≢false (sym e ∙ fits-past r u p o (omega arith)))
]

-- ---- the shapes

-- the lower of two letters
abbrev pub lower : ℕ → ℕ → ℕ
lower l x = pick (ltb x l) x l

-- no rule fits after the first letter, which is the lower of the last two and below those before them, and there
-- are at most 2n letters
pub record Shape (k : Kind) (n : ℕ) (l : List ℕ) : Type 0 where
  pub first : ℕ
  pub tail : List ℕ
  pub is : l ≡ first ∷ tail
  pub irreducible : Irreducible (rules k n) tail
  pub long : 1 ≤ length tail
  pub short : suc (length tail) ≤ 2 * n
  pub lowest : (t : ℕ) → suc t ≡ length tail → first ≡ lower (get_or l t 0) (get_or l (suc t) 0)
  pub higher : (t : ℕ) → 1 ≤ t → t + 2 ≤ length tail → first < get_or l t 0

-- a left side has two letters or more
pub left_two : (k : Kind) (n : ℕ) → least k ≤ n → (r : Rule) → Memᴰ r (rules k n) → 2 ≤ length r.left
left_two k n h r m =
    let e = ends_of_listed k n h (listed_of_mem k n h r m) in
    rw (left_of k n r e.i e.j e.x e.f e.shape) (simp length-append (omega (arith, along_nonempty k n e.i e.j h e.along)))

-- no rule fits into one letter
one_irreducible : (k : Kind) (n : ℕ) → least k ≤ n → (x : ℕ) → Irreducible (rules k n) (x ∷ [])
one_irreducible k n h x r m p = not_fitting (fits r (x ∷ []) p) refl
  where
    not_fitting : (t : Bool) → fits r (x ∷ []) p ≡ t → t ≡ false
    not_fitting true e = absurd (omega (arith, left_two k n h r m, fits_inside r (x ∷ []) p (left_nonempty k n h r m) e))
    not_fitting false e = refl

-- two letters
pub shape_pair : (k : Kind) (n i x : ℕ) → least k ≤ n → 1 ≤ n → i ≤ x → Shape k n (i ∷ x ∷ [])
shape_pair k n i x h o g = record {
  first = i;
  tail = x ∷ [];
  is = refl;
  irreducible = one_irreducible k n h x;
  long = omega arith;
  short = omega arith;
  lowest = λ t e. let z : t ≡ 0 = omega arith in rw (z, le-ltb x i g);
  higher = λ t a b. absurd (omega arith);
}

-- the first letter again after higher ones
lowest_closed : (b : List ℕ) (i t : ℕ) → ((a : ℕ) → Memᴰ a b → i < a) → 1 ≤ length b → suc t ≡ length (b ++ (i ∷ []))
    → i ≡ lower (get_or (i ∷ (b ++ (i ∷ []))) t 0) (get_or (b ++ (i ∷ [])) t 0)
lowest_closed b i zero f o e = absurd (omega (arith, length-append b (i ∷ [])))
lowest_closed b i (suc t) f o e =
    let z : suc t ≡ length b = omega (arith, length-append b (i ∷ [])) in
    let last : get_or (b ++ (i ∷ [])) (suc t) 0 ≡ i = rw z (get_or-append_seam b i [] 0) in
    let before : get_or (b ++ (i ∷ [])) t 0 ≡ get_or b t 0 = get_or-append b (i ∷ []) 0 t (omega arith) in
    rw (last, before, lt-ltb i (get_or b t 0) (f (get_or b t 0) (mem_get_or b t 0 (omega arith))))

-- the first letter and a higher one
lowest-turned : (b : List ℕ) (i x t : ℕ) → i < x → suc t ≡ length (b ++ (i ∷ x ∷ []))
    → i ≡ lower (get_or (i ∷ (b ++ (i ∷ x ∷ []))) t 0) (get_or (b ++ (i ∷ x ∷ [])) t 0)
lowest-turned b i x zero h e = absurd (omega (arith, length-append b (i ∷ x ∷ [])))
lowest-turned b i x (suc t) h e =
    let z : t ≡ length b = omega (arith, length-append b (i ∷ x ∷ [])) in
    let y : suc t ≡ length b + 1 = omega arith in
    let last : get_or (b ++ (i ∷ x ∷ [])) (suc t) 0 ≡ x = rw y (get_or-append-add b (i ∷ x ∷ []) 1 0) in
    let before : get_or (b ++ (i ∷ x ∷ [])) t 0 ≡ i = rw z (get_or-append_seam b i (x ∷ []) 0) in
    rw (last, before, le-ltb x i (omega arith))

-- higher letters behind the first
higher_inside : (b c : List ℕ) (i t : ℕ) → ((a : ℕ) → Memᴰ a b → i < a) → 1 ≤ t → t ≤ length b → i < get_or (i ∷ (b ++ c)) t 0
higher_inside b c i zero f o l = absurd (omega arith)
higher_inside b c i (suc t) f o l = rw (get_or-append b c 0 t l) (f (get_or b t 0) (mem_get_or b t 0 l))

module _ (k : Kind) (n i j : ℕ) (h : least k ≤ n) (o : 1 ≤ i) (g : i < levels k n) (m : j ≤ last_index k n (suc i)) where
  abbrev inner : List ℕ
  inner = block k n (suc i) j

  -- a block and its first letter again
  pub shape_closed : suc i ≤ j → Shape k n (i ∷ (inner ++ (i ∷ [])))
  shape_closed l =
      let b = levels_le k n in
      let c : IsBlock k n (suc i) j = omega arith in
      record {
        first = i;
        tail = inner ++ (i ∷ []);
        is = refl;
        irreducible = rw (block_one k n i h (omega arith)) at (two_blocks h c (block_first k n i o (omega arith)));
        long = simp length-append (omega arith);
        short = simp length-append (omega (arith, block-short k n (suc i) j (omega arith) g m));
        lowest = λ t e.
            lowest_closed inner i t (block-at-least k n (suc i) j (omega arith) g m) (block_nonempty k n (suc i) j (omega arith) g l m) e;
        higher = λ t a e.
            higher_inside inner (i ∷ []) i t (block-at-least k n (suc i) j (omega arith) g m) a (omega (arith, length-append inner (i ∷ [])));
      }

  -- a block that came back to its first letter, and a letter that can follow it
  pub shape_turned : (x z : ℕ) → i < x → i ≤ j → i ≤ z → z ≤ last_index k n i → block k n i z ≡ i ∷ x ∷ [] → Shape k n (i ∷ (inner ++ (i ∷ x ∷ [])))
  shape_turned x z a l c d f =
      let p : IsBlock k n (suc i) j = omega arith in
      let q : IsBlock k n i z = omega arith in
      record {
        first = i;
        tail = inner ++ (i ∷ x ∷ []);
        is = refl;
        irreducible = rw f at (two_blocks h p q);
        long = simp length-append (omega arith);
        short = simp length-append (omega (arith, block-short k n (suc i) j (omega arith) g m));
        lowest = λ t e. lowest-turned inner i x t a e;
        higher = λ t b e.
            higher_inside inner (i ∷ x ∷ []) i t (block-at-least k n (suc i) j (omega arith) g m) b (omega (arith, length-append inner (i ∷ x ∷ [])));
      }
