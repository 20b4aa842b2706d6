-- Runs of letters, half open: `span i c` is i, .., c − 1 and `slide c i` is c − 1, .., i; and the blocks of the
-- three kinds in these terms. All list reasoning about blocks goes through the laws of this file.
-- Assumes nothing.
use mathlib.Core.Path.{◌≡◌, refl, sym, ap, ap₂, ◌∙◌}
use mathlib.Core.List.{List, [], ◌∷◌, ◌++◌, append_assoc}
use Prim.Native.Nat.{ℕ, zero, suc, ◌+◌, ◌-◌, ◌*◌, ◌≤◌, ◌<◌}
use native.Mathlib.Nat.{lt_of_not-le}
use native.Mathlib.Decide.{dec_le}
use native.Mathlib.Omega.{arith}
use lib.Dec.{leb}
use borrow.Author.Tests.{le-leb, lt-leb, lt-ltb, le-ltb}
use lib.ListN.{length}
use Rattle.coxeter.specs.declared.Kind.{Kind}
use Rattle.coxeter.specs.declared.Kind.TheVariants.{A, B, D}
use Rattle.coxeter.specs.Kinds.{pick, up}
use Rattle.coxeter.proofs.Basics.{length_up, up-append}
use Rattle.coxeter.specs.NormalForm.{down, rise, fall, block, levels, last_index}

unfoldable pub span : ℕ → ℕ → List ℕ
span i c = up i (c - i)

unfoldable pub slide : ℕ → ℕ → List ℕ
slide c i = down (c - 1) (c - i)

pub span_nil : (i c : ℕ) → c ≤ i → span i c ≡ []
unfolding span up
span_nil i c h = let e : c - i ≡ 0 = omega arith in rw e

pub span_cons : (i c : ℕ) → i < c → span i c ≡ i ∷ span (suc i) c
unfolding span up
span_cons i c h = let e : c - i ≡ suc (c - suc i) = omega arith in rw e

pub span-one : (i c : ℕ) → i + 1 ≡ c → span i c ≡ i ∷ []
span-one i c e = span_cons i c (omega arith) ∙ ap (λ (l : List ℕ). i ∷ l) (span_nil (suc i) c (omega arith))

pub span_cut : (i b c : ℕ) → i ≤ b → b ≤ c → span i c ≡ span i b ++ span b c
unfolding span
span_cut i b c h g =
    let e : c - i ≡ (b - i) + (c - b) = omega arith in
    let f : i + (b - i) ≡ b = omega arith in
    ap (up i) e ∙ up-append i (b - i) (c - b) ∙ ap (λ (a : ℕ). up i (b - i) ++ up a (c - b)) f

pub span_snoc : (i c : ℕ) → i ≤ c → span i (suc c) ≡ span i c ++ (c ∷ [])
span_snoc i c h =
    span_cut i c (suc c) h (omega arith)
    ∙ ap (λ (l : List ℕ). span i c ++ l) (span-one c (suc c) (omega arith))

pub length-span : (i c : ℕ) → length (span i c) ≡ c - i
unfolding span
length-span i c = length_up i (c - i)

pub slide_nil : (c i : ℕ) → c ≤ i → slide c i ≡ []
unfolding slide down
slide_nil c i h = let e : c - i ≡ 0 = omega arith in rw e

pub slide_cons : (c i : ℕ) → i ≤ c → slide (suc c) i ≡ c ∷ slide c i
unfolding slide down
slide_cons c i h =
    let e : suc c - i ≡ suc (c - i) = omega arith in
    let f : suc c - 1 ≡ c = omega arith in
    rw (e, f)

pub slide-one : (c i : ℕ) → i + 1 ≡ c → slide c i ≡ i ∷ []
slide-one c i e =
    let q : c ≡ suc i = omega arith in
    ap (λ (a : ℕ). slide a i) q ∙ slide_cons i i (omega arith) ∙ ap (λ (l : List ℕ). i ∷ l) (slide_nil i i (omega arith))

slide_cut : (c b i : ℕ) → i ≤ b → b ≤ c → slide c i ≡ slide c b ++ slide b i
slide_cut c b i h g = cut (c - b) c h (omega arith)
  where
    cut : (t c : ℕ) → i ≤ b → c ≡ b + t → slide c i ≡ slide c b ++ slide b i
    cut zero c h e = let q : c ≡ b = omega arith in ap (λ (a : ℕ). slide a i) q ∙ sym (ap (λ (l : List ℕ). l ++ slide b i) (slide_nil c b (omega arith)))
    cut (suc t) c h e =
        let q : c ≡ suc (b + t) = omega arith in
        ap (λ (a : ℕ). slide a i) q
        ∙ slide_cons (b + t) i (omega arith)
        ∙ ap (λ (l : List ℕ). (b + t) ∷ l) (cut t (b + t) h refl)
        ∙ sym (ap (λ (l : List ℕ). l ++ slide b i) (ap (λ (a : ℕ). slide a b) q ∙ slide_cons (b + t) b (omega arith)))

pub slide_snoc : (c i : ℕ) → i < c → slide c i ≡ slide c (suc i) ++ (i ∷ [])
slide_snoc c i h =
    slide_cut c (suc i) i (omega arith) h
    ∙ ap (λ (l : List ℕ). slide c (suc i) ++ l) (slide-one (suc i) i (omega arith))

length-down : (i k : ℕ) → length (down i k) ≡ k
unfolding down
length-down i zero = refl
length-down i (suc k) = ap suc (length-down (i - 1) k)

pub length-slide : (c i : ℕ) → length (slide c i) ≡ c - i
unfolding slide
length-slide c i = length-down (c - 1) (c - i)

pub rise-span : (i j : ℕ) → rise i j ≡ span i (suc j)
unfolding rise span
rise-span i j = refl

pub fall-slide : (i j : ℕ) → fall i j ≡ slide (suc i) j
unfolding fall slide
fall-slide i j = let e : suc i - 1 ≡ i = omega arith in rw e

-- [i,j] is a block of level i, empty if j = i − 1
pub record IsBlock (k : Kind) (n i j : ℕ) : Type 0 where
  pub positive : 1 ≤ i
  pub level : i ≤ levels k n
  pub at_least : i ≤ suc j
  pub at_most : j ≤ last_index k n i

-- the last letter of a block's way up is c − 1; after it come n and the way down
abbrev pub Corner : Kind → ℕ → ℕ → Type 0
Corner A n c = c ≡ n
Corner B n c = c ≡ n
Corner D n c = c + 1 ≡ n

pub corner_le : (k : Kind) (n c : ℕ) → Corner k n c → c ≤ n
corner_le A n c e = omega arith
corner_le B n c e = omega arith
corner_le D n c e = omega arith

-- before the turn
pub block_up : (k : Kind) (n i j : ℕ) → j < n → block k n i j ≡ span i (suc j)
unfolding block
block_up A n i j h = rise-span i j
block_up B n i j h = rw (le-leb j n (omega arith)) (rise-span i j)
block_up D n i j h = rw (lt-ltb j n h) (rise-span i j)

rise-top : (n i j d : ℕ) → i ≤ n → j ≡ n → d ≡ n → rise i j ≡ span i n ++ slide (suc n) d
rise-top n i j d h e f =
    let a : suc j ≡ suc n = omega arith in
    rise-span i j ∙ ap (span i) a ∙ span_snoc i n h
    ∙ sym (ap (λ (l : List ℕ). span i n ++ l) (slide-one (suc n) d (omega arith) ∙ ap (λ (a : ℕ). a ∷ []) f))

only_top : (n c d : ℕ) → c ≡ n → d ≡ n → slide (suc n) d ≡ c ∷ []
only_top n c d e f = slide-one (suc n) d (omega arith) ∙ ap (λ (a : ℕ). a ∷ []) (omega arith)

down-from-top : (n j d : ℕ) → d + j ≡ 2 * n → 1 ≤ n → n ≤ j → n ∷ fall (n - 1) (2 * n - j) ≡ slide (suc n) d
down-from-top n j d q o g =
    let a : suc (n - 1) ≡ n = omega arith in
    let b : 2 * n - j ≡ d = omega arith in
    ap (λ (l : List ℕ). n ∷ l) (fall-slide (n - 1) (2 * n - j) ∙ ap₂ slide a b) ∙ sym (slide_cons n d (omega arith))

-- after it: up to below the last level, then from n down to d = 2n − j
pub block_turn : {k : Kind} {n i j : ℕ} (d : ℕ) → IsBlock k n i j → n ≤ j → d + j ≡ 2 * n → block k n i j ≡ span i (levels k n) ++ slide (suc n) d
unfolding block
block_turn {k = A} {n} {i} {j} d b g q = rise-top n i j d b.level (omega arith) (omega arith)
block_turn {k = B} {n} {i} {j} d b g q = elim (dec_le j n) [ yes t ↦ identity t | no t ↦ turned (lt_of_not-le t) ]
  where
    identity : j ≤ n → pick (leb j n) (rise i j) (rise i n ++ fall (n - 1) (2 * n - j)) ≡ span i n ++ slide (suc n) d
    identity t = rw (le-leb j n t) (rise-top n i j d b.level (omega arith) (omega arith))

    turned : n < j → pick (leb j n) (rise i j) (rise i n ++ fall (n - 1) (2 * n - j)) ≡ span i n ++ slide (suc n) d
    turned t =
        rw (lt-leb j n t)
        (ap (λ (l : List ℕ). l ++ fall (n - 1) (2 * n - j)) (rise-span i n ∙ span_snoc i n b.level)
        ∙ append_assoc (span i n) (n ∷ []) (fall (n - 1) (2 * n - j))
        ∙ ap (λ (l : List ℕ). span i n ++ l) (down-from-top n j d q (omega arith) g))
block_turn {k = D} {n} {i} {j} d b g q =
    let a : suc (n - 2) ≡ n - 1 = omega arith in
    rw (le-ltb j n g)
    (ap (λ (l : List ℕ). l ++ (n ∷ fall (n - 1) (2 * n - j))) (rise-span i (n - 2) ∙ ap (span i) a)
    ∙ ap (λ (l : List ℕ). span i (n - 1) ++ l) (down-from-top n j d q (omega arith) g))
