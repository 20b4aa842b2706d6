-- The numbers of lists of indices, level by level: with a level more they are those before it, shifted by each
-- length of a block of the level and added. The blocks of a level have the lengths 0, .., c in A, 0, .., 2 c + 1 in
-- B, and 0, .., c and c, .., 2 c in D, where c entries have a greater size; so each level is one running sum, and
-- in D one shifted sum more. (In the field's words, the Poincaré polynomial is a product of factors.)
-- Sections: shifted and running sums; each before each; the lengths of a level's blocks; one level more.
-- Assumes nothing.
use mathlib.Core.Path.{◌≡◌, refl, sym, ap, ap₂, ◌∙◌}
use mathlib.Core.Bool.{Bool, true, false}
use mathlib.Core.List.{List, [], ◌∷◌, ◌++◌, map, map-append, map-map}
use Prim.Native.Nat.{ℕ, zero, suc, ◌+◌, ◌-◌, ◌*◌, ◌≤◌, ◌<◌}
use native.Mathlib.Omega.{arith}
use native.Mathlib.Nat.{zero-add, sub-zero}
use borrow.Author.Tests.{lt-ltb, le-ltb, eqb-true, eqb-false, ltb-true, ltb-false, ne_eqb, eq-eqb}
use lib.Dec.{eqb, ltb}
use lib.ListN.{length, length-append}
use Rattle.coxeter.specs.declared.Kind.{Kind}
use Rattle.coxeter.specs.declared.Kind.TheVariants.{A, B, D}
use Rattle.coxeter.specs.Kinds.{pick, lanes, up}
use Rattle.coxeter.specs.NormalForm.{levels}
use Rattle.coxeter.specs.Length.{one}
use Rattle.coxeter.proofs.Basics.{pick_same, up-append}
use Rattle.coxeter.proofs.Lengths.{block_length}
use Rattle.coxeter.proofs.FormLaws.{block_lengths}
use Rattle.distribution.specs.AllWindows.{keep, cons_all}
use Rattle.distribution.specs.Distribution.{sum}
use Rattle.distribution.proofs.IndexLists.{level_indices, index_lists, count_indices}
use Rattle.distribution.proofs.Sums.{below, sum-append, up_snoc, times_of, times_of_cons}

-- ---- shifted and running sums

-- f shifted by b places
unfoldable pub shifted : ℕ → (ℕ → ℕ) → ℕ → ℕ
shifted b f l = pick (ltb l b) 0 (f (l - b))

-- f shifted by each of bs, added
unfoldable pub spread : List ℕ → (ℕ → ℕ) → ℕ → ℕ
spread bs f l = sum (map (λ b. shifted b f l) bs)

-- f l + f (l − 1) + .. + f (l − c), without those below 0
unfoldable pub running : ℕ → (ℕ → ℕ) → ℕ → ℕ
running c f l = spread (up 0 (suc c)) f l

pub shifted_lt : (b : ℕ) (f : ℕ → ℕ) (l : ℕ) → l < b → shifted b f l ≡ 0
unfolding shifted
shifted_lt b f l h = rw (lt-ltb l b h)

pub shifted_le : (b : ℕ) (f : ℕ → ℕ) (l : ℕ) → b ≤ l → shifted b f l ≡ f (l - b)
unfolding shifted
shifted_le b f l h = rw (le-ltb l b h)

pub shifted_same : (b : ℕ) (f g : ℕ → ℕ) (l : ℕ) → ((i : ℕ) → i ≤ l → f i ≡ g i) → shifted b f l ≡ shifted b g l
unfolding shifted
shifted_same b f g l h = ap (λ (x : ℕ). pick (ltb l b) 0 x) (h (l - b) (omega arith))

shifted_zero : (f : ℕ → ℕ) (l : ℕ) → shifted 0 f l ≡ f l
shifted_zero f l = shifted_le 0 f l (omega arith) ∙ ap f (sub-zero l)

shifted_add : (b : ℕ) (f g : ℕ → ℕ) (l : ℕ) → shifted b (λ i. f i + g i) l ≡ shifted b f l + shifted b g l
unfolding shifted
shifted_add b f g l = shifted_add_by_cases (ltb l b)
  where
    shifted_add_by_cases : (t : Bool) → pick t 0 (f (l - b) + g (l - b)) ≡ pick t 0 (f (l - b)) + pick t 0 (g (l - b))
    shifted_add_by_cases true = omega arith
    shifted_add_by_cases false = refl

shifted-shifted : (a b : ℕ) (f : ℕ → ℕ) (l : ℕ) → shifted a (shifted b f) l ≡ shifted (a + b) f l
shifted-shifted a b f l = shifted-shifted_by_cases (ltb l a) refl (ltb (l - a) b) refl
  where
    shifted-shifted_by_cases : (s : Bool) → ltb l a ≡ s → (t : Bool) → ltb (l - a) b ≡ t → shifted a (shifted b f) l ≡ shifted (a + b) f l
    shifted-shifted_by_cases true p t q = let h = ltb-true l a p in shifted_lt a (shifted b f) l h ∙ sym (shifted_lt (a + b) f l (omega arith))
    shifted-shifted_by_cases false p true q =
        let h = ltb-false l a p in
        let g = ltb-true (l - a) b q in
        shifted_le a (shifted b f) l h ∙ shifted_lt b f (l - a) g ∙ sym (shifted_lt (a + b) f l (omega arith))
    shifted-shifted_by_cases false p false q =
        let h = ltb-false l a p in
        let g = ltb-false (l - a) b q in
        let e : l - a - b ≡ l - (a + b) = omega arith in
        shifted_le a (shifted b f) l h ∙ shifted_le b f (l - a) g ∙ ap f e ∙ sym (shifted_le (a + b) f l (omega arith))

spread-append : (a b : List ℕ) (f : ℕ → ℕ) (l : ℕ) → spread (a ++ b) f l ≡ spread a f l + spread b f l
unfolding spread
spread-append a b f l =
    ap sum (map-append (λ x. shifted x f l) a b) ∙ sum-append (map (λ x. shifted x f l) a) (map (λ x. shifted x f l) b)

spread-one : (b : ℕ) (f : ℕ → ℕ) (l : ℕ) → spread (b ∷ []) f l ≡ shifted b f l
unfolding spread sum
spread-one b f l = omega arith

spread_snoc : (bs : List ℕ) (b : ℕ) (f : ℕ → ℕ) (l : ℕ) → spread (bs ++ (b ∷ [])) f l ≡ spread bs f l + shifted b f l
spread_snoc bs b f l = spread-append bs (b ∷ []) f l ∙ ap (λ (x : ℕ). spread bs f l + x) (spread-one b f l)

spread-up-suc : (b m : ℕ) (f : ℕ → ℕ) (l : ℕ) → spread (up b (suc m)) f l ≡ spread (up b m) f l + shifted (b + m) f l
spread-up-suc b m f l = ap (λ (bs : List ℕ). spread bs f l) (up_snoc b m) ∙ spread_snoc (up b m) (b + m) f l

-- a run of shifts from b on is one from 0 on, shifted by b
spread-up : (b m : ℕ) (f : ℕ → ℕ) (l : ℕ) → spread (up b m) f l ≡ shifted b (spread (up 0 m) f) l
spread-up b zero f l = unfold spread sum up shifted in sym (pick_same (ltb l b) 0)
spread-up b (suc m) f l =
    spread-up-suc b m f l
    ∙ ap₂ (λ (x y : ℕ). x + y) (spread-up b m f l) (sym (shifted-shifted b m f l))
    ∙ sym (shifted_add b (spread (up 0 m) f) (shifted m f) l)
    ∙ shifted_same b (λ i. spread (up 0 m) f i + shifted m f i) (spread (up 0 (suc m)) f) l
    (λ i o. sym (spread-up-suc 0 m f i ∙ ap (λ (x : ℕ). spread (up 0 m) f i + shifted x f i) (zero-add m)))

pub running-suc : (c : ℕ) (f : ℕ → ℕ) (l : ℕ) → running (suc c) f l ≡ running c f l + shifted (suc c) f l
unfolding running
running-suc c f l = spread-up-suc 0 (suc c) f l ∙ ap (λ (x : ℕ). spread (up 0 (suc c)) f l + shifted x f l) (zero-add (suc c))

pub running_zero : (f : ℕ → ℕ) (l : ℕ) → running 0 f l ≡ f l
unfolding running up
running_zero f l = spread-one 0 f l ∙ shifted_zero f l

-- f 0 + .. + f l
abbrev pub sum_to : (ℕ → ℕ) → ℕ → ℕ
sum_to f l = below f (suc l)

sum_to_step : (f : ℕ → ℕ) (l : ℕ) → sum_to f l ≡ f l + shifted 1 (sum_to f) l
unfolding below
sum_to_step f zero = rw (shifted_lt 1 (sum_to f) 0 (omega arith)) (omega arith)
sum_to_step f (suc l) = let e : suc l - 1 ≡ l = omega arith in rw (shifted_le 1 (sum_to f) (suc l) (omega arith), e) (omega arith)

-- a running sum is the difference of two sums from the start
pub sum_to-running : (c : ℕ) (f : ℕ → ℕ) (l : ℕ) → sum_to f l ≡ running c f l + shifted (suc c) (sum_to f) l
sum_to-running zero f l = rw (running_zero f l) (sum_to_step f l)
sum_to-running (suc c) f l =
    let next =
    shifted_same (suc c) (sum_to f) (λ i. f i + shifted 1 (sum_to f) i) l (λ i o. sum_to_step f i)
    ∙ shifted_add (suc c) f (shifted 1 (sum_to f)) l in
    let e : suc c + 1 ≡ suc (suc c) = omega arith in
    let last = shifted-shifted (suc c) 1 (sum_to f) l ∙ ap (λ (x : ℕ). shifted x (sum_to f) l) e in
    omega (arith, sum_to-running c f l, next, last, running-suc c f l)

running_same : (c : ℕ) (f g : ℕ → ℕ) (l : ℕ) → ((i : ℕ) → i ≤ l → f i ≡ g i) → running c f l ≡ running c g l
running_same zero f g l h = rw (running_zero f l, running_zero g l) (h l (omega arith))
running_same (suc c) f g l h =
    rw (running-suc c f l, running-suc c g l) (ap₂ (λ (x y : ℕ). x + y) (running_same c f g l h) (shifted_same (suc c) f g l h))

-- ---- each before each

keep_append : {X : Type 0} (t : X → Bool) (a b : List X) → keep t (a ++ b) ≡ keep t a ++ keep t b
unfolding keep
keep_append t [] b = refl
keep_append {X} t (x ∷ a) b = keep-append_by_cases (t x) (keep_append t a b)
  where
    keep-append_by_cases : (s : Bool) → keep t (a ++ b) ≡ keep t a ++ keep t b
        → pick s (x ∷ keep t (a ++ b)) (keep t (a ++ b)) ≡ pick s (x ∷ keep t a) (keep t a) ++ keep t b
    keep-append_by_cases true e = ap (λ (l : List X). x ∷ l) e
    keep-append_by_cases false e = e

length-keep-map : {X Y : Type 0} (t : Y → Bool) (f : X → Y) (l : List X) → length (keep t (map f l)) ≡ length (keep (λ x. t (f x)) l)
unfolding keep
length-keep-map t f [] = refl
length-keep-map t f (x ∷ l) = length-keep-map_by_cases (t (f x)) (length-keep-map t f l)
  where
    length-keep-map_by_cases : (s : Bool) → length (keep t (map f l)) ≡ length (keep (λ x. t (f x)) l)
        → length (pick s (f x ∷ keep t (map f l)) (keep t (map f l))) ≡ length (pick s (x ∷ keep (λ x. t (f x)) l) (keep (λ x. t (f x)) l))
    length-keep-map_by_cases true e = ap suc e
    length-keep-map_by_cases false e = e

length-keep-cons_all : {X : Type 0} (t : List X → Bool) (xs : List X) (ls : List (List X))
    → length (keep t (cons_all xs ls)) ≡ sum (map (λ x. length (keep (λ l. t (x ∷ l)) ls)) xs)
unfolding cons_all sum
length-keep-cons_all t [] ls = unfold keep in refl
length-keep-cons_all t (x ∷ xs) ls =
    ap length (keep_append t (map (λ l. x ∷ l) ls) (cons_all xs ls))
    ∙ length-append (keep t (map (λ l. x ∷ l) ls)) (keep t (cons_all xs ls))
    ∙ ap₂ (λ (a b : ℕ). a + b) (length-keep-map t (λ l. x ∷ l) ls) (length-keep-cons_all t xs ls)

-- the numbers of a measure with b added
one_shifted : (c b l : ℕ) → one (eqb (c + b) l) ≡ shifted b (λ i. one (eqb c i)) l
unfolding one
one_shifted c b l = one-shifted_by_cases (ltb l b) refl (eqb (c + b) l) refl
  where
    one-shifted_by_cases : (s : Bool) → ltb l b ≡ s → (t : Bool) → eqb (c + b) l ≡ t → pick t 1 0 ≡ shifted b (λ i. pick (eqb c i) 1 0) l
    one-shifted_by_cases true p true q = absurd (omega (arith, ltb-true l b p, eqb-true (c + b) l q))
    one-shifted_by_cases true p false q = sym (shifted_lt b (λ i. pick (eqb c i) 1 0) l (ltb-true l b p))
    one-shifted_by_cases false p true q =
        let h = ltb-false l b p in
        let g = eqb-true (c + b) l q in
        rw (shifted_le b (λ i. pick (eqb c i) 1 0) l h, eq-eqb c (l - b) (omega arith))
    one-shifted_by_cases false p false q =
        let h = ltb-false l b p in
        let g = eqb-false (c + b) l q in
        rw (shifted_le b (λ i. pick (eqb c i) 1 0) l h, ne_eqb c (l - b) (λ e. g (omega arith)))

times_of-shifted : {X : Type 0} (f : X → ℕ) (b : ℕ) (xs : List X) (l : ℕ) → times_of (λ x. f x + b) xs l ≡ shifted b (times_of f xs) l
times_of-shifted f b [] l = unfold times_of keep shifted in sym (pick_same (ltb l b) 0)
times_of-shifted f b (x ∷ xs) l =
    times_of_cons (λ x. f x + b) x xs l
    ∙ ap₂ (λ (y z : ℕ). y + z) (one_shifted (f x) b l) (times_of-shifted f b xs l)
    ∙ sym (shifted_add b (λ i. one (eqb (f x) i)) (times_of f xs) l)
    ∙ shifted_same b (λ i. one (eqb (f x) i) + times_of f xs i) (times_of f (x ∷ xs)) l (λ i o. sym (times_of_cons f x xs i))

sum-map_same : {X : Type 0} (f g : X → ℕ) (xs : List X) → ((x : X) → f x ≡ g x) → sum (map f xs) ≡ sum (map g xs)
unfolding sum
sum-map_same f g [] h = refl
sum-map_same f g (x ∷ xs) h = ap₂ (λ (a b : ℕ). a + b) (h x) (sum-map_same f g xs h)

-- a level more: shifted by the length of each of its blocks
count-block : (k : Kind) (n t i l j : ℕ) → times_of (λ js. block_lengths k n i (j ∷ js)) (index_lists k n t (suc i)) l
    ≡ shifted (block_length k n i j) (count_indices k n t (suc i)) l
unfolding block_lengths
count-block k n t i l j = times_of-shifted (block_lengths k n (suc i)) (block_length k n i j) (index_lists k n t (suc i)) l

count-spread : (k : Kind) (n t i l : ℕ)
    → count_indices k n (suc t) i l ≡ spread (map (block_length k n i) (level_indices k n i)) (count_indices k n t (suc i)) l
unfolding index_lists spread times_of
count-spread k n t i l =
    length-keep-cons_all (λ js. eqb (block_lengths k n i js) l) (level_indices k n i) (index_lists k n t (suc i))
    ∙ sum-map_same _ _ (level_indices k n i) (count-block k n t i l)
    ∙ ap sum (sym (map-map (λ b. shifted b (count_indices k n t (suc i)) l) (block_length k n i) (level_indices k n i)))

-- ---- the lengths of a level's blocks

map-up : (f : ℕ → ℕ) (a b m : ℕ) → ((j : ℕ) → a ≤ j → j < a + m → f j + a ≡ j + b) → map f (up a m) ≡ up b m
unfolding up
map-up f a b zero h = refl
map-up f a b (suc m) h =
    let e : f a ≡ b = omega (arith, h a (omega arith) (omega arith)) in
    ap₂ (λ (x : ℕ) (l : List ℕ). x ∷ l) e (map-up f (suc a) (suc b) m (λ j p q. omega (arith, h j (omega arith) (omega arith))))

-- the lengths of the blocks of a level with c greater sizes
abbrev pub lengths_of : Kind → ℕ → List ℕ
lengths_of A c = up 0 (suc c)
lengths_of B c = up 0 (suc (2 * c + 1))
lengths_of D c = up 0 (suc c) ++ up c (suc c)

pub level_lengths : (k : Kind) (n i c : ℕ) → 1 ≤ i → i ≤ levels k n → i + c ≡ lanes k n → map (block_length k n i) (level_indices k n i) ≡ lengths_of k c
unfolding level_indices
level_lengths A n i c o h e =
    let m : n + 2 - i ≡ suc c = omega arith in
    rw m (map-up (block_length A n i) (i - 1) 0 (suc c) (λ j p q. omega arith))
level_lengths B n i c o h e =
    let m : 2 * n - i + 2 - i ≡ suc (2 * c + 1) = omega arith in
    rw m (map-up (block_length B n i) (i - 1) 0 (suc (2 * c + 1)) (λ j p q. omega arith))
level_lengths D n i c o h e =
    let m : 2 * n - i + 2 - i ≡ suc c + suc c = omega arith in
    let s : i - 1 + suc c ≡ n = omega arith in
    rw (m, up-append (i - 1) (suc c) (suc c), s, map-append (block_length D n i) (up (i - 1) (suc c)) (up n (suc c)))
    (ap₂ (λ (a b : List ℕ). a ++ b)
    (map-up (block_length D n i) (i - 1) 0 (suc c) (λ j p q. rw (lt-ltb j n (omega arith)) (omega arith)))
    (map-up (block_length D n i) n c (suc c) (λ j p q. rw (le-ltb j n (omega arith)) (omega arith))))

-- ---- one level more

-- the factor of a level with c greater sizes
abbrev pub factor : Kind → ℕ → (ℕ → ℕ) → ℕ → ℕ
factor A c f l = running c f l
factor B c f l = running (2 * c + 1) f l
factor D c f l = running c f l + shifted c (running c f) l

spread-lengths_of : (k : Kind) (c : ℕ) (f : ℕ → ℕ) (l : ℕ) → spread (lengths_of k c) f l ≡ factor k c f l
unfolding running
spread-lengths_of A c f l = refl
spread-lengths_of B c f l = refl
spread-lengths_of D c f l =
    spread-append (up 0 (suc c)) (up c (suc c)) f l ∙ ap (λ (x : ℕ). spread (up 0 (suc c)) f l + x) (spread-up c (suc c) f l)

-- the numbers of the levels from i on, from those of the levels above it
pub count_level : (k : Kind) (n t i c l : ℕ) → 1 ≤ i → i ≤ levels k n → i + c ≡ lanes k n
    → count_indices k n (suc t) i l ≡ factor k c (count_indices k n t (suc i)) l
count_level k n t i c l o h e =
    count-spread k n t i l
    ∙ ap (λ (bs : List ℕ). spread bs (count_indices k n t (suc i)) l) (level_lengths k n i c o h e)
    ∙ spread-lengths_of k c (count_indices k n t (suc i)) l

pub factor_same : (k : Kind) (c : ℕ) (f g : ℕ → ℕ) (l : ℕ) → ((i : ℕ) → i ≤ l → f i ≡ g i) → factor k c f l ≡ factor k c g l
factor_same A c f g l h = running_same c f g l h
factor_same B c f g l h = running_same (2 * c + 1) f g l h
factor_same D c f g l h =
    ap₂ (λ (x y : ℕ). x + y) (running_same c f g l h)
    (shifted_same c (running c f) (running c g) l (λ i o. running_same c f g i (λ j p. h j (omega arith))))
