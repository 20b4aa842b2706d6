-- Every rule lowers the measure `value` and is earlier by shortlex, in every context, and brings in no new letter:
-- a rule drops a letter twice, or puts a higher letter first and keeps the length.
--
-- Sections: what a rule does to its left side; letters; the measure; the dictionary.
-- Assumes nothing.
use mathlib.Core.Path.{◌≡◌, refl, ◌∙◌}
use mathlib.Core.Bool.{true, false}
use mathlib.Core.Logic.{⊎_elim}
use mathlib.Core.List.Memᴰ
use mathlib.Core.List.{List, [], ◌∷◌, ◌++◌, Memᴰ}
use Prim.Native.Nat.{ℕ, suc, ◌+◌, ◌-◌, ◌*◌, ◌≤◌, ◌<◌}
use native.Mathlib.Nat.{suc-mul, mul-le-mul_right, le-mul_of_pos_right}
use native.Mathlib.Numerals.{add-one}
use native.Mathlib.Omega.{arith}
use lib.ListN.{length, length-append}
use Rattle.coxeter.specs.declared.Kind.{Kind}
use Rattle.coxeter.specs.NormalForm.{block}
use Rattle.coxeter.specs.Checks.{wrong_letter}
use Rattle.coxeter.specs.Dictionary.{before, shortlex}
use Rattle.rules.proofs.Families.{RuleOf, square, commutation, carry, turn, five, six, seven}
use Rattle.rules.proofs.Letters.{carries_carried, TurnedBlock, wide, narrow, turns_turned}
use Rattle.coxeter.proofs.Relations.{apart_commuting, wrong_letter_cons}
use Rattle.coxeter.proofs.Order.{before_higher, before_cons, shortlex_shorter, shortlex-before}
use Rattle.coxeter.proofs.LetterLaws.{letter_within_cons}

-- ---- what a rule does to its left side

-- r is l without a letter that stood twice, or has l's length and a higher first letter
pub data Lowered : List ℕ → List ℕ → Type 0 where
  dropped : {i : ℕ} → Lowered (i ∷ i ∷ []) []
  raised : {a b : ℕ} {s t : List ℕ} → length s ≡ length t → a < b → Lowered (a ∷ s) (b ∷ t)

-- a block moved past a letter above its first
block-lowered : (i a b : ℕ) (u w : List ℕ) → w ≡ i ∷ u → i < b → Lowered (w ++ (a ∷ [])) (b ∷ w)
block-lowered i a b u w e h = rw e (raised {a = i} {b = b} {s = u ++ (a ∷ [])} {t = i ∷ u} (length-append u (a ∷ []) ∙ add-one (length u)) h)

turned_first : {k : Kind} {n i : ℕ} → TurnedBlock k n i → (u : List ℕ) × (block k n i (2 * n - i) ≡ i ∷ u)
turned_first (wide u e c h l) = (_, e)
turned_first (narrow e h l) = (_, e)

pub rule-lowered : {k : Kind} {n : ℕ} {l r : List ℕ} → RuleOf k n l r → Lowered l r
rule-lowered (square o l) = dropped
rule-lowered {k} {n} (commutation {i} {j} o l g) = raised refl (apart_commuting k n i j g).0
rule-lowered {k} {n} (carry {i} {j} o l g) = block-lowered i i (i + 1) _ (block k n i j) (carries_carried k n i j o l g).shape (omega arith)
rule-lowered {k} {n} (turn {i} o g) =
    let s = turned_first (turns_turned k n i o g) in
    block-lowered i (i + 1) (i + 1) s.0 (block k n i (2 * n - i)) s.1 (omega arith)
rule-lowered {n} (five {a} d e) = raised {a = a} {b = n} refl (omega arith)
rule-lowered {n} (six {a} d e) = raised {a = a} {b = a + 1} refl (omega arith)
rule-lowered {n} (seven {a} d e) = raised {a = a} {b = n} refl (omega arith)

-- ---- letters

-- every letter of r stands in l
abbrev Within : List ℕ → List ℕ → Type 0
Within r l = (a : ℕ) → Memᴰ a r → Memᴰ a l

within_nil : (l : List ℕ) → Within [] l
within_nil l a m = absurd (Memᴰ.not-nil m)

within_cons : {b : ℕ} (r : List ℕ) {l : List ℕ} → Memᴰ b l → Within r l → Within (b ∷ r) l
within_cons r h g a m = ⊎_elim (λ e. Memᴰ.cast e h) (g a) (Memᴰ.cases_cons m)

first : {a : ℕ} {u : List ℕ} → Memᴰ a (a ∷ u)
first = Memᴰ.head refl

second : {a b : ℕ} {u : List ℕ} → Memᴰ b (a ∷ b ∷ u)
second = Memᴰ.tail first

third : {a b c : ℕ} {u : List ℕ} → Memᴰ c (a ∷ b ∷ c ∷ u)
third = Memᴰ.tail second

rule_within : (k : Kind) (n : ℕ) {l r : List ℕ} → RuleOf k n l r → Within r l
rule_within k n (square o l) = within_nil _
rule_within k n (commutation o l g) = within_cons _ second (within_cons _ first (within_nil _))
rule_within k n (carry {i} {j} o l g) =
    within_cons _ (Memᴰ.append_left {s = block k n i j} _ (rw (carries_carried k n i j o l g).shape second)) (λ a m. Memᴰ.append_left _ m)
rule_within k n (turn {i} o g) = within_cons _ (Memᴰ.append_right (block k n i (2 * n - i)) first) (λ a m. Memᴰ.append_left _ m)
rule_within k n (five d e) =
    within_cons _ second (within_cons _ first (within_cons _ second (within_nil _)))
rule_within k n (six d e) =
    within_cons _ third (within_cons _ first (within_cons _ second (within_cons _ third (within_cons _ first (within_nil _)))))
rule_within k n (seven d e) =
    within_cons _ second (within_cons _ first (within_cons _ second (within_cons _ third (within_cons _ first (within_nil _)))))

-- the letters of an accepted word are steps
pub letters_of_accepted : (n : ℕ) (u : List ℕ) → wrong_letter n u ≡ false → (a : ℕ) → Memᴰ a u → (1 ≤ a) × (a ≤ n)
letters_of_accepted n [] e a m = absurd (Memᴰ.not-nil m)
letters_of_accepted n (s ∷ u) e a m =
    let h = letter_within_cons n s u e in
    ⊎_elim (λ q. omega arith) (letters_of_accepted n u h.2 a) (Memᴰ.cases_cons m)

pub accepted_of_letters : (n : ℕ) (u : List ℕ) → ((a : ℕ) → Memᴰ a u → (1 ≤ a) × (a ≤ n)) → wrong_letter n u ≡ false
unfolding wrong_letter
accepted_of_letters n [] h = refl
accepted_of_letters n (s ∷ u) h =
    let g = h s first in
    wrong_letter_cons n s u g.0 g.1 ∙ accepted_of_letters n u (λ a m. h a (Memᴰ.tail m))

-- a rule brings in no new letter
pub rule-letters : {k : Kind} {n : ℕ} {l r : List ℕ} → RuleOf k n l r → (x y : List ℕ) {a : ℕ} → Memᴰ a (x ++ (r ++ y)) → Memᴰ a (x ++ (l ++ y))
rule-letters {k} {n} {l} {r} q x y {a} m =
    ⊎_elim (λ s. Memᴰ.append_left (l ++ y) s)
    (λ s. Memᴰ.append_right x (⊎_elim (λ t. Memᴰ.append_left y (rule_within k n q a t)) (λ t. Memᴰ.append_right l t) (Memᴰ.append_cases r s)))
    (Memᴰ.append_cases x m)

-- rewriting an accepted word gives one
pub accepted_rewritten : {k : Kind} {n : ℕ} {l r : List ℕ} → RuleOf k n l r → (x y : List ℕ) → wrong_letter n (x ++ (l ++ y)) ≡ false
    → wrong_letter n (x ++ (r ++ y)) ≡ false
accepted_rewritten {k} {n} {l} {r} q x y e =
    accepted_of_letters n (x ++ (r ++ y)) (λ a m. letters_of_accepted n (x ++ (l ++ y)) e a (rule-letters q x y m))

-- ---- the measure

-- a word as digits n + 1 − letter to base n + 1, after the digits of acc
unfoldable pub value_from : ℕ → ℕ → List ℕ → ℕ
value_from n acc [] = acc
value_from n acc (s ∷ u) = value_from n (acc * (n + 1) + (n + 1 - s)) u

unfoldable pub value : ℕ → List ℕ → ℕ
value n u = value_from n 0 u

pub value_from-append : (n acc : ℕ) (x u : List ℕ) → value_from n acc (x ++ u) ≡ value_from n (value_from n acc x) u
unfolding value_from
value_from-append n acc [] u = refl
value_from-append n acc (s ∷ x) u = value_from-append n (acc * (n + 1) + (n + 1 - s)) x u

-- a smaller start counts for more than the digits after it
pub value_from_lt : (n a b : ℕ) (t s : List ℕ) → length s ≡ length t → ((x : ℕ) → Memᴰ x t → 1 ≤ x) → a < b → value_from n a t < value_from n b s
unfolding value_from
value_from_lt n a b [] [] e h l = l
value_from_lt n a b [] (y ∷ s) e h l = absurd (let z : suc (length s) ≡ 0 = e in omega arith)
value_from_lt n a b (x ∷ t) [] e h l = absurd (let z : 0 ≡ suc (length t) = e in omega arith)
value_from_lt n a b (x ∷ t) (y ∷ s) e h l =
    let o = h x first in
    let g : a * (n + 1) + (n + 1) ≤ b * (n + 1) = rw suc-mul at (mul-le-mul_right (n + 1) l) in
    value_from_lt n (a * (n + 1) + (n + 1 - x)) (b * (n + 1) + (n + 1 - y)) t s (let z : suc (length s) ≡ suc (length t) = e in omega arith)
    (λ c m. h c (Memᴰ.tail m))
    (omega arith)

lowered-value : (n : ℕ) {l r : List ℕ} → Lowered l r → (acc : ℕ) (y : List ℕ) → ((a : ℕ) → Memᴰ a (l ++ y) → (1 ≤ a) × (a ≤ n))
    → ((a : ℕ) → Memᴰ a (r ++ y) → (1 ≤ a) × (a ≤ n)) → value_from n acc (r ++ y) < value_from n acc (l ++ y)
unfolding value_from
lowered-value n (dropped {i}) acc y h g =
    let o = h i first in
    let p = acc * (n + 1) + (n + 1 - i) in
    let f = le-mul_of_pos_right {m = n + 1} acc (omega arith) in
    let d = le-mul_of_pos_right {m = n + 1} p (omega arith) in
    value_from_lt n acc (p * (n + 1) + (n + 1 - i)) y y refl (λ a m. (g a m).0) (omega arith)
lowered-value n (raised {a} {b} {s} {t} e l) acc y h g =
    let o = h a first in
    value_from_lt n (acc * (n + 1) + (n + 1 - b)) (acc * (n + 1) + (n + 1 - a)) (t ++ y) (s ++ y)
    (simp length-append (omega arith))
    (λ c m. (g c (Memᴰ.tail m)).0)
    (omega arith)

-- every rule lowers the measure in every context
pub rule_lowers : {k : Kind} {n : ℕ} {l r : List ℕ} → RuleOf k n l r → (x y : List ℕ) → wrong_letter n (x ++ (l ++ y)) ≡ false
    → value n (x ++ (r ++ y)) < value n (x ++ (l ++ y))
unfolding value
rule_lowers {k} {n} {l} {r} q x y e =
    rw (value_from-append n 0 x (r ++ y), value_from-append n 0 x (l ++ y))
    (lowered-value n (rule-lowered q) (value_from n 0 x) y
    (λ a m. letters_of_accepted n (x ++ (l ++ y)) e a (Memᴰ.append_right x m))
    (λ a m. letters_of_accepted n (x ++ (r ++ y)) (accepted_rewritten q x y e) a (Memᴰ.append_right x m)))

-- ---- the dictionary

pub before-append : (x u v : List ℕ) → before (x ++ u) (x ++ v) ≡ before u v
before-append [] u v = refl
before-append (a ∷ x) u v = before_cons a (x ++ u) (x ++ v) ∙ before-append x u v

lowered-shortlex : {l r : List ℕ} → Lowered l r → (x y : List ℕ) → shortlex (x ++ (r ++ y)) (x ++ (l ++ y)) ≡ true
lowered-shortlex (dropped {i}) x y = shortlex_shorter (x ++ y) (x ++ (i ∷ i ∷ y)) (simp length-append (omega arith))
lowered-shortlex (raised {a} {b} {s} {t} e l) x y =
    shortlex-before (x ++ (b ∷ (t ++ y))) (x ++ (a ∷ (s ++ y))) (simp length-append (omega arith))
    (before-append x (b ∷ (t ++ y)) (a ∷ (s ++ y)) ∙ before_higher b a (t ++ y) (s ++ y) l)

-- a rule's right side in place of its left one is shorter, or as long and earlier in the dictionary
pub rule-shortlex : {k : Kind} {n : ℕ} {l r : List ℕ} → RuleOf k n l r → (x y : List ℕ) → shortlex (x ++ (r ++ y)) (x ++ (l ++ y)) ≡ true
rule-shortlex q x y = lowered-shortlex (rule-lowered q) x y
