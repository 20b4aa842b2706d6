-- Part-lists of a word: what is left of it, in order, when some letters are left out. Joined and split words,
-- lengths, letters, and the part-lists with one letter left out; by recursion on the part-list.
--
-- Sections: part-lists; one letter left out.
-- Assumes nothing.
use mathlib.Core.Path.{◌≡◌, refl, ap, ◌∙◌}
use mathlib.Core.Bool.{false}
use mathlib.Core.List.{List, [], ◌∷◌, ◌++◌}
use Prim.Native.Nat.{ℕ, zero, suc, ◌≤◌, ◌<◌}
use native.Mathlib.Omega.{arith}
use lib.ListN.{length}
use Rattle.coxeter.specs.Checks.{wrong_letter}
use Rattle.coxeter.proofs.LetterLaws.{letter_within_cons}
use Rattle.coxeter.proofs.Relations.{wrong_letter_cons}
use Rattle.shortest_words.specs.OneLetter.{drop_at}

-- ---- part-lists

-- v is a part-list of u
pub data Subword : List ℕ → List ℕ → Type 0 where
  none : Subword [] []
  keep : {a : ℕ} {u v : List ℕ} → Subword u v → Subword (a ∷ u) (a ∷ v)
  leave : {a : ℕ} {u v : List ℕ} → Subword u v → Subword (a ∷ u) v

pub subword_whole : (u : List ℕ) → Subword u u
subword_whole [] = none
subword_whole (a ∷ u) = keep (subword_whole u)

-- a part-list of a part-list
pub subword_trans : {u v x : List ℕ} → Subword u v → Subword v x → Subword u x
subword_trans none q = q
subword_trans (keep p) (keep q) = keep (subword_trans p q)
subword_trans (keep p) (leave q) = leave (subword_trans p q)
subword_trans (leave p) q = leave (subword_trans p q)

pub subword_append : {u v x y : List ℕ} → Subword u v → Subword x y → Subword (u ++ x) (v ++ y)
subword_append none q = q
subword_append (keep p) q = keep (subword_append p q)
subword_append (leave p) q = leave (subword_append p q)

-- a part-list of a joined word: one of each part
pub data Split (u x : List ℕ) : List ℕ → Type 0 where
  both : {v y : List ℕ} → Subword u v → Subword x y → Split u x (v ++ y)

pub subword_split : (u : List ℕ) {x v : List ℕ} → Subword (u ++ x) v → Split u x v
subword_split [] p = both none p
subword_split (a ∷ u) {x} (keep p) = elim (subword_split u p) as (λ k _. Split (a ∷ u) x (a ∷ k)) [ both q r ↦ both (keep q) r ]
subword_split (a ∷ u) {x} (leave p) = elim (subword_split u p) as (λ k _. Split (a ∷ u) x k) [ both q r ↦ both (leave q) r ]

pub subword_length : {u v : List ℕ} → Subword u v → length v ≤ length u
subword_length none = omega arith
subword_length (keep p) = omega (arith, subword_length p)
subword_length (leave p) = omega (arith, subword_length p)

-- as long as the word it is the word
pub subword_same : {u v : List ℕ} → Subword u v → length v ≡ length u → v ≡ u
subword_same none e = refl
subword_same (keep {a} p) e = ap (λ (l : List ℕ). a ∷ l) (subword_same p (omega arith))
subword_same (leave p) e = absurd (omega (arith, subword_length p))

pub subword_letters : (n : ℕ) {u v : List ℕ} → Subword u v → wrong_letter n u ≡ false → wrong_letter n v ≡ false
subword_letters n none e = e
subword_letters n (keep {a} {u} {v} p) e =
    let h = letter_within_cons n a u e in
    wrong_letter_cons n a v h.0 h.1 ∙ subword_letters n p h.2
subword_letters n (leave {a} {u} p) e = subword_letters n p (letter_within_cons n a u e).2

-- ---- one letter left out

pub length-drop_at : (i : ℕ) (u : List ℕ) → i < length u → suc (length (drop_at i u)) ≡ length u
unfolding drop_at
length-drop_at i [] h = absurd (omega arith)
length-drop_at zero (a ∷ u) h = refl
length-drop_at (suc i) (a ∷ u) h = ap suc (length-drop_at i u (omega arith))

pub subword_of_drop_at : (i : ℕ) (u : List ℕ) → Subword u (drop_at i u)
unfolding drop_at
subword_of_drop_at i [] = none
subword_of_drop_at zero (a ∷ u) = leave (subword_whole u)
subword_of_drop_at (suc i) (a ∷ u) = keep (subword_of_drop_at i u)

pub drop_at_of_subword : {u v : List ℕ} → Subword u v → length u ≡ suc (length v) → (i : ℕ) × (i < length u) × (v ≡ drop_at i u)
unfolding drop_at
drop_at_of_subword none e = absurd (omega arith)
drop_at_of_subword (keep {a} p) e =
    let d = drop_at_of_subword p (omega arith) in
    (suc d.0, omega (arith, d.1), ap (λ (l : List ℕ). a ∷ l) d.2)
drop_at_of_subword (leave p) e = (0, omega arith, subword_same p (omega arith))
