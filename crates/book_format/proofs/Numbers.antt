-- One refusal after another: from which check a number comes, by the numbers that the others never give.
--
-- Sections: two refusals; lists of tests; an answer; checks 5 to 8.
-- Assumes nothing.
use mathlib.Core.Path.{◌≡◌, refl, sym, ◌∙◌}
use mathlib.Core.Bool.{Bool, true, false, true≢false}
use mathlib.Core.List.{List, [], ◌∷◌, ◌++◌}
use Prim.Native.Nat.{ℕ, ◌<◌}
use native.Mathlib.Decide.{ℕ_discrete}
use native.Mathlib.Omega.{arith}
use Rattle.coxeter.specs.Kinds.{kind_of}
use Rattle.coxeter.specs.Checks.{first_of, check, ◌then◌, wrong_kind, too_long, wrong_letter, word_refusal}
use Rattle.coxeter.proofs.Refusals.{then_none, then_some}
use Rattle.book_format.specs.declared.Edition.{Edition}
use Rattle.book_format.specs.Books.{wrong_rank_in_book, book_rank_refusal}

-- ---- two refusals

-- the number m comes from the second of two where the first never gives it, and from the first where the second
-- never does
pub then_late : (r s m : ℕ) → (r ≡ m → ⊥) → (r then s) ≡ m → (r ≡ 0) × (s ≡ m)
then_late r s m f e = elim (ℕ_discrete r 0) [ yes z ↦ (z, sym (then_none r s z) ∙ e) | no g ↦ absurd (f (sym (then_some r s g) ∙ e)) ]

pub then_early : (r s m : ℕ) → (s ≡ m → ⊥) → (r then s) ≡ m → r ≡ m
then_early r s m f e = elim (ℕ_discrete r 0) [ yes z ↦ absurd (f (sym (then_none r s z) ∙ e)) | no g ↦ sym (then_some r s g) ∙ e ]

pub check-other : (m r : ℕ) (t : Bool) → (m ≡ r → ⊥) → (r ≡ 0 → ⊥) → check m t ≡ r → ⊥
check-other m r true f g e = f e
check-other m r false f g e = g (sym e)

pub check_holds : (m : ℕ) (t : Bool) → (m ≡ 0 → ⊥) → check m t ≡ m → t ≡ true
check_holds m true f e = refl
check_holds m false f e = absurd (f (sym e))

-- ---- lists of tests

-- no test of the list has the number r and holds
abbrev pub Never : ℕ → List (ℕ × Bool) → Type 0
Never r [] = Unit {0}
Never r (f ∷ fs) = (f.0 ≡ r → f.1 ≡ false) × Never r fs

pub first_of_never : (r : ℕ) (fs : List (ℕ × Bool)) → Never r fs → (r ≡ 0 → ⊥) → first_of fs ≡ r → ⊥
first_of_never r [] n f e = f (sym e)
first_of_never r ((m, true) ∷ fs) n f e = true≢false (n.0 e)
first_of_never r ((m, false) ∷ fs) n f e = first_of_never r fs n.1 f e

-- a list of tests, none of them with the number 0
abbrev pub Numbered : List (ℕ × Bool) → Type 0
Numbered [] = Unit {0}
Numbered (f ∷ fs) = (f.0 ≡ 0 → ⊥) × Numbered fs

pub first_of_then : (fs : List (ℕ × Bool)) (m : ℕ) (t : Bool) → Numbered fs → (first_of fs then check m t) ≡ first_of (fs ++ ((m, t) ∷ []))
first_of_then [] m t n = refl
first_of_then ((x, true) ∷ fs) m t n = then_some x (check m t) n.0
first_of_then ((x, false) ∷ fs) m t n = first_of_then fs m t n.1

-- ---- checks 5 to 8

pub rank_other : (ed : Edition) (k n r : ℕ) → 6 < r → book_rank_refusal ed k n ≡ r → ⊥
unfolding book_rank_refusal
rank_other ed k n r h e =
    let five = check-other 5 r (wrong_kind k) (λ z. omega arith) (λ z. omega arith) in
    check-other 6 r (wrong_rank_in_book ed (kind_of k) n) (λ z. omega arith) (λ z. omega arith)
    (then_late (check 5 (wrong_kind k)) (check 6 (wrong_rank_in_book ed (kind_of k) n)) r five e).1

pub word_other : (n : ℕ) (u : List ℕ) (r : ℕ) → 8 < r → word_refusal n u ≡ r → ⊥
unfolding word_refusal
word_other n u r h e =
    let seven = check-other 7 r (too_long u) (λ z. omega arith) (λ z. omega arith) in
    check-other 8 r (wrong_letter n u) (λ z. omega arith) (λ z. omega arith) (then_late (check 7 (too_long u)) (check 8 (wrong_letter n u)) r seven e).1
