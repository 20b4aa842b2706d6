-- The checks of a kind, a rank, a word, a window and an output (section C of the specification). A call that fails
-- one is refused, which document 01 calls turned down; a refusal is the number of a check, and 0 stands for none.
use Rattle.std.specs.Prelude.{◌≡◌, Bool, false, not, ◌||◌, List, [], ◌∷◌, ℕ, zero, suc, eqb, ltb, ℤ, nat_abs, length}
use Rattle.coxeter.specs.declared.Kind.{Kind}
use Rattle.coxeter.specs.declared.Kind.TheVariants.{A, B, D}
use Rattle.coxeter.specs.Kinds.{pick, kind_of, lanes, least, greatest}
use Rattle.coxeter.specs.Length.{negative, negatives}

-- CO3: the number if its test holds
abbrev pub check : ℕ → Bool → ℕ
check r t = pick t r 0

-- CO3: the first refusal of the two
infixr 5 ◌then◌
abbrev pub ◌then◌ : ℕ → ℕ → ℕ
r then s = pick (eqb r 0) s r

-- CO3: the number of the first check whose test holds, in the order of the list, or 0
abbrev pub first_of : List (ℕ × Bool) → ℕ
first_of [] = 0
first_of (f ∷ fs) = pick f.1 f.0 (first_of fs)

-- C5
unfoldable pub wrong_kind : ℕ → Bool
wrong_kind k = not (eqb k 1 || (eqb k 2 || eqb k 3))

-- C6, by the ranks of K4
unfoldable pub wrong_rank : Kind → ℕ → Bool
wrong_rank k n = ltb n (least k) || ltb (greatest k) n

-- C7, W2
unfoldable pub too_long : List ℕ → Bool
too_long u = ltb 4096 (length u)

-- C8: one of the letters is no step of rank n (K6)
unfoldable pub wrong_letter : ℕ → List ℕ → Bool
wrong_letter n [] = false
wrong_letter n (s ∷ u) = (eqb s 0 || ltb n s) || wrong_letter n u

-- C9
unfoldable pub wrong_lanes : Kind → ℕ → List ℤ → Bool
wrong_lanes k n w = not (eqb (length w) (lanes k n))

-- C10: an entry of w has this size
unfoldable pub has_size : ℕ → List ℤ → Bool
has_size i [] = false
has_size i (e ∷ w) = eqb (nat_abs e) i || has_size i w

-- C10: a negative entry in kind A
unfoldable pub negative_in_A : Kind → ℤ → Bool
negative_in_A A e = negative e
negative_in_A B e = false
negative_in_A D e = false

-- C10 for the entry e, with the entries w after it: a repeated size is found at the first of the two
unfoldable pub wrong_at : Kind → ℕ → ℤ → List ℤ → Bool
wrong_at k m e w = eqb (nat_abs e) 0 || (ltb m (nat_abs e) || (has_size (nat_abs e) w || negative_in_A k e))

-- C10
unfoldable pub wrong_entry : Kind → ℕ → List ℤ → Bool
wrong_entry k m [] = false
wrong_entry k m (e ∷ w) = wrong_at k m e w || wrong_entry k m w

-- Helper of C11 and Y5: the number is odd.
unfoldable pub odd : ℕ → Bool
odd zero = false
odd (suc n) = not (odd n)

-- C11
unfoldable pub odd_negatives : Kind → List ℤ → Bool
odd_negatives A w = false
odd_negatives B w = false
odd_negatives D w = odd (negatives w)

-- C14: the output has no room for l elements
unfoldable pub too_short : {X : Type 0} → ℕ → List X → Bool
too_short l out = ltb (length out) l

-- C5, C6: of a kind and a rank
unfoldable pub rank_refusal : ℕ → ℕ → ℕ
rank_refusal k n = check 5 (wrong_kind k) then check 6 (wrong_rank (kind_of k) n)

-- C7, C8: of a word of rank n
unfoldable pub word_refusal : ℕ → List ℕ → ℕ
word_refusal n u = check 7 (too_long u) then check 8 (wrong_letter n u)

-- C9, C10, C11: of a window. Those that pass are the windows of the kind and rank (W5).
unfoldable pub window_refusal : Kind → ℕ → List ℤ → ℕ
window_refusal k n w = check 9 (wrong_lanes k n w) then check 10 (wrong_entry k (lanes k n) w) then check 11 (odd_negatives k w)

-- C5, C6: n is a rank of kind k, and k a kind; document 01 calls the two a rig
abbrev pub RankOf : ℕ → ℕ → Type 0
RankOf k n = rank_refusal k n ≡ 0

-- C7, C8: a word of rank n that passes
abbrev pub WordOf : ℕ → List ℕ → Type 0
WordOf n u = word_refusal n u ≡ 0

-- W5: a window of kind k and rank n, which passes C9, C10 and C11
abbrev pub WindowOf : Kind → ℕ → List ℤ → Type 0
WindowOf k n w = window_refusal k n w ≡ 0
