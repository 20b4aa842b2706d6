-- The examples that are proved (J1 to J9 of the specification): what each sort of entry says, and the one table
-- (G4). Its proof is `proved` of proofs/Examples.antt.
use Rattle.std.specs.Prelude.{◌≡◌, List, [], ◌∷◌, ℕ, ◌≤◌, ℤ, pos, neg_ℤ, length}
use Rattle.coxeter.specs.declared.Kind.{Kind}
use Rattle.coxeter.specs.declared.Kind.TheVariants.{A, B, D}
use Rattle.coxeter.specs.Kinds.{least, greatest}
use Rattle.coxeter.specs.Windows.{window, inverse}
use Rattle.coxeter.specs.Length.{window_length}
use Rattle.coxeter.specs.Checks.{window_refusal}
use Rattle.coxeter.specs.NormalForm.{normal_form, word_normal_form}
use Rattle.coxeter.specs.Calls.{front}
use Rattle.rules.specs.declared.Rewrite.{Rewrite}
use Rattle.rules.specs.declared.Rewrite.TheVariants.{Used, NoneFits, Refused}
use Rattle.rules.specs.Rules.{rules}
use Rattle.rules.specs.Calls.{Transition, rewrite_at, single}

-- K2: the number of a kind
abbrev pub number : Kind → ℕ
number A = 1
number B = 2
number D = 3

-- Helper of J4, J5 and J9: a negative entry of a window.
abbrev pub neg : ℕ → ℤ
neg e = neg_ℤ (pos e)

-- R16: one rewrite of u at place p, with any output that has room, returns family f, i, j and the new length,
-- and leaves v, also in the output
abbrev pub Gives : Kind → ℕ → List ℕ → ℕ → List ℕ → ℕ → ℕ → ℕ → Type 0
Gives k n u p v f i j =
    (out : List ℕ) → length v ≤ length out
    → ◌≡◌ {A = Transition single} (rewrite_at single (number k) n u p out) (record { answer = Used f i j (length v); outputs = front v out; word = v })

-- R17, CO6: one rewrite of u at place p, with any output, returns a; nothing is written and the word stays
abbrev pub Stays : Kind → ℕ → List ℕ → ℕ → Rewrite → Type 0
Stays k n u p a = (out : List ℕ) → ◌≡◌ {A = Transition single} (rewrite_at single (number k) n u p out) (record { answer = a; outputs = out; word = u })

-- J1 to J9: the sorts of entry; kind and rank stand first, what is claimed last
pub data Example : Type 0 where
  -- J1, J2, J4: a word and its window, its normal form, its length
  word_window : Kind → ℕ → List ℕ → List ℤ → Example
  word_form : Kind → ℕ → List ℕ → List ℕ → Example
  word_length : Kind → ℕ → List ℕ → ℕ → Example
  -- J5: a window and its normal form; a window that is its own inverse
  window_form : Kind → ℕ → List ℤ → List ℕ → Example
  own_inverse : List ℤ → Example
  -- J2, J6, J7: a word and a place: the new word with the family, i and j of the rule used; or none fits
  gives : Kind → ℕ → List ℕ → ℕ → List ℕ → ℕ → ℕ → ℕ → Example
  none_fits : Kind → ℕ → List ℕ → ℕ → Example
  -- J3: in every kind, at every rank
  square_vanishes empty_stays : Example
  -- J8: the number of rules
  rule_count : Kind → ℕ → ℕ → Example
  -- J9: a window that is refused with a number, or accepted
  refused : Kind → ℕ → List ℤ → ℕ → Example
  accepted : Kind → ℕ → List ℤ → Example

-- J1 to J9: what an entry says
abbrev pub Fact : Example → Type 0
Fact (word_window k n u w) = window k n u ≡ w
Fact (word_form k n u v) = word_normal_form k n u ≡ v
Fact (word_length k n u l) = window_length k (window k n u) ≡ l
Fact (window_form k n w v) = normal_form k n w ≡ v
Fact (own_inverse w) = inverse w ≡ w
Fact (gives k n u p v f i j) = Gives k n u p v f i j
Fact (none_fits k n u p) = Stays k n u p NoneFits
Fact square_vanishes =
    (k : Kind) (n : ℕ) → least k ≤ n → n ≤ greatest k
    → (word_normal_form k n (1 ∷ 1 ∷ []) ≡ []) × Gives k n (1 ∷ 1 ∷ []) 0 [] 1 1 0
Fact empty_stays =
    (k : Kind) (n : ℕ) → least k ≤ n → n ≤ greatest k
    → (word_normal_form k n [] ≡ []) × ((p : ℕ) → Stays k n [] p (Refused 12))
Fact (rule_count k n m) = length (rules k n) ≡ m
Fact (refused k n w r) = window_refusal k n w ≡ r
Fact (accepted k n w) = window_refusal k n w ≡ 0

-- G4: the table
unfoldable pub table : List Example
table =
    -- J1
    word_window A 2 (1 ∷ 2 ∷ 1 ∷ []) (pos 3 ∷ pos 2 ∷ pos 1 ∷ [])
    ∷ word_form A 2 (1 ∷ 2 ∷ 1 ∷ []) (2 ∷ 1 ∷ 2 ∷ [])
    -- J2
    ∷ gives A 3 (1 ∷ 3 ∷ []) 0 (3 ∷ 1 ∷ []) 2 1 3
    ∷ word_form A 3 (1 ∷ 3 ∷ []) (3 ∷ 1 ∷ [])
    -- J3
    ∷ square_vanishes
    ∷ empty_stays
    -- J4
    ∷ word_window B 2 (1 ∷ 2 ∷ 1 ∷ 2 ∷ []) (neg 1 ∷ neg 2 ∷ [])
    ∷ word_form B 2 (1 ∷ 2 ∷ 1 ∷ 2 ∷ []) (2 ∷ 1 ∷ 2 ∷ 1 ∷ [])
    ∷ word_length B 2 (1 ∷ 2 ∷ 1 ∷ 2 ∷ []) 4
    -- J5
    ∷ window_form D 5 (pos 3 ∷ neg 5 ∷ pos 1 ∷ pos 4 ∷ neg 2 ∷ []) (5 ∷ 2 ∷ 3 ∷ 5 ∷ 1 ∷ 2 ∷ [])
    ∷ own_inverse (pos 3 ∷ neg 5 ∷ pos 1 ∷ pos 4 ∷ neg 2 ∷ [])
    -- J6
    ∷ gives D 4 (3 ∷ 4 ∷ []) 0 (4 ∷ 3 ∷ []) 2 3 4
    ∷ none_fits B 4 (3 ∷ 4 ∷ []) 0
    -- J7
    ∷ gives B 4 (2 ∷ 4 ∷ []) 0 (4 ∷ 2 ∷ []) 2 2 4
    ∷ none_fits D 4 (2 ∷ 4 ∷ []) 0
    -- J8
    ∷ rule_count D 4 16
    -- J9
    ∷ refused D 4 (neg 1 ∷ pos 2 ∷ pos 3 ∷ pos 4 ∷ []) 11
    ∷ accepted D 4 (neg 1 ∷ neg 2 ∷ pos 3 ∷ pos 4 ∷ [])
    ∷ []
