-- Wrong answers of the split by allowed steps and of its checks, each of the type of its call's definition.
-- WrongAnswers.antt says where each is wrong.
-- Assumes nothing.
use mathlib.Core.List.{List}
use Prim.Native.Nat.{ℕ, ◌+◌, ◌-◌, ◌*◌}
use lib.IntN.{ℤ}
use lib.ListN.{length}
use Rattle.coxeter.specs.declared.Kind.{Kind}
use Rattle.coxeter.specs.Kinds.{kind_of}
use Rattle.coxeter.specs.Windows.{window, product, inverse}
use Rattle.coxeter.specs.Length.{window_length}
use Rattle.coxeter.specs.Checks.{check, ◌then◌, too_short, rank_refusal, word_refusal}
use Rattle.coxeter.specs.NormalForm.{normal_form}
use Rattle.coxeter.specs.Calls.{written}
use Rattle.shortest_words.specs.Allowed.{allows, wrong_set, set_refusal}
use Rattle.shortest_words.specs.Split.{stripped, first_word, second_word}
use Rattle.shortest_words.specs.SplitCalls.{SplitOutcome, split_outcome, splitting}

-- the split with other checks before 14, or with other words
abbrev checked_by : (ℕ → ℕ → ℕ → List ℕ → ℕ) → ℕ → ℕ → ℕ → List ℕ → List ℕ → List ℕ → SplitOutcome
checked_by refusal k n set u =
    let w = window (kind_of k) n u in
    split_outcome (refusal k n set u) (first_word (allows set) (kind_of k) n w) (second_word (allows set) (kind_of k) n w)

abbrev words_by : (ℕ → Kind → ℕ → List ℤ → List ℕ × List ℕ) → ℕ → ℕ → ℕ → List ℕ → List ℕ → List ℕ → SplitOutcome
words_by words k n set u =
    let p = words set (kind_of k) n (window (kind_of k) n u) in
    split_outcome (set_refusal k n set then word_refusal n u) p.0 p.1

-- the two words swapped
abbrev pub words_swapped : ℕ → ℕ → ℕ → List ℕ → List ℕ → List ℕ → SplitOutcome
words_swapped = words_by (λ set k n w. (second_word (allows set) k n w, first_word (allows set) k n w))

-- bit 0 taken for step 2
abbrev pub bit0_for_step2 : ℕ → ℕ → ℕ → List ℕ → List ℕ → List ℕ → SplitOutcome
bit0_for_step2 = words_by (λ set k n w. (first_word (allows (2 * set)) k n w, second_word (allows (2 * set)) k n w))

-- one step left in the second word
abbrev pub one_step_left : ℕ → ℕ → ℕ → List ℕ → List ℕ → List ℕ → SplitOutcome
one_step_left =
    words_by (λ set k n w.
    let x = stripped (allows set) k n (window_length k w - 1) (inverse w) in
    (normal_form k n (product w x), normal_form k n (inverse x)))

-- 16 checked after the word
abbrev pub set_checked_after_the_word : ℕ → ℕ → ℕ → List ℕ → List ℕ → List ℕ → SplitOutcome
set_checked_after_the_word = checked_by (λ k n set u. rank_refusal k n then word_refusal n u then check 16 (wrong_set n set))

-- the bit above the rank's steps accepted
abbrev pub one_bit_too_many : ℕ → ℕ → ℕ → List ℕ → List ℕ → List ℕ → SplitOutcome
one_bit_too_many = checked_by (λ k n set u. rank_refusal k n then check 16 (wrong_set (n + 1) set) then word_refusal n u)

-- the first word written before the second output is checked
abbrev pub first_word_written_first : ℕ → ℕ → ℕ → List ℕ → List ℕ → List ℕ → SplitOutcome
first_word_written_first k n set u first second =
    let w = first_word (allows set) (kind_of k) n (window (kind_of k) n u) in
    splitting k n set u (written (set_refusal k n set then word_refusal n u then check 14 (too_short (length w) first)) w first) second

-- ---- the checks of a split

-- as they should be
abbrev pub split_checks : ℕ → ℕ → ℕ → List ℕ → ℕ
split_checks k n set u = set_refusal k n set then word_refusal n u

-- check 16 after the word's
abbrev pub word_before_the_set : ℕ → ℕ → ℕ → List ℕ → ℕ
word_before_the_set k n set u = rank_refusal k n then word_refusal n u then check 16 (wrong_set n set)

-- the bit of the last step refused
abbrev pub last_step_refused : ℕ → ℕ → ℕ → List ℕ → ℕ
last_step_refused k n set u = rank_refusal k n then check 16 (wrong_set (n - 1) set) then word_refusal n u
