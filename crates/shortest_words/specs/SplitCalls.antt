-- A split as a call, for every input (I22 of the specification).
use Rattle.std.specs.Prelude.{◌≡◌, List, ℕ, eqb, length}
use Rattle.coxeter.specs.Kinds.{pick, kind_of}
use Rattle.coxeter.specs.Windows.{window}
use Rattle.coxeter.specs.Checks.{check, ◌then◌, too_short, word_refusal}
use Rattle.coxeter.specs.Calls.{written}
use Rattle.shortest_words.specs.answers.Split.{Split}
use Rattle.shortest_words.specs.answers.Split.{Words, Refused}
use Rattle.shortest_words.specs.Allowed.{allows, set_refusal}
use Rattle.shortest_words.specs.Split.{first_word, second_word}

-- I22: the answer, and the two outputs afterwards
pub record SplitOutcome : Type 0 where
  pub answer : Split
  pub first : List ℕ
  pub second : List ℕ

-- I22, G17: the number and the values of each case of `Split`: its refusal, or with none the length of each word
unfoldable pub split_of : ℕ → ℕ → ℕ → Split
split_of r a b = pick (eqb r 0) (Words a b) (Refused r)

-- C14, CO6, CO9, I2: refused with r, or else 14 if an output is too short, or else u and v are written, each to the
-- front of its output
unfoldable pub split_outcome : ℕ → List ℕ → List ℕ → List ℕ → List ℕ → SplitOutcome
split_outcome r u v first second =
    let s = r then check 14 (too_short (length u) first) then check 14 (too_short (length v) second) in
    record { answer = split_of s (length u) (length v); first = written s u first; second = written s v second }

-- I22: checks 5, 6, 16, 7 and 8, then 14 for either output
unfoldable pub splitting : ℕ → ℕ → ℕ → List ℕ → List ℕ → List ℕ → SplitOutcome
splitting k n set u =
    split_outcome (set_refusal k n set then word_refusal n u)
    (first_word (allows set) (kind_of k) n (window (kind_of k) n u)) (second_word (allows set) (kind_of k) n (window (kind_of k) n u))

-- G1: a call returns a and leaves these two in its outputs, as the outcome p says
abbrev pub SplitYields : SplitOutcome → Split → List ℕ → List ℕ → Type 0
SplitYields p a first second = (a ≡ p.answer) × (first ≡ p.first) × (second ≡ p.second)
