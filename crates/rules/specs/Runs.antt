-- A list of single rewrites and the plain machine beside it (T1 to T6 and T12 of the specification), for calls of
-- any form.
use Rattle.std.specs.Prelude.{◌≡◌, List, [], ◌∷◌, ℕ, suc}
use Rattle.std.proofs.Math.Option.{none, some}
use Rattle.coxeter.specs.Checks.{RankOf, WordOf}
use Rattle.rules.specs.Calls.{Interface, Rewrote, rewrite_at}

-- T1: document 01's accepted word, with its kind and rank
pub record AcceptedWord (k n : ℕ) (u : List ℕ) : Type 0 where
  pub rank : RankOf k n
  pub word : WordOf n u

-- T2: what a call of the list is given; kind and rank are the same for all, and the word is what the call before
-- left
pub record Arguments (s : Interface) : Type 0 where
  pub place : ℕ
  pub outputs : s.Outputs

-- T13: what a call returns: its answer, and what its outputs hold afterwards
pub record Result (s : Interface) : Type 0 where
  pub answer : s.Answer
  pub outputs : s.Outputs

-- T3: one call of the list
pub record Call (s : Interface) : Type 0 where
  pub arguments : Arguments s
  pub result : Result s

-- T4: the new word if a rule was used, and else the word as it was
unfoldable pub word_after : (s : Interface) → List ℕ → Result s → List ℕ
word_after s u r = elim (s.new_word r.answer r.outputs) [ none ↦ u | some w ↦ w ]

-- T4, T5: the word that a list of calls leaves
unfoldable pub word_left : (s : Interface) → List ℕ → List (Call s) → List ℕ
word_left s u [] = u
word_left s u (c ∷ cs) = word_left s (word_after s u c.result) cs

-- T3: a call on the word u that meets its contract
abbrev pub Meets : (s : Interface) → ℕ → ℕ → List ℕ → Call s → Type 0
Meets s k n u c = Rewrote s k n u c.arguments.place c.arguments.outputs c.result.outputs c.result.answer

-- T2, T3: document 01's rewriting: the calls of a list, each on the word that the last one left
abbrev pub Run : (s : Interface) → ℕ → ℕ → List ℕ → List (Call s) → Type 0
Run s k n u [] = Unit {0}
Run s k n u (c ∷ cs) = Meets s k n u c × Run s k n (word_after s u c.result) cs

-- T8: the result says that a rule was used: it has a new word
abbrev pub IsUsed : (s : Interface) → Result s → Type 0
IsUsed s r = (w : List ℕ) × (s.new_word r.answer r.outputs ≡ some w)

-- T11: how many calls use a rule
unfoldable pub uses : (s : Interface) → List (Call s) → ℕ
uses s [] = 0
uses s (c ∷ cs) = elim (s.new_word c.result.answer c.result.outputs) [ none ↦ uses s cs | some w ↦ suc (uses s cs) ]

-- T12: what document 01's plain machine has returned for a list of calls, and its own word
pub record Machine (s : Interface) : Type 0 where
  pub results : List (Result s)
  pub word : List ℕ

-- T12: it sees the places and the outputs as they are given, and no answer
unfoldable pub machine : (s : Interface) → ℕ → ℕ → List ℕ → List (Arguments s) → Machine s
machine s k n u [] = record { results = []; word = u }
machine s k n u (a ∷ rest) =
    let t = rewrite_at s k n u a.place a.outputs in
    let later = machine s k n t.word rest in
    record { results = record { answer = t.answer; outputs = t.outputs } ∷ later.results; word = later.word }
