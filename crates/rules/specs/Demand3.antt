-- Demand 3 as one statement about an accepted word and calls of any form (D9; T7 to T17 of the specification). Its
-- proof for the library's own call is `demand3` of proofs/Demand3.antt; that for the call for C is in the crate c_api.
use Rattle.std.specs.Prelude.{◌≡◌, true, false, ◌↔◌, ◌⊎◌, ℕ, ◌≤◌, ◌<◌, length}
use mathlib.Core.List.{List, [], ◌∷◌, ◌++◌, map, Memᴰ}
use Rattle.coxeter.specs.answers.Answer.{Answer}
use Rattle.coxeter.specs.answers.Answer as answer
use Rattle.coxeter.specs.Kinds.{kind_of}
use Rattle.coxeter.specs.Windows.{window}
use Rattle.coxeter.specs.Relations.{Relation, Congruent}
use Rattle.coxeter.specs.NormalForm.{word_normal_form, IsNormalForm}
use Rattle.coxeter.specs.Calls.{front, Yields, normal_form_of_word}
use Rattle.rules.specs.Rules.{Rule, rules, fits, rewritten}
use Rattle.rules.specs.Calls.{past_end, Interface, Rewrote}
use Rattle.rules.specs.Runs.{AcceptedWord, Arguments, Call, Run, IsUsed, Machine, machine, uses, word_left}

-- N2: the normal form of a word, with the kind as a number
abbrev pub normal_form_of : ℕ → ℕ → List ℕ → List ℕ
normal_form_of k n u = word_normal_form (kind_of k) n u

-- T10: one rewrite at each place returns that none fits, with whatever outputs
abbrev pub NowhereFits : (s : Interface) → ℕ → ℕ → List ℕ → Type 0
NowhereFits s k n v =
    (p : ℕ) → p < length v → (before after : s.Outputs) (a : s.Answer) → Rewrote s k n v p before after a → a ≡ s.none_fits

-- T10: at each place one call, with some outputs, answered that none fits
abbrev pub NowhereFitsOnce : (s : Interface) → ℕ → ℕ → List ℕ → Type 0
NowhereFitsOnce s k n v = (p : ℕ) → p < length v → (before after : s.Outputs) × Rewrote s k n v p before after s.none_fits

-- T8: the rule x fits the word v at the place, and no check refuses the call
pub record Usable (s : Interface) (k n : ℕ) (v : List ℕ) (a : Arguments s) (x : Rule) : Type 0 where
  -- R2 to R12: x is one of the rules of this kind and rank
  pub listed : Memᴰ x (rules (kind_of k) n)
  -- R14
  pub fitting : fits x v a.place ≡ true
  -- T1: checks 5 to 8
  pub accepted : AcceptedWord k n v
  -- C12
  pub inside : past_end v a.place ≡ false
  -- C14
  pub room : s.room a.outputs (length (rewritten x v a.place)) ≡ true

-- T9: w is v with the right side of x in place of its left side at place p, and nothing else changed
pub record Replaced (x : Rule) (p : ℕ) (v w : List ℕ) : Type 0 where
  pub before : List ℕ
  pub after : List ℕ
  pub place : length before ≡ p
  pub old : v ≡ before ++ (x.left ++ after)
  pub new : w ≡ before ++ (x.right ++ after)

-- T9: what a call that used the rule x has done to the word v, which is w after it
pub record UsedRule (s : Interface) (k n : ℕ) (v : List ℕ) (c : Call s) (w : List ℕ) (x : Rule) : Type 0 where
  -- R15, T6
  pub only : (y : Rule) → Memᴰ y (rules (kind_of k) n) → fits y v c.arguments.place ≡ true → y ≡ x
  -- R16, R18, R19: the rule and the new length, and the new word in the outputs
  pub answer : c.result.answer ≡ s.used x (length w)
  pub outputs : c.result.outputs ≡ s.written x w c.arguments.outputs
  -- T9
  pub replaced : Replaced x c.arguments.place v w

-- T8, T9: the call c found the word v and left the word w. It used a rule exactly when one was usable, and then it
-- used that one.
pub record UsedExactly (s : Interface) (k n : ℕ) (v : List ℕ) (c : Call s) (w : List ℕ) : Type 0 where
  pub exactly : IsUsed s c.result ↔ ((x : Rule) × Usable s k n v c.arguments x)
  pub used : (x : Rule) → Usable s k n v c.arguments x → UsedRule s k n v c w x

-- T8, R17, C12, C14: the call c found the word v and left the word w. Its answer is one of four, which exclude each
-- other: a rule used, which is `UsedExactly`, and the three here, each exactly under its condition on the place, on
-- the rules that fit there and on the room in the outputs.
pub record FourAnswers (s : Interface) (k n : ℕ) (v : List ℕ) (c : Call s) (w : List ℕ) : Type 0 where
  pub no_fifth : IsUsed s c.result
      ⊎ ((c.result.answer ≡ s.none_fits) ⊎ ((c.result.answer ≡ s.refused 12) ⊎ (c.result.answer ≡ s.refused 14)))
  -- R17: at a place of the word, whatever the outputs
  pub none_fits_exactly : (c.result.answer ≡ s.none_fits)
      ↔ ((c.arguments.place < length v) × ((x : Rule) → Memᴰ x (rules (kind_of k) n) → fits x v c.arguments.place ≡ false))
  -- C12
  pub past_exactly : (c.result.answer ≡ s.refused 12) ↔ (length v ≤ c.arguments.place)
  -- C14: a rule fits, and there is no room for the answer
  pub short_exactly : (c.result.answer ≡ s.refused 14)
      ↔ ((x : Rule) × Memᴰ x (rules (kind_of k) n) × (fits x v c.arguments.place ≡ true)
      × (s.room c.arguments.outputs (length (rewritten x v c.arguments.place)) ≡ false))
  -- CO6, R17, T4: a refused call and one where none fits write nothing, and the word stays
  pub unwritten : (IsUsed s c.result → ⊥) → (c.result.outputs ≡ c.arguments.outputs) × (w ≡ v)

-- T2: what holds of every list of calls from u, with `most` the same for all lists
pub record Follows (s : Interface) (k n : ℕ) (u : List ℕ) (most : ℕ) (cs : List (Call s)) : Type 0 where
  -- T13
  pub machines : ◌≡◌ {A = Machine s} (record { results = map (λ (c : Call s). c.result) cs; word = word_left s u cs })
      (machine s k n u (map (λ (c : Call s). c.arguments) cs))
  -- T7: after each part of the list from its front
  pub window_kept : (earlier rest : List (Call s)) → cs ≡ earlier ++ rest → window (kind_of k) n (word_left s u earlier) ≡ window (kind_of k) n u
  -- T11
  pub uses-at_most : uses s cs ≤ most
  -- T10: of the normal form the answer comes with whatever outputs
  pub normal_exactly : (word_left s u cs ≡ normal_form_of k n u) ↔ NowhereFits s k n (word_left s u cs)
  -- T10: one such answer at each place, with whatever outputs, is enough
  pub normal_once : NowhereFitsOnce s k n (word_left s u cs) → word_left s u cs ≡ normal_form_of k n u
  -- T8, T9: of each call of the list
  pub used_exactly : (earlier : List (Call s)) (c : Call s) (rest : List (Call s)) → cs ≡ earlier ++ (c ∷ rest)
      → UsedExactly s k n (word_left s u earlier) c (word_left s u (earlier ++ (c ∷ [])))
  -- T8: of each call, what it answered if it used no rule
  pub four_answers : (earlier : List (Call s)) (c : Call s) (rest : List (Call s)) → cs ≡ earlier ++ (c ∷ rest)
      → FourAnswers s k n (word_left s u earlier) c (word_left s u (earlier ++ (c ∷ [])))

-- T14, T15: two accepted words of one kind and rank
pub record Agree (k n : ℕ) (u v : List ℕ) : Type 0 where
  -- T14
  pub by_window : (normal_form_of k n u ≡ normal_form_of k n v) ↔ (window (kind_of k) n u ≡ window (kind_of k) n v)
  -- T15
  pub by_relations : (normal_form_of k n u ≡ normal_form_of k n v) ↔ Congruent (Relation (kind_of k) n) u v

-- T17: a call for the normal form of the word u with the output `before`, which it left as `after`, answered a. Only
-- check 14 can refuse it.
pub record NormalFormWritten (k n : ℕ) (u before after : List ℕ) (a : Answer) : Type 0 where
  pub written : length (normal_form_of k n u) ≤ length before
      → (a ≡ answer.Length (length (normal_form_of k n u))) × (after ≡ front (normal_form_of k n u) before)
  pub short : length before < length (normal_form_of k n u) → (a ≡ answer.Refused 14) × (after ≡ before)

-- D9: all of demand 3 about the accepted word u
pub record Demand3 (s : Interface) (k n : ℕ) (u : List ℕ) : Type 0 where
  -- T11: the one number for all lists
  pub most : ℕ
  -- T7 to T13
  pub follows : (cs : List (Call s)) → Run s k n u cs → Follows s k n u most cs
  -- T14, T15
  pub agree : (v : List ℕ) → AcceptedWord k n v → Agree k n u v
  -- T16
  pub least : IsNormalForm (kind_of k) n (window (kind_of k) n u) (normal_form_of k n u)
  -- T17
  pub normal_form_call : (before after : List ℕ) (a : Answer) → Yields (normal_form_of_word k n u before) a after → NormalFormWritten k n u before after a

-- D9: the claim, for every kind, rank and accepted word
abbrev pub Demand3Holds : Interface → Type 0
Demand3Holds s = (k n : ℕ) (u : List ℕ) → AcceptedWord k n u → Demand3 s k n u
