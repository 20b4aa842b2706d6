-- Demand 3 in plain terms (T7 to T17 of the specification), of every accepted word and of calls of any form for which
-- the claim `Demand3Holds` holds, each by that claim alone: every field is used here as strongly as it is stated, so
-- that a weaker record would not do, and neither would a claim for fewer words. The last section is of the library's
-- own call.
--
-- Sections: every list of calls; each call of a list; two words; the least word; the library's own call.
-- Assumes nothing.
use mathlib.Core.Path.{◌≡◌, refl, sym, ap, ◌∙◌}
use mathlib.Core.Bool.{true, false}
use mathlib.Core.Logic.{◌↔◌, ◌⊎◌, ⊎_elim}
use mathlib.Core.List.{List, [], ◌∷◌, ◌++◌, append-nil, map, Memᴰ}
use Prim.Native.Nat.{ℕ, ◌≤◌, ◌<◌}
use native.Mathlib.Omega.{arith}
use lib.ListN.{length, drop}
use borrow.Author.Tests.{le-leb, leb-true}
use Rattle.coxeter.specs.answers.Answer.{Answer}
use Rattle.coxeter.specs.answers.Answer as answer
use Rattle.coxeter.specs.Kinds.{kind_of}
use Rattle.coxeter.specs.Windows.{window}
use Rattle.coxeter.specs.Checks.{wrong_letter}
use Rattle.coxeter.specs.Dictionary.{before}
use Rattle.coxeter.specs.Relations.{Relation, Congruent}
use Rattle.coxeter.specs.Calls.{Yields, normal_form_of_word}
use Rattle.coxeter.proofs.Order.{shortlex_cases}
use Rattle.coxeter.proofs.FrontLaws.{drop-front, front_parts}
use Rattle.rules.specs.declared.Rewrite.TheVariants.{Used}
use Rattle.rules.specs.Rules.{Rule, rules, fits, rewritten}
use Rattle.rules.specs.Calls.{Interface, Rewrote, single}
use Rattle.rules.specs.Runs.{AcceptedWord, Call, Machine, Run, IsUsed, machine, uses, word_left}
use Rattle.rules.specs.Demand3.{normal_form_of, NowhereFits, Usable, UsedExactly, FourAnswers, Demand3, Demand3Holds}
use Rattle.rules.proofs.Demand3.{demand3}

module _ (s : Interface) (holds : Demand3Holds s) (k n : ℕ) (u : List ℕ) (h : AcceptedWord k n u) where
  d : Demand3 s k n u
  d = holds k n u h

  -- ---- every list of calls

  -- T11: one number for all lists
  pub one_number : (most : ℕ) × ((cs : List (Call s)) → Run s k n u cs → uses s cs ≤ most)
  one_number = (d.most, λ cs r. (d.follows cs r).uses-at_most)

  -- T13: the machine sees only what each call is given (T12)
  pub as_the_machine : (cs : List (Call s)) → Run s k n u cs
      → let m = machine s k n u (map (λ (c : Call s). c.arguments) cs) in
      (map (λ (c : Call s). c.result) cs ≡ m.results) × (word_left s u cs ≡ m.word)
  as_the_machine cs r =
      let e = (d.follows cs r).machines in
      (ap (λ (o : Machine s). o.results) e, ap (λ (o : Machine s). o.word) e)

  -- T7: at the end of the list
  pub window-at_the_end : (cs : List (Call s)) → Run s k n u cs → window (kind_of k) n (word_left s u cs) ≡ window (kind_of k) n u
  window-at_the_end cs r = (d.follows cs r).window_kept cs [] (sym (append-nil cs))

  -- T7: and where calls follow
  pub window_on_the_way : (front : List (Call s)) (c : Call s) (rest : List (Call s)) → Run s k n u (front ++ (c ∷ rest))
      → window (kind_of k) n (word_left s u front) ≡ window (kind_of k) n u
  window_on_the_way front c rest r = (d.follows (front ++ (c ∷ rest)) r).window_kept front (c ∷ rest) refl

  -- T10
  pub ends_normal : (cs : List (Call s)) → Run s k n u cs → NowhereFits s k n (word_left s u cs) → word_left s u cs ≡ normal_form_of k n u
  ends_normal cs r = (d.follows cs r).normal_exactly.1

  -- T10: one such answer at each place is enough, with whatever outputs
  pub ends_normal_once : (cs : List (Call s)) → Run s k n u cs → let v = word_left s u cs in
      ((p : ℕ) → p < length v → (earlier later : s.Outputs) × Rewrote s k n v p earlier later s.none_fits) → v ≡ normal_form_of k n u
  ends_normal_once cs r = (d.follows cs r).normal_once

  -- T10
  pub normal_ends : (cs : List (Call s)) → Run s k n u cs → word_left s u cs ≡ normal_form_of k n u → NowhereFits s k n (word_left s u cs)
  normal_ends cs r = (d.follows cs r).normal_exactly.0

  -- ---- each call of a list

  module _ (front : List (Call s)) (c : Call s) (rest : List (Call s)) (r : Run s k n u (front ++ (c ∷ rest))) where
    call_exactly : UsedExactly s k n (word_left s u front) c (word_left s u (front ++ (c ∷ [])))
    call_exactly = (d.follows (front ++ (c ∷ rest)) r).used_exactly front c rest refl

    call_answers : FourAnswers s k n (word_left s u front) c (word_left s u (front ++ (c ∷ [])))
    call_answers = (d.follows (front ++ (c ∷ rest)) r).four_answers front c rest refl

    -- T8: a call uses a rule exactly when one fits and no check refuses
    pub used_exactly : IsUsed s c.result ↔ ((x : Rule) × Usable s k n (word_left s u front) c.arguments x)
    used_exactly = call_exactly.exactly

    -- T8: its answer is one of four; two of them are never equal
    pub one_of_four : IsUsed s c.result
        ⊎ ((c.result.answer ≡ s.none_fits) ⊎ ((c.result.answer ≡ s.refused 12) ⊎ (c.result.answer ≡ s.refused 14)))
    one_of_four = call_answers.no_fifth

    -- R17, Q6: none fits exactly at a place of the word where no rule of the list does, with room or without, so no
    -- rewriter may pass a place over
    pub none_fits_exactly : (c.result.answer ≡ s.none_fits)
        ↔ ((c.arguments.place < length (word_left s u front))
        × ((x : Rule) → Memᴰ x (rules (kind_of k) n) → fits x (word_left s u front) c.arguments.place ≡ false))
    none_fits_exactly = call_answers.none_fits_exactly

    -- C12
    pub refused_12_exactly : (c.result.answer ≡ s.refused 12) ↔ (length (word_left s u front) ≤ c.arguments.place)
    refused_12_exactly = call_answers.past_exactly

    -- C14: a rule fits, and there is no room for the answer
    pub refused_14_exactly : (c.result.answer ≡ s.refused 14)
        ↔ ((x : Rule) × Memᴰ x (rules (kind_of k) n) × (fits x (word_left s u front) c.arguments.place ≡ true)
        × (s.room c.arguments.outputs (length (rewritten x (word_left s u front) c.arguments.place)) ≡ false))
    refused_14_exactly = call_answers.short_exactly

    -- CO6, R17, T4: a call that used no rule changes nothing in its outputs, and the word stays
    pub unused_unwritten : (IsUsed s c.result → ⊥)
        → (c.result.outputs ≡ c.arguments.outputs) × (word_left s u (front ++ (c ∷ [])) ≡ word_left s u front)
    unused_unwritten = call_answers.unwritten

    -- T9: a call that used a rule replaced the left side of a rule of the list and nothing else
    pub used_replaced : (x : Rule) → Usable s k n (word_left s u front) c.arguments x
        → (prefix suffix : List ℕ) × (length prefix ≡ c.arguments.place) × (word_left s u front ≡ prefix ++ (x.left ++ suffix))
        × (word_left s u (front ++ (c ∷ [])) ≡ prefix ++ (x.right ++ suffix))
    used_replaced x b = let q = (call_exactly.used x b).replaced in (q.before, q.after, q.place, q.old, q.new)

    -- R15, T6: the only one that fits
    pub used_only : (x y : Rule) → Usable s k n (word_left s u front) c.arguments x → Memᴰ y (rules (kind_of k) n)
        → fits y (word_left s u front) c.arguments.place ≡ true → y ≡ x
    used_only x y b = (call_exactly.used x b).only y

    -- R16: its answer is that rule with the new length, and its outputs have the new word
    pub used_written : (x : Rule) → Usable s k n (word_left s u front) c.arguments x → let w = word_left s u (front ++ (c ∷ [])) in
        (c.result.answer ≡ s.used x (length w)) × (c.result.outputs ≡ s.written x w c.arguments.outputs)
    used_written x b = let q = call_exactly.used x b in (q.answer, q.outputs)

  -- ---- two words

  -- T14
  pub normal_form_iff_window : (v : List ℕ) → AcceptedWord k n v
      → (normal_form_of k n u ≡ normal_form_of k n v) ↔ (window (kind_of k) n u ≡ window (kind_of k) n v)
  normal_form_iff_window v a = (d.agree v a).by_window

  -- T15
  pub normal_form_iff_congruent : (v : List ℕ) → AcceptedWord k n v → (normal_form_of k n u ≡ normal_form_of k n v) ↔ Congruent (Relation (kind_of k) n) u v
  normal_form_iff_congruent v a = (d.agree v a).by_relations

  -- T14, T15
  pub window_iff_congruent : (v : List ℕ) → AcceptedWord k n v → (window (kind_of k) n u ≡ window (kind_of k) n v) ↔ Congruent (Relation (kind_of k) n) u v
  window_iff_congruent v a =
      let g = d.agree v a in
      (λ e. g.by_relations.0 (g.by_window.1 e), λ l. g.by_window.0 (g.by_relations.1 l))

  -- ---- the least word

  -- T16, N1: the normal form is a word of steps with the first word's window
  pub normal_form_of_window : (wrong_letter n (normal_form_of k n u) ≡ false) × (window (kind_of k) n (normal_form_of k n u) ≡ window (kind_of k) n u)
  normal_form_of_window = (d.least.steps, d.least.shows)

  -- N3, T16
  pub every_other_word : (v : List ℕ) → wrong_letter n v ≡ false → window (kind_of k) n v ≡ window (kind_of k) n (normal_form_of k n u)
      → (v ≡ normal_form_of k n u → ⊥)
      → (length (normal_form_of k n u) ≤ length v) × (length v ≡ length (normal_form_of k n u) → before (normal_form_of k n u) v ≡ true)
  every_other_word v h e f =
      let t = shortlex_cases (normal_form_of k n u) v (d.least.least v h (e ∙ d.least.shows) f) in
      (⊎_elim (λ l. omega arith) (λ l. omega (arith, l.0)) t, λ q. ⊎_elim (λ l. absurd (omega arith)) (λ l. l.1) t)

  -- T17: the call for the normal form writes just that word, and only check 14 refuses it
  pub normal_form_written : (out after : List ℕ) (a : Answer) → Yields (normal_form_of_word k n u out) a after → let w = normal_form_of k n u in
      (length w ≤ length out → (a ≡ answer.Length (length w)) × (after ≡ w ++ drop (length w) out))
      × (length out < length w → (a ≡ answer.Refused 14) × (after ≡ out))
  normal_form_written out after a y =
      let w = normal_form_of k n u in
      let t = d.normal_form_call out after a y in (
        λ l. let e = t.written l in (e.0, e.1 ∙ sym (front_parts w out (length w) w refl refl)),
        t.short,
      )

-- ---- the library's own call

-- C14: its output has room for a new word of l letters exactly if it has that length
pub room_exactly : (out : List ℕ) (l : ℕ) → (single.room out l ≡ true) ↔ (l ≤ length out)
room_exactly out l = (leb-true l (length out), le-leb l (length out))

module _ (k n : ℕ) (u : List ℕ) (h : AcceptedWord k n u) (front : List (Call single)) (c : Call single) (rest : List (Call single))
    (r : Run single k n u (front ++ (c ∷ rest))) where
  -- R16: its answer is that rule's family, i and j with the new length
  pub used_answer : (x : Rule) → Usable single k n (word_left single u front) c.arguments x → (f i j l : ℕ) → c.result.answer ≡ Used f i j l
      → (f ≡ x.family) × (i ≡ x.i) × (j ≡ x.j) × (l ≡ length (word_left single u (front ++ (c ∷ []))))
  used_answer x b f i j l e = let a = (used_written single demand3 k n u h front c rest r x b).0 in (cc, cc, cc, cc)

  -- I2: beyond the new word the output is as it was lent
  pub used_beyond : (x : Rule) → Usable single k n (word_left single u front) c.arguments x → let w = word_left single u (front ++ (c ∷ [])) in
      drop (length w) c.result.outputs ≡ drop (length w) c.arguments.outputs
  used_beyond x b =
      let w = word_left single u (front ++ (c ∷ [])) in
      ap (drop (length w)) (used_written single demand3 k n u h front c rest r x b).1 ∙ drop-front w c.arguments.outputs (length w) refl
