-- Demand 3 for every accepted word and calls of every lawful form, by induction over the list of calls: each call
-- leaves an accepted word with the same window that the machine's step leaves too, and lowers the measure if it uses
-- a rule. The measure of the first word bounds the uses.
--
-- Sections: one call; lists of calls; the record.
-- Assumes nothing.
use mathlib.Core.Path.{◌≡◌, refl, sym, ap, subst, subst⁻¹, ◌∙◌}
use mathlib.Core.Logic.{◌↔◌}
use mathlib.Core.List.{List, [], ◌∷◌, ◌++◌, map}
use mathlib.Core.Option.{Option, none, some}
use Prim.Native.Nat.{ℕ, suc, ◌+◌, ◌≤◌}
use native.Mathlib.Omega.{arith}
use lib.ListN.{length}
use Rattle.coxeter.specs.answers.Answer.{Answer}
use Rattle.coxeter.specs.Kinds.{kind_of}
use Rattle.coxeter.specs.Windows.{window}
use Rattle.coxeter.specs.NormalForm.{normal_form}
use Rattle.coxeter.specs.Checks.{◌then◌, rank_refusal, word_refusal}
use Rattle.coxeter.specs.Calls.{front, Yields, writes, normal_form_of_word}
use Rattle.rules.specs.Calls.{Interface, Transition, rewrite_at, single}
use Rattle.rules.specs.Runs.{AcceptedWord, Result, Call, word_after, word_left, Meets, Run, Machine, machine, uses}
use Rattle.rules.specs.Demand3.{normal_form_of, NowhereFits, NowhereFitsOnce, UsedExactly, FourAnswers, NormalFormWritten, Demand3Holds}
use Rattle.rules.proofs.Ending.{value}
use Rattle.rules.proofs.Completeness.{rewrites_window, rewrites_letters, rewrites_lowers, rewrites_length}
use Rattle.rules.proofs.Completeness.{irreducible_iff, normal_form-least-window, same_normal_form_congruent}
use Rattle.rules.proofs.Calls.{accepted_least, accepted_letters, accepted_of_shorter, Lawful, single_lawful, stepped}
use Rattle.rules.proofs.Calls.{Moves, rewrote, stays, stepped_moves, word_after_moves}
use Rattle.rules.proofs.CallLists.{word_left_snoc}
use Rattle.rules.proofs.UsedRules.{result_of, stepped_used, stepped_answers}
use Rattle.rules.proofs.UsedRules.{irreducible_of_once, nowhere_fits_iff}
use Rattle.coxeter.proofs.FormLaws.{word_normal_form_eq_iff}
use Rattle.coxeter.proofs.Outcomes.{writes-written}
use Rattle.coxeter.proofs.Writes.{answers_short}

-- what a use takes from the measure
abbrev cost : Option (List ℕ) → ℕ
cost w = elim w [ none ↦ 0 | some v ↦ 1 ]

record WordKept (k n : ℕ) (u : List ℕ) (c : ℕ) (v : List ℕ) : Type 0 where
  accepted : AcceptedWord k n v
  shows : window (kind_of k) n v ≡ window (kind_of k) n u
  lower : c + value n v ≤ value n u

moves_kept : (k n : ℕ) {u : List ℕ} {w : Option (List ℕ)} {v : List ℕ} → AcceptedWord k n u → Moves (kind_of k) n u w v → WordKept k n u (cost w) v
moves_kept k n h (rewrote {v = v} r) = record {
  accepted = accepted_of_shorter v h (rewrites_length r) (rewrites_letters r (accepted_letters h));
  shows = sym (rewrites_window (kind_of k) n (accepted_least h) r);
  lower = omega (arith, rewrites_lowers r (accepted_letters h));
}
moves_kept k n h stays = record { accepted = h; shows = refl; lower = omega arith }

module _ {s : Interface} (law : Lawful s) (k n : ℕ) where
  -- ---- one call

  -- the machine's step for a call
  abbrev step_of : List ℕ → Call s → Transition s
  step_of u c = rewrite_at s k n u c.arguments.place c.arguments.outputs

  module _ (u : List ℕ) (c : Call s) (h : AcceptedWord k n u) (r : Meets s k n u c) where
    -- a call that meets its contract returns what the machine's step returns
    result_step : c.result ≡ result_of law (step_of u c)
    result_step i = record { answer = r.answer i; outputs = r.outputs i }

    step_moves : Moves (kind_of k) n u (s.new_word (step_of u c).answer (step_of u c).outputs) (step_of u c).word
    step_moves = stepped_moves law (accepted_least h) (stepped s k n u c.arguments.place c.arguments.outputs h)

    -- and leaves the word that the machine's step leaves
    word_after_step : word_after s u c.result ≡ (step_of u c).word
    word_after_step = ap (word_after s u) result_step ∙ word_after_moves s u (result_of law (step_of u c)) step_moves

    -- it used a rule exactly when one fits and no check refuses, and replaced its left side
    call_used : UsedExactly s k n u c (word_after s u c.result)
    call_used = rw word_after_step
        (subst⁻¹ (λ (t : Result s). UsedExactly s k n u (record { arguments = c.arguments; result = t }) (step_of u c).word)
        result_step (stepped_used law c.arguments h (stepped s k n u c.arguments.place c.arguments.outputs h)))

    -- and its answer is one of four, each exactly under its condition
    pub call_answers : FourAnswers s k n u c (word_after s u c.result)
    call_answers = rw word_after_step
        (subst⁻¹ (λ (t : Result s). FourAnswers s k n u (record { arguments = c.arguments; result = t }) (step_of u c).word)
        result_step (stepped_answers law c.arguments h (stepped s k n u c.arguments.place c.arguments.outputs h)))

    call_kept : WordKept k n u (cost (s.new_word c.result.answer c.result.outputs)) (word_after s u c.result)
    call_kept = rw word_after_step
        (subst⁻¹ (λ (t : Result s). WordKept k n u (cost (s.new_word t.answer t.outputs)) (step_of u c).word) result_step (moves_kept k n h step_moves))

  -- ---- lists of calls

  uses_cons : (c : Call s) (cs : List (Call s)) → uses s (c ∷ cs) ≡ cost (s.new_word c.result.answer c.result.outputs) + uses s cs
  unfolding uses
  uses_cons c cs = uses_cons_by_cases (s.new_word c.result.answer c.result.outputs)
    where
      uses_cons_by_cases : (w : Option (List ℕ)) → elim w [ none ↦ uses s cs | some v ↦ suc (uses s cs) ] ≡ cost w + uses s cs
      uses_cons_by_cases none = omega arith
      uses_cons_by_cases (some v) = omega arith

  -- the word that a list of calls leaves
  run_kept : (u : List ℕ) (cs : List (Call s)) → AcceptedWord k n u → Run s k n u cs → WordKept k n u (uses s cs) (word_left s u cs)
  unfolding word_left uses
  run_kept u [] h r = record { accepted = h; shows = refl; lower = omega arith }
  run_kept u (c ∷ cs) h r =
      let a = call_kept u c h r.0 in
      let t = run_kept (word_after s u c.result) cs a.accepted r.1 in
      record { accepted = t.accepted; shows = t.shows ∙ a.shows; lower = omega (arith, uses_cons c cs, a.lower, t.lower) }

  -- it is accepted again
  pub word_left_accepted : (u : List ℕ) (cs : List (Call s)) → AcceptedWord k n u → Run s k n u cs → AcceptedWord k n (word_left s u cs)
  word_left_accepted u cs h r = (run_kept u cs h r).accepted

  run_front : (u : List ℕ) (front rest : List (Call s)) → Run s k n u (front ++ rest) → Run s k n u front
  run_front u [] rest r = tt
  run_front u (c ∷ front) rest r = (r.0, run_front (word_after s u c.result) front rest r.1)

  run_rest : (u : List ℕ) (front rest : List (Call s)) → Run s k n u (front ++ rest) → Run s k n (word_left s u front) rest
  unfolding word_left
  run_rest u [] rest r = r
  run_rest u (c ∷ front) rest r = run_rest (word_after s u c.result) front rest r.1

  -- each call of the list
  module _ (u : List ℕ) (front : List (Call s)) (c : Call s) (rest : List (Call s)) (h : AcceptedWord k n u) (r : Run s k n u (front ++ (c ∷ rest))) where
    found_accepted : AcceptedWord k n (word_left s u front)
    found_accepted = word_left_accepted u front h (run_front u front (c ∷ rest) r)

    run_used : UsedExactly s k n (word_left s u front) c (word_left s u (front ++ (c ∷ [])))
    run_used = rw (word_left_snoc s u front c) (call_used (word_left s u front) c found_accepted (run_rest u front (c ∷ rest) r).0)

    run_answers : FourAnswers s k n (word_left s u front) c (word_left s u (front ++ (c ∷ [])))
    run_answers = rw (word_left_snoc s u front c) (call_answers (word_left s u front) c found_accepted (run_rest u front (c ∷ rest) r).0)

  -- what the calls return and leave is what the machine returns and leaves
  run_machine : (u : List ℕ) (cs : List (Call s)) → AcceptedWord k n u → Run s k n u cs
      → ◌≡◌ {A = Machine s} (record { results = map (λ (c : Call s). c.result) cs; word = word_left s u cs })
      (machine s k n u (map (λ (c : Call s). c.arguments) cs))
  unfolding word_left machine
  run_machine u [] h r = refl
  run_machine u (c ∷ cs) h r =
      let e = result_step u c h r.0 in
      let q =
      run_machine (word_after s u c.result) cs (call_kept u c h r.0).accepted r.1
      ∙ ap (λ (v : List ℕ). machine s k n v (map (λ (d : Call s). d.arguments) cs)) (word_after_step u c h r.0) in
      λ i. record { results = e i ∷ (q i).results; word = (q i).word }

  -- ---- the record

  -- the word left is the first word's normal form exactly when none fits anywhere in it
  normal_iff : (u v : List ℕ) → AcceptedWord k n v → window (kind_of k) n v ≡ window (kind_of k) n u → (v ≡ normal_form_of k n u) ↔ NowhereFits s k n v
  normal_iff u v h e =
      let f : normal_form_of k n v ≡ normal_form_of k n u = ap (normal_form (kind_of k) n) e in
      let i = irreducible_iff (kind_of k) n v (accepted_least h) (accepted_letters h) in
      let t = nowhere_fits_iff law k n v h in
      (λ q. t.0 (i.1 (q ∙ sym f)), λ g. i.0 (t.1 g) ∙ f)

  -- and it is as soon as none fitted once at each place
  normal_of_once : (u v : List ℕ) → AcceptedWord k n v → window (kind_of k) n v ≡ window (kind_of k) n u → NowhereFitsOnce s k n v → v ≡ normal_form_of k n u
  normal_of_once u v h e g =
      (irreducible_iff (kind_of k) n v (accepted_least h) (accepted_letters h)).0 (irreducible_of_once law k n v h g) ∙ ap (normal_form (kind_of k) n) e

-- the call for the normal form of an accepted word
normal_form_written : (k n : ℕ) (u before after : List ℕ) (a : Answer) → AcceptedWord k n u → Yields (normal_form_of_word k n u before) a after
    → NormalFormWritten k n u before after a
unfolding normal_form_of_word
normal_form_written k n u before after a h y =
    let w = normal_form_of k n u in
    let q = rank_refusal k n then word_refusal n u in
    let z : q ≡ 0 = rw (h.rank, h.word) in
    record {
      written = λ l. let r = writes-written (writes q w before) q q w before refl refl (length w) (front w before) z refl l refl in
          (y.0 ∙ sym r.0, y.1 ∙ sym r.1);
      short = λ l. answers_short q w before after a y z l;
    }

pub demand3_of : {s : Interface} → Lawful s → Demand3Holds s
demand3_of {s} law k n u h = record {
  most = value n u;
  follows = λ cs r.
      let t = run_kept law k n u cs h r in
      record {
        machines = run_machine law k n u cs h r;
        window_kept = λ front rest e.
            (run_kept law k n u front h (run_front law k n u front rest (subst (Run s k n u) e r))).shows;
        uses-at_most = omega (arith, t.lower);
        normal_exactly = normal_iff law k n u (word_left s u cs) t.accepted t.shows;
        normal_once = normal_of_once law k n u (word_left s u cs) t.accepted t.shows;
        used_exactly = λ front c rest e. run_used law k n u front c rest h (subst (Run s k n u) e r);
        four_answers = λ front c rest e. run_answers law k n u front c rest h (subst (Run s k n u) e r);
      };
  agree = λ v g. record {
    by_window = word_normal_form_eq_iff (kind_of k) n u v;
    by_relations = same_normal_form_congruent (kind_of k) n u v (accepted_least h) (accepted_letters h) (accepted_letters g);
  };
  least = normal_form-least-window (kind_of k) n u (accepted_least h);
  normal_form_call = λ before after a y. normal_form_written k n u before after a h y;
}

-- T11: the number that bounds the uses of a rule, the same for calls of every form
pub one-number_of : (k n : ℕ) (u : List ℕ) → AcceptedWord k n u
    → (most : ℕ) × ((s : Interface) → Lawful s → (cs : List (Call s)) → Run s k n u cs → uses s cs ≤ most)
one-number_of k n u h = (value n u, λ s law cs r. omega (arith, (run_kept law k n u cs h r).lower))

pub demand3 : Demand3Holds single
demand3 = demand3_of single_lawful
