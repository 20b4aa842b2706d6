-- Calls of two forms use rules equally often. For a list of calls of one form there is a list of calls of the other
-- with as many uses that leaves the same word: each call that used a rule is made once more, with outputs that have
-- room, and every other call left its word. So what bounds the uses by calls of one form bounds those of the other.
-- Assumes nothing.
use mathlib.Core.Path.{◌≡◌, refl, sym, ap, subst, subst⁻¹, ◌∙◌}
use mathlib.Core.Bool.{true}
use mathlib.Core.List.{List, [], ◌∷◌}
use mathlib.Core.Option.{none, some}
use Prim.Native.Nat.{ℕ, suc, ◌≤◌}
use native.Mathlib.Omega.{arith}
use lib.ListN.{length}
use borrow.Author.Tests.{lt-leb}
use Rattle.coxeter.specs.Kinds.{kind_of}
use Rattle.rules.specs.Rules.{rules, rewritten}
use Rattle.rules.specs.Calls.{Interface, Transition, past_end, rewrite_at}
use Rattle.rules.specs.Runs.{AcceptedWord, Arguments, Result, Call, word_after, word_left, Meets, Run, uses}
use Rattle.rules.specs.Demand3.{Usable}
use Rattle.rules.proofs.Fits.{first_fitting_some}
use Rattle.rules.proofs.Calls.{Lawful, Stepped, used, none_fits, past, short, stepped}
use Rattle.rules.proofs.UsedRules.{result_of, usable_changed}
use Rattle.rules.proofs.Demand3.{word_left_accepted}

-- a list of calls of the form t that leaves the word of a list of calls of the form s, with as many uses
record Again (s t : Interface) (k n : ℕ) (u : List ℕ) (cs : List (Call s)) : Type 0 where
  calls : List (Call t)
  run : Run t k n u calls
  left : word_left t u calls ≡ word_left s u cs
  count : uses t calls ≡ uses s cs

module _ {s t : Interface} (from : Lawful s) (to : Lawful t) (roomy : (l : ℕ) → (o : t.Outputs) × (t.room o l ≡ true)) (k n : ℕ) where
  -- a result with a new word
  after_used : (f : Interface) (u : List ℕ) (r : Result f) (w : List ℕ) → f.new_word r.answer r.outputs ≡ some w → word_after f u r ≡ w
  unfolding word_after
  after_used f u r w e = rw (e, word_after)

  after_unused : (f : Interface) (u : List ℕ) (r : Result f) → f.new_word r.answer r.outputs ≡ none → word_after f u r ≡ u
  unfolding word_after
  after_unused f u r e = rw (e, word_after)

  -- a call that left its word is left out
  unused : (u : List ℕ) (a : Arguments s) (r : Result s) (cs : List (Call s)) → s.new_word r.answer r.outputs ≡ none
      → Again s t k n (word_after s u r) cs → Again s t k n u (record { arguments = a; result = r } ∷ cs)
  unfolding word_left uses
  unused u a r cs e rest =
      let x : Again s t k n u cs = subst (λ (v : List ℕ). Again s t k n v cs) (after_unused s u r e) rest in
      record {
        calls = x.calls;
        run = x.run;
        left = x.left ∙ ap (λ (v : List ℕ). word_left s v cs) (sym (after_unused s u r e));
        count = x.count ∙ sym (rw (e, uses));
      }

  -- one that used the rule x is made again
  again_step : (u : List ℕ) (a : Arguments s) {d : Transition s} (cs : List (Call s)) → AcceptedWord k n u
      → Stepped s (kind_of k) n u a.place a.outputs d
      → Again s t k n (word_after s u (result_of from d)) cs → Again s t k n u (record { arguments = a; result = result_of from d } ∷ cs)
  unfolding word_left uses past_end
  again_step u a cs h (used x e l q) rest =
      let w = rewritten x u a.place in
      let o = roomy (length w) in
      let f = first_fitting_some (rules (kind_of k) n) u a.place x e in
      let b : Arguments t = record { place = a.place; outputs = o.0 } in
      let usable : Usable t k n u b x = record { listed = f.0; fitting = f.1; accepted = h; inside = lt-leb (length u) a.place l; room = o.1 } in
      let c : Call t = record { arguments = b; result = record { answer = t.used x (length w); outputs = t.written x w o.0 } } in
      let g = usable_changed t k n u b x usable in
      let m : Meets t k n u c = record {
        answer = sym (ap (λ (y : Transition t). y.answer) g);
        outputs = sym (ap (λ (y : Transition t). y.outputs) g);
      } in
      let there = from.used_read x w a.outputs in
      let here = to.used_read x w o.0 in
      let z : Again s t k n w cs = subst (λ (v : List ℕ). Again s t k n v cs) (after_used s u _ w there) rest in
      let same = after_used t u c.result w here in
      record {
        calls = c ∷ z.calls;
        run = (m, subst⁻¹ (λ (v : List ℕ). Run t k n v z.calls) same z.run);
        left = ap (λ (v : List ℕ). word_left t v z.calls) same ∙ z.left ∙ ap (λ (v : List ℕ). word_left s v cs) (sym (after_used s u _ w there));
        count = rw (here, there, uses) (ap suc z.count);
      }
  again_step u a cs h (none_fits e l) rest = unused u a _ cs (from.none_unused a.outputs) rest
  again_step u a cs h (past l) rest = unused u a _ cs (from.refused_unused 11 a.outputs) rest
  again_step u a cs h (short x e l q) rest = unused u a _ cs (from.refused_unused 13 a.outputs) rest

  again_cons : (u : List ℕ) (c : Call s) (cs : List (Call s)) → AcceptedWord k n u → Meets s k n u c
      → Again s t k n (word_after s u c.result) cs → Again s t k n u (c ∷ cs)
  again_cons u c cs h m =
      let a = c.arguments in
      let e : c.result ≡ result_of from (rewrite_at s k n u a.place a.outputs) = λ i. record { answer = m.answer i; outputs = m.outputs i } in
      subst⁻¹ (λ (r : Result s). Again s t k n (word_after s u r) cs → Again s t k n u (record { arguments = a; result = r } ∷ cs)) e
      (again_step u a cs h (stepped s k n u a.place a.outputs h))

  again : (u : List ℕ) (cs : List (Call s)) → AcceptedWord k n u → Run s k n u cs → Again s t k n u cs
  unfolding word_left uses
  again u [] h r = record { calls = []; run = tt; left = refl; count = refl }
  again u (c ∷ cs) h r =
      let a : AcceptedWord k n (word_after s u c.result) = word_left_accepted from k n u (c ∷ []) h (r.0, tt) in
      again_cons u c cs h r.0 (again (word_after s u c.result) cs a r.1)

  -- every number that bounds the uses by calls of the form t bounds those by calls of the form s
  pub bound_of_other : (u : List ℕ) → AcceptedWord k n u → (most : ℕ) → ((ds : List (Call t)) → Run t k n u ds → uses t ds ≤ most)
      → (cs : List (Call s)) → Run s k n u cs → uses s cs ≤ most
  bound_of_other u h most b cs r = let x = again u cs h r in omega (arith, b x.calls x.run, x.count)
