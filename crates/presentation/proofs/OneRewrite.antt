-- One reduction of an accepted word is what one call makes of it: the words to which the rules reduce it are exactly
-- those that one rewrite leaves at some place with some output.
-- Assumes nothing.
use mathlib.Core.Path.{◌≡◌, refl, sym, ap, ap₂, subst, ◌∙◌}
use mathlib.Core.Logic.{◌↔◌}
use mathlib.Core.List.{List}
use mathlib.Core.Option.{Option, some, some-injective, none-ne-some}
use Prim.Native.Nat.{ℕ}
use native.Mathlib.Omega.{arith}
use lib.ListN.{length, take}
use borrow.Author.Tests.{le-leb, lt-leb}
use Rattle.coxeter.specs.Kinds.{kind_of}
use Rattle.rules.specs.declared.Rewrite.{Rewrite}
use Rattle.rules.specs.declared.Rewrite.TheVariants.{Used}
use Rattle.rules.specs.Rules.{rules, rewritten}
use Rattle.rules.specs.Calls.{past_end, Transition, rewrite_at, Rewrote, new_word_in, single}
use Rattle.rules.specs.Runs.{AcceptedWord, Arguments}
use Rattle.rules.specs.Demand3.{Usable}
use Rattle.rules.proofs.CallLists.{new_word_exactly}
use Rattle.rules.proofs.Calls.{accepted_least, single_lawful, stepped, stepped_moves, Moves, rewrote, stays}
use Rattle.rules.proofs.UsedRules.{fits_inside, usable_changed}
use Rattle.rules.proofs.Fits.{first_fitting_some}
use Rattle.rules.proofs.Rewriting.{Rewrites}
use Rattle.presentation.specs.Reductions.{Reduces}
use Rattle.presentation.proofs.Confluence.{reduces_of_rewrites}
use Rattle.presentation.proofs.Presentations.{rules_present}

module _ (k n : ℕ) (u : List ℕ) (h : AcceptedWord k n u) where
  -- the call at the place of the rule, with an output as long as the new word
  call_of_reduction : (v : List ℕ) → Reduces (rules (kind_of k) n) u v
      → (p : ℕ) × (before after : List ℕ) × (a : Rewrite) × Rewrote single k n u p before after a × (single.new_word a after ≡ some v)
  unfolding past_end
  call_of_reduction v r =
      let (p, x, f, e) = ((rules_present (kind_of k) n (accepted_least h)).rewrite u v).0 r in
      let (m, g) = first_fitting_some (rules (kind_of k) n) u p x f in
      let a : Arguments single = record { place = p; outputs = v } in
      let b : Usable single k n u a x = record {
        listed = m;
        fitting = g;
        accepted = h;
        inside = lt-leb (length u) p (fits_inside h p x m g);
        room = le-leb (length (rewritten x u p)) (length v) (omega (arith, ap length e));
      } in
      let t = rewrite_at single k n u p v in (
        p,
        v,
        t.outputs,
        t.answer,
        record { answer = refl; outputs = refl },
        ap (λ (t : Transition single). single.new_word t.answer t.outputs) (usable_changed single k n u a x b)
            ∙ single_lawful.used_read x (rewritten x u p) v ∙ ap some e,
      )

  reduction_of_call : (v : List ℕ) (p : ℕ) (before after : List ℕ) (a : Rewrite) → Rewrote single k n u p before after a
      → single.new_word a after ≡ some v → Reduces (rules (kind_of k) n) u v
  reduction_of_call v p before after a w e =
      reduces_of_rewrites (kind_of k) n (accepted_least h)
      (reduction_of_call_by_cases (stepped_moves single_lawful (accepted_least h) (stepped single k n u p before h))
      (sym (ap₂ single.new_word w.answer w.outputs) ∙ e))
    where
      reduction_of_call_by_cases : {o : Option (List ℕ)} {x : List ℕ} → Moves (kind_of k) n u o x → o ≡ some v → Rewrites (kind_of k) n u v
      reduction_of_call_by_cases (rewrote {v = x} r) q = subst (Rewrites (kind_of k) n u) (some-injective x v q) r
      reduction_of_call_by_cases stays q = absurd (none-ne-some v q)

  -- U11, R16: an accepted word is reduced to another exactly if one rewrite of it, at some place and with some output,
  -- answers that a rule was used and leaves that word at the front of the output
  pub reduces_by_call : (v : List ℕ) → Reduces (rules (kind_of k) n) u v
      ↔ ((p : ℕ) × (before after : List ℕ) × (f i j l : ℕ) × Rewrote single k n u p before after (Used f i j l) × (take l after ≡ v))
  unfolding new_word_in
  reduces_by_call v = (
    λ r.
        let (p, before, after, a, w, e) = call_of_reduction v r in
        let (f, i, j, l, q, s) = (new_word_exactly a after v).0 e in
        (p, before, after, f, i, j, l, subst (Rewrote single k n u p before after) q w, sym s),
    λ (p, before, after, f, i, j, l, w, e). reduction_of_call v p before after (Used f i j l) w (ap some e),
  )
