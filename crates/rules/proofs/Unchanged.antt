-- A rewrite that is refused, or that finds that none fits, changes no byte of its output and leaves the word: for
-- every kind, rank, word, place and output, accepted or not. By cases on the refusal, on the rule that fits and on
-- check 14: each transition that does not stay uses a rule.
-- Assumes nothing.
use mathlib.Core.Path.{◌≡◌, refl, sym, ◌∙◌}
use mathlib.Core.Bool.{Bool, true, false}
use mathlib.Core.List.{List}
use mathlib.Core.Option.{Option, none, some}
use Prim.Native.Nat.{ℕ}
use lib.Dec.{eqb, leb}
use lib.ListN.{length}
use Rattle.coxeter.specs.Kinds.{pick, kind_of}
use Rattle.coxeter.specs.Checks.{check, ◌then◌, rank_refusal, word_refusal}
use Rattle.coxeter.proofs.TestLaws.{impossible, Apart}
use Rattle.rules.specs.declared.Rewrite.TheVariants.{Used, NoneFits, Refused}
use Rattle.rules.specs.declared.Rewrite.{Rewrite}
use Rattle.rules.specs.Rules.{Rule, rules, first_fitting, rewritten}
use Rattle.rules.specs.Calls.{past_end, Transition, changed, unchanged, rewrite_by, rewrite_at, Rewrote, single}

-- the output and the word are as they were, or a rule is used
data KeptOrUsed (u out : List ℕ) : Transition single → Type 0 where
  stays : {t : Transition single} → t.outputs ≡ out → t.word ≡ u → KeptOrUsed u out t
  used : {t : Transition single} (f i j l : ℕ) → t.answer ≡ Used f i j l → KeptOrUsed u out t

pick_kept : (b : Bool) (u out : List ℕ) (x y : Transition single) → KeptOrUsed u out x → KeptOrUsed u out y → KeptOrUsed u out (pick b x y)
pick_kept true u out x y h g = h
pick_kept false u out x y h g = g

rewrite_by_kept : (o : Option Rule) (u : List ℕ) (p : ℕ) (out : List ℕ) → KeptOrUsed u out (rewrite_by single o u p out)
unfolding rewrite_by
rewrite_by_kept none u p out = stays refl refl
rewrite_by_kept (some x) u p out =
    let w = rewritten x u p in
    pick_kept (leb (length w) (length out)) u out (changed single x w out) (unchanged single (Refused 14) u out)
    (used x.family x.i x.j (length w) refl) (stays refl refl)

rewrite_at_kept : (k n : ℕ) (u : List ℕ) (p : ℕ) (out : List ℕ) → KeptOrUsed u out (rewrite_at single k n u p out)
unfolding rewrite_at
rewrite_at_kept k n u p out =
    let r = rank_refusal k n then word_refusal n u then check 12 (past_end u p) in
    pick_kept (eqb r 0) u out (rewrite_by single (first_fitting (rules (kind_of k) n) u p) u p out) (unchanged single (Refused r) u out)
    (rewrite_by_kept (first_fitting (rules (kind_of k) n) u p) u p out) (stays refl refl)

-- an answer that is not of a used rule
kept_stays : {u out : List ℕ} {t : Transition single} (a : Rewrite) → ((f i j l : ℕ) → Apart (Used f i j l) a) → KeptOrUsed u out t → t.answer ≡ a
    → (t.outputs ≡ out) × (t.word ≡ u)
kept_stays a apart (stays b w) h = (b, w)
kept_stays a apart (used f i j l e) h = impossible (apart f i j l (sym e ∙ h))

module _ (k n : ℕ) (u : List ℕ) (p : ℕ) (out : List ℕ) where
  pub rewrite_refused-unchanged : (r : ℕ) → (rewrite_at single k n u p out).answer ≡ Refused r
      → ((rewrite_at single k n u p out).outputs ≡ out) × ((rewrite_at single k n u p out).word ≡ u)
  rewrite_refused-unchanged r = kept_stays (Refused r) (λ f i j l e. cc) (rewrite_at_kept k n u p out)

  pub rewrite_none_fits_unchanged : (rewrite_at single k n u p out).answer ≡ NoneFits
      → ((rewrite_at single k n u p out).outputs ≡ out) × ((rewrite_at single k n u p out).word ≡ u)
  rewrite_none_fits_unchanged = kept_stays NoneFits (λ f i j l e. cc) (rewrite_at_kept k n u p out)

-- D6, I19: a call that is refused leaves its output as it was lent, whatever it was given
pub refused_rewrite_unchanged : {k n : ℕ} {u : List ℕ} {p : ℕ} {before after : List ℕ} {a : Rewrite} → Rewrote single k n u p before after a
    → (r : ℕ) → a ≡ Refused r → after ≡ before
refused_rewrite_unchanged {k} {n} {u} {p} {before} w r e = w.outputs ∙ (rewrite_refused-unchanged k n u p before r (sym w.answer ∙ e)).0
