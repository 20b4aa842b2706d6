-- One rewrite of an accepted word, by a call of any form: it uses the first fitting rule, or none fits, or check 12
-- or 14 refuses it; its result leaves the word of the transition, which stays or is rewritten by that rule. By cases on
-- the checks in their order. Not here: exactly when a rule is used (UsedRules), and what lists of calls keep (Demand3).
--
-- Sections: accepted words; forms of calls; what a call does; the word that it leaves; the library's own call.
-- Assumes nothing.
use mathlib.Core.Path.{◌≡◌, refl, sym, ap}
use mathlib.Core.Bool.{Bool, true, false}
use mathlib.Core.List.{List, []}
use mathlib.Core.Option.{Option, none, some}
use Prim.Native.Nat.{ℕ, suc, ◌≤◌, ◌<◌}
use native.Mathlib.Nat.{lt_of_not-le}
use native.Mathlib.Decide.{dec_le}
use native.Mathlib.Omega.{arith}
use lib.Dec.{eqb}
use lib.ListN.{length}
use borrow.Author.Tests.{le-ltb, le-leb, lt-leb}
use Rattle.coxeter.specs.declared.Kind.{Kind}
use Rattle.coxeter.specs.Kinds.{pick, kind_of, least}
use Rattle.coxeter.specs.Checks.{check, too_long, wrong_letter, word_refusal}
use Rattle.rules.specs.declared.Rewrite.TheVariants.{Used}
use Rattle.rules.specs.Rules.{Rule, rules, first_fitting, rewritten}
use Rattle.rules.specs.Calls.{past_end, Interface, Transition, changed, unchanged, rewrite_by, rewrite_at, Rewrote, new_word_in, single}
use Rattle.rules.specs.Runs.{AcceptedWord, Result, word_after}
use Rattle.rules.proofs.Rewriting.{Rewrites}
use Rattle.rules.proofs.Fits.{first_fitting_some}
use Rattle.rules.proofs.Fits.{rewrites_of_fits}
use Rattle.rules.proofs.Completeness.{rewrites_length}
use Rattle.coxeter.proofs.FrontLaws.{take-front}
use Rattle.coxeter.proofs.Acceptance.{rank_within, letters_accepted, length_accepted}
use Rattle.coxeter.proofs.TestLaws.{impossible, Apart}

-- ---- accepted words

pub accepted_least : {k n : ℕ} {u : List ℕ} → AcceptedWord k n u → least (kind_of k) ≤ n
accepted_least {k} {n} h = (rank_within k n h.rank).0

pub accepted_letters : {k n : ℕ} {u : List ℕ} → AcceptedWord k n u → wrong_letter n u ≡ false
accepted_letters {n} {u} h = letters_accepted n u h.word

-- a word of steps that is no longer than an accepted one
pub accepted_of_shorter : {k n : ℕ} {u : List ℕ} (v : List ℕ) → AcceptedWord k n u → length v ≤ length u → wrong_letter n v ≡ false → AcceptedWord k n v
unfolding word_refusal too_long
accepted_of_shorter {k} {n} {u} v h l e = record {
  rank = h.rank;
  word = rw (le-ltb 4096 (length v) (omega (arith, length_accepted n u h.word)), e);
}

-- ---- forms of calls

-- the answers of a form tell its four cases apart, and the new word can be read off
pub record Lawful (s : Interface) : Type 0 where
  pub used_read : (x : Rule) (w : List ℕ) (o : s.Outputs) → s.new_word (s.used x (length w)) (s.written x w o) ≡ some w
  pub none_unused : (o : s.Outputs) → s.new_word s.none_fits o ≡ none
  pub refused_unused : (r : ℕ) (o : s.Outputs) → s.new_word (s.refused (suc r)) o ≡ none
  pub none_not_12 : Apart s.none_fits (s.refused 12)
  pub none_not_14 : Apart s.none_fits (s.refused 14)
  pub refused_apart : Apart (s.refused 12) (s.refused 14)
  -- some outputs
  pub anything : s.Outputs

pub single_lawful : Lawful single
unfolding new_word_in
single_lawful = record {
  used_read = λ x w out. ap some (take-front w out (length w) refl);
  none_unused = λ o. refl;
  refused_unused = λ r o. refl;
  none_not_12 = λ e. cc;
  none_not_14 = λ e. cc;
  refused_apart = λ e. cc;
  anything = [];
}

-- ---- what a call does

-- each rewrite of an accepted word, with why it is so
pub data Stepped (s : Interface) (k : Kind) (n : ℕ) (u : List ℕ) (p : ℕ) (o : s.Outputs) : Transition s → Type 0 where
  used : (x : Rule) → first_fitting (rules k n) u p ≡ some x → p < length u → s.room o (length (rewritten x u p)) ≡ true
      → Stepped s k n u p o (changed s x (rewritten x u p) o)
  none_fits : first_fitting (rules k n) u p ≡ none → p < length u → Stepped s k n u p o (unchanged s s.none_fits u o)
  past : length u ≤ p → Stepped s k n u p o (unchanged s (s.refused 12) u o)
  short : (x : Rule) → first_fitting (rules k n) u p ≡ some x → p < length u → s.room o (length (rewritten x u p)) ≡ false
      → Stepped s k n u p o (unchanged s (s.refused 14) u o)

stepped_by : (s : Interface) (k : Kind) (n : ℕ) (u : List ℕ) (p : ℕ) (o : s.Outputs) (f : Option Rule) → first_fitting (rules k n) u p ≡ f → p < length u
    → Stepped s k n u p o (rewrite_by s f u p o)
unfolding rewrite_by
stepped_by s k n u p o none e l = none_fits e l
stepped_by s k n u p o (some x) e l = stepped_by_by_cases (s.room o (length (rewritten x u p))) refl
  where
    stepped_by_by_cases : (t : Bool) → s.room o (length (rewritten x u p)) ≡ t
        → Stepped s k n u p o (pick t (changed s x (rewritten x u p) o) (unchanged s (s.refused 14) u o))
    stepped_by_by_cases true q = used x e l q
    stepped_by_by_cases false q = short x e l q

-- an accepted word passes checks 5 to 8, and then check 12 and the fitting rule decide
pub rewrite_at_accepted : (s : Interface) (k n : ℕ) (u : List ℕ) (p : ℕ) (o : s.Outputs) → AcceptedWord k n u
    → rewrite_at s k n u p o ≡ pick (past_end u p) (unchanged s (s.refused 12) u o) (rewrite_by s (first_fitting (rules (kind_of k) n) u p) u p o)
unfolding rewrite_at
rewrite_at_accepted s k n u p o h = rw (h.rank, h.word) (rewrite_at_accepted_by_cases (past_end u p))
  where
    rewrite_at_accepted_by_cases : (t : Bool)
        → pick (eqb (check 12 t) 0) (rewrite_by s (first_fitting (rules (kind_of k) n) u p) u p o) (unchanged s (s.refused (check 12 t)) u o)
        ≡ pick t (unchanged s (s.refused 12) u o) (rewrite_by s (first_fitting (rules (kind_of k) n) u p) u p o)
    rewrite_at_accepted_by_cases true = refl
    rewrite_at_accepted_by_cases false = refl

pub stepped : (s : Interface) (k n : ℕ) (u : List ℕ) (p : ℕ) (o : s.Outputs) → AcceptedWord k n u → Stepped s (kind_of k) n u p o (rewrite_at s k n u p o)
unfolding past_end
stepped s k n u p o h = rw (rewrite_at_accepted s k n u p o h) (elim (dec_le (length u) p) [
  | yes l ↦ rw (le-leb (length u) p l) (past l)
  | no l ↦ rw (lt-leb (length u) p (lt_of_not-le l)) (stepped_by s (kind_of k) n u p o (first_fitting (rules (kind_of k) n) u p) refl (lt_of_not-le l))
])

-- ---- the word that a call leaves

-- the word stays, or a rule rewrites it; beside it the new word that the result has
pub data Moves (k : Kind) (n : ℕ) (u : List ℕ) : Option (List ℕ) → List ℕ → Type 0 where
  rewrote : {v : List ℕ} → Rewrites k n u v → Moves k n u (some v) v
  stays : Moves k n u none u

module _ {s : Interface} (law : Lawful s) where
  -- the rule that a call uses rewrites its word
  pub stepped_moves : {k : Kind} {n : ℕ} {u : List ℕ} {p : ℕ} {o : s.Outputs} {t : Transition s} → least k ≤ n → Stepped s k n u p o t
      → Moves k n u (s.new_word t.answer t.outputs) t.word
  stepped_moves {k} {n} {u} {p} {o} h (used x e l q) =
      let f = first_fitting_some (rules k n) u p x e in
      rw (law.used_read x (rewritten x u p) o) (rewrote (rewrites_of_fits k n h x f.0 u p (omega arith) f.1))
  stepped_moves {o} h (none_fits e l) = rw (law.none_unused o) stays
  stepped_moves {o} h (past l) = rw (law.refused_unused 11 o) stays
  stepped_moves {o} h (short x e l q) = rw (law.refused_unused 13 o) stays

-- the word that is read off the result
pub word_after_moves : {k : Kind} {n : ℕ} (s : Interface) (u : List ℕ) (r : Result s) {v : List ℕ} → Moves k n u (s.new_word r.answer r.outputs) v
    → word_after s u r ≡ v
unfolding word_after
word_after_moves {k} {n} s u r m = word_after_moves_by_cases m
  where
    word_after_moves_by_cases : {w : Option (List ℕ)} {x : List ℕ} → Moves k n u w x → elim w [ none ↦ u | some y ↦ y ] ≡ x
    word_after_moves_by_cases (rewrote r) = refl
    word_after_moves_by_cases stays = refl

-- ---- the library's own call

-- the new word is no longer than the word
pub used_length : {k n : ℕ} {u : List ℕ} {p : ℕ} {before after : List ℕ} (f i j l : ℕ) → AcceptedWord k n u
    → Rewrote single k n u p before after (Used f i j l) → l ≤ length u
used_length {k} {n} {u} {p} {before} f i j l h w = used_length_by_cases (stepped single k n u p before h) (sym w.answer)
  where
    used_length_by_cases : {t : Transition single} → Stepped single (kind_of k) n u p before t → t.answer ≡ Used f i j l → l ≤ length u
    used_length_by_cases (used x e m q) z =
        let g = first_fitting_some (rules (kind_of k) n) u p x e in
        let same : l ≡ length (rewritten x u p) = cc in
        omega (arith, rewrites_length (rewrites_of_fits (kind_of k) n (accepted_least h) x g.0 u p (omega arith) g.1))
    used_length_by_cases (none_fits e m) z = impossible (cc)
    used_length_by_cases (past m) z = impossible (cc)
    used_length_by_cases (short x e m q) z = impossible (cc)
