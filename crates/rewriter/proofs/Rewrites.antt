-- What `rewrite_at` answers at each of its returns is what the step of the definitions answers: a refusal, none
-- fits, or the rule that fits, which is known by what the search hands on of it.
--
-- Sections: the rule that the search hands on; refusals; an accepted word and a place in it.
-- Assumes nothing.
use mathlib.Core.Path.{◌≡◌, refl, sym, ap, ◌∙◌}
use mathlib.Core.Bool.{true}
use mathlib.Core.List.{List}
use mathlib.Core.Option.{Option, none, some}
use Prim.Native.Nat.{ℕ, ◌+◌, ◌-◌, ◌≤◌, ◌<◌}
use native.Mathlib.Omega.{arith}
use lib.ListN.{length, take, drop, length-append, length-drop}
use lib.Seq.{take-append_seam}
use borrow.Author.Tests.{ne_eqb, lt-leb, le-leb}
use Rattle.coxeter.specs.declared.Kind.{Kind}
use Rattle.coxeter.specs.Kinds.{kind_of, least}
use Rattle.coxeter.specs.Checks.{check, ◌then◌, rank_refusal, word_refusal}
use Rattle.coxeter.specs.Calls.{front}
use Rattle.rules.specs.declared.Rewrite.TheVariants.{Used, NoneFits, Refused}
use Rattle.rewriter.specs.declared.search.Fitting.{Fitting}
use Rattle.std.specs.Prelude.{Option as Maybe, Some, None}
use Rattle.rules.specs.Rules.{Rule, rules, begins, fits, first_fitting, rewritten}
use Rattle.rules.specs.Calls.{past_end, Transition, changed, unchanged, rewrite_by, rewrite_at, Rewrote, single}
use Rattle.rules.specs.Runs.{AcceptedWord}
use Rattle.rules.proofs.RuleList.{Listed, listed_of_mem}
use Rattle.rules.proofs.Fits.{begins_split, first_fitting_some, left_nonempty}
use Rattle.rules.proofs.Calls.{rewrite_at_accepted}
use Rattle.rules.proofs.Scan.{shown_rule, right_length, rule_at}
use Rattle.rules.proofs.ScanFamilies.{ends_of_listed, shown_of_listed}
use Rattle.rewriter.proofs.search.Searches.{shown, fitting_of, along_le}
use Rattle.rewriter.proofs.writing.Words.{length_new}
use Rattle.coxeter.proofs.Refusals.{then_assoc, then_refused}
use Rattle.coxeter.proofs.TestLaws.{impossible}

-- ---- the rule that the search hands on

-- r is the rule that fits at p
pub record Fitted (k : Kind) (n : ℕ) (u : List ℕ) (p : ℕ) (r : Fitting) : Type 0 where
  pub fitting : first_fitting (rules k n) u p ≡ some (shown_rule n r.family r.i r.j (take r.left (drop p u)))
  pub inside : p + r.left ≤ length u
  pub nonempty : 1 ≤ r.left
  pub low : r.i ≤ n

first_le_of_listed : (k : Kind) (n : ℕ) (r : Rule) → least k ≤ n → Listed k n r → r.i ≤ n
unfolding rule_at
first_le_of_listed k n r h w =
    let e = ends_of_listed k n h w in
    rw e.shape (along_le k n e.i e.j e.along).0

fits-begins : (r : Rule) (u : List ℕ) (p : ℕ) → fits r u p ≡ true → begins r.left (drop p u) ≡ true
unfolding fits
fits-begins r u p e = e

pub fitted : {k : Kind} {n : ℕ} {u : List ℕ} {p : ℕ} {r : Fitting} {q : Maybe Fitting} → least k ≤ n → p < length u → q ≡ fitting_of (first_fitting (rules k n) u p)
    → q ≡ Some r → Fitted k n u p r
fitted {k} {n} {u} {p} {r} h g e t = fitted_by_cases (first_fitting (rules k n) u p) refl (sym e ∙ t)
  where
    fitted_by_cases : (o : Option Rule) → first_fitting (rules k n) u p ≡ o → fitting_of o ≡ Some r → Fitted k n u p r
    fitted_by_cases none c d = impossible (cc)
    fitted_by_cases (some x) c d =
        let a = first_fitting_some (rules k n) u p x c in
        let w = listed_of_mem k n h x a.0 in
        let b = begins_split x.left (drop p u) (fits-begins x u p a.1) in
        let same : shown x.family x.i x.j (length x.left) ≡ r = cc in
        let ef : x.family ≡ r.family = ap (λ (q : Fitting). q.family) same in
        let ei : x.i ≡ r.i = ap (λ (q : Fitting). q.i) same in
        let ej : x.j ≡ r.j = ap (λ (q : Fitting). q.j) same in
        let el : length x.left ≡ r.left = ap (λ (q : Fitting). q.left) same in
        let s : x.left ≡ take r.left (drop p u) = rw (← el, b.1) (sym (take-append_seam x.left b.0)) in
        record {
          fitting = c ∙ ap some (shown_of_listed k n x h w ∙ rw (ef, ei, ej, s));
          inside = omega (arith, simp (length-drop, length-append) at (ap length b.1));
          nonempty = rw el at (left_nonempty k n h x a.0);
          low = rw ei at (first_le_of_listed k n x h w);
        }

-- ---- refusals

rewrote_by : (k n : ℕ) (u : List ℕ) (p : ℕ) (out : List ℕ) {t : Transition single} → rewrite_at single k n u p out ≡ t
    → Rewrote single k n u p out t.outputs t.answer
rewrote_by k n u p out e = record { answer = sym (ap (λ (t : Transition single). t.answer) e); outputs = sym (ap (λ (t : Transition single). t.outputs) e) }

rewrote_refused : (k n : ℕ) (u : List ℕ) (p : ℕ) (out : List ℕ) (r : ℕ) → rewrite_at single k n u p out ≡ unchanged single (Refused r) u out
    → Rewrote single k n u p out out (Refused r)
rewrote_refused k n u p out r e = rewrote_by k n u p out e

pub rewrote_preset : {k n : ℕ} {u : List ℕ} {p : ℕ} {out : List ℕ} {r : ℕ} → r ≡ (rank_refusal k n then word_refusal n u) → (r ≡ 0 → ⊥)
    → Rewrote single k n u p out out (Refused r)
unfolding rewrite_at
rewrote_preset {k} {n} {u} {p} {out} {r} e f =
    let twelfth = check 12 (past_end u p) in
    let q : (rank_refusal k n then word_refusal n u then twelfth) ≡ r =
    sym (then_assoc (rank_refusal k n) (word_refusal n u) twelfth) ∙ sym (then_refused (rank_refusal k n then word_refusal n u) r twelfth e f) in
    rewrote_refused k n u p out r (rw (q, ne_eqb r 0 f))

pub rewrote_place : {k n : ℕ} {u : List ℕ} {p : ℕ} {out : List ℕ} → AcceptedWord k n u → length u ≤ p → Rewrote single k n u p out out (Refused 12)
unfolding past_end
rewrote_place {k} {n} {u} {p} {out} h l = rewrote_refused k n u p out 12 (rewrite_at_accepted single k n u p out h ∙ rw (le-leb (length u) p l))

-- ---- an accepted word and a place in it

module _ {k n : ℕ} {u : List ℕ} (p : ℕ) (out : List ℕ) (h : AcceptedWord k n u) (g : p < length u) where
  rewrite_at_placed : rewrite_at single k n u p out ≡ rewrite_by single (first_fitting (rules (kind_of k) n) u p) u p out
  unfolding past_end
  rewrite_at_placed = rewrite_at_accepted single k n u p out h ∙ rw (lt-leb (length u) p g)

  pub rewrote_none : {q : Maybe Fitting} → q ≡ fitting_of (first_fitting (rules (kind_of k) n) u p) → q ≡ None → Rewrote single k n u p out out NoneFits
  unfolding rewrite_by
  rewrote_none e t = rewrote_none_by_cases (first_fitting (rules (kind_of k) n) u p) refl (sym e ∙ t)
    where
      rewrote_none_by_cases : (o : Option Rule) → first_fitting (rules (kind_of k) n) u p ≡ o → fitting_of o ≡ None → Rewrote single k n u p out out NoneFits
      rewrote_none_by_cases none c d = rewrote_by k n u p out {t = rewrite_by single none u p out}
          (rewrite_at_placed ∙ ap (λ (o : Option Rule). rewrite_by single o u p out) c)
      rewrote_none_by_cases (some x) c d = impossible (cc)

  module _ {r : Fitting} {m : ℕ} (w : Fitted (kind_of k) n u p r) (e : m ≡ length u - r.left + right_length r.family r.left) where
    abbrev rule : Rule
    rule = shown_rule n r.family r.i r.j (take r.left (drop p u))

    length-rewritten : length (rewritten rule u p) ≡ m
    length-rewritten = length_new n r.family r.i r.j u p r.left w.inside w.nonempty ∙ sym e

    -- check 14
    pub rewrote_short : length out < m → Rewrote single k n u p out out (Refused 14)
    unfolding rewrite_by
    rewrote_short t =
        rewrote_refused k n u p out 14 (rewrite_at_placed ∙ rw (w.fitting, length-rewritten, lt-leb m (length out) t))

    pub rewrote_used : {after : List ℕ} → m ≤ length out → after ≡ front (rewritten rule u p) out → Rewrote single k n u p out after (Used r.family r.i r.j m)
    unfolding rewrite_by shown_rule
    rewrote_used s q =
        rw (← q, length-rewritten) at
        (rewrote_by k n u p out {t = changed single rule (rewritten rule u p) out}
        (rewrite_at_placed ∙ rw (w.fitting, length-rewritten, le-leb m (length out) s)))
