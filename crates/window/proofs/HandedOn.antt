-- What a call answers where `?` hands on the refusal e of its checks, the number of which is q, and where they passed.
-- Assumes nothing.
use mathlib.Core.Path.{◌≡◌, refl, ap, ◌∙◌}
use mathlib.Core.Bool.{Bool, true, false}
use mathlib.Core.List.{List}
use Prim.Native.Nat.{ℕ}
use Rattle.std.specs.Prelude.{Result, Ok, Err, IsErr, IsErrAnd}
use Rattle.coxeter.specs.declared.LengthCounts.{LengthCounts}
use Rattle.coxeter.specs.declared.Refusal.{Refusal}
use Rattle.coxeter.specs.Refusals.{number}
use Rattle.coxeter.specs.Length.{Crossings}
use Rattle.coxeter.specs.Checks.{◌then◌, rank_refusal, word_refusal}
use Rattle.coxeter.specs.answers.Answer.{as_answer}
use Rattle.coxeter.specs.answers.Answer as answer
use Rattle.coxeter.specs.answers.Counted.{Counted, as_counted}
use Rattle.coxeter.specs.answers.Verdict.{as_verdict}
use Rattle.coxeter.specs.Calls.{Outcome, Yields, counted_of, writes, same_presets, presets_equal}
use Rattle.coxeter.proofs.Groups.{number_positive}
use Rattle.coxeter.proofs.Totals.{totalled}
use Rattle.coxeter.proofs.Outcomes.{writes-refused, counted_refused, verdict_refused, verdict_yes, verdict_no}

pub writes_handed_on : {X : Type 0} (o : Outcome X) (q : ℕ) (l out : List X) → o ≡ writes q l out → (r : Result ℕ Refusal) (e : Refusal)
    → IsErr r × IsErrAnd r (λ (x : Refusal). x ≡ e) → number e ≡ q → Yields o (as_answer r) out
writes_handed_on o q l out is (Ok x) e h s = absurd h.1
writes_handed_on o q l out is (Err x) e h s = writes-refused o q (number x) l out is (ap number h.1 ∙ s) (number_positive x)

pub counted_handed_on : (q : ℕ) (c : Crossings) (r : Result LengthCounts Refusal) (e : Refusal) → IsErr r × IsErrAnd r (λ (x : Refusal). x ≡ e) → number e ≡ q
    → as_counted r ≡ counted_of q c
counted_handed_on q c (Ok x) e h s = absurd h.1
counted_handed_on q c (Err x) e h s = counted_refused c (ap number h.1 ∙ s) (number_positive x)

-- the total of three counts, where counting them was refused
pub total_handed_on : {c : Counted} (r : Result ℕ Refusal) (e : Refusal) → IsErr r × IsErrAnd r (λ (x : Refusal). x ≡ e) → as_counted (Err e) ≡ c → as_answer r ≡ totalled c
total_handed_on (Ok x) e h s = absurd h.1
total_handed_on (Err x) e h s = ap (λ (y : Refusal). answer.Refused (number y)) h.1 ∙ ap totalled s

module _ (k n : ℕ) (u : List ℕ) (l m : ℕ) (v : List ℕ) where
  pub verdict_handed_on : (r : Result Bool Refusal) (e : Refusal) → IsErr r × IsErrAnd r (λ (x : Refusal). x ≡ e)
      → number e ≡ (rank_refusal k n then word_refusal n u then rank_refusal l m then word_refusal m v) → as_verdict r ≡ presets_equal k n u l m v
  verdict_handed_on (Ok x) e h s = absurd h.1
  verdict_handed_on (Err x) e h s = verdict_refused k n u l m v (ap number h.1 ∙ s) (number_positive x)

  pub verdict_passed : (t : Bool) → 0 ≡ (rank_refusal k n then word_refusal n u then rank_refusal l m then word_refusal m v)
      → t ≡ same_presets k n u l m v → as_verdict (Ok t) ≡ presets_equal k n u l m v
  verdict_passed true e s = verdict_yes k n u l m v e refl s refl
  verdict_passed false e s = verdict_no k n u l m v e refl s refl
