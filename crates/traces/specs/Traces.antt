-- The rewriting to its end, step by step, and what its two calls answer, for every input (T19 to T25, I20 and I21
-- of the specification).
use Rattle.std.specs.Prelude.{◌≡◌, Bool, false, ◌||◌, List, [], ◌∷◌, map, ℕ, zero, suc, ◌+◌, ◌^◌, ◌<◌, eqb, length, take}
use Rattle.std.proofs.Math.Option.{Option, none, some}
use Rattle.coxeter.specs.answers.Answer.{Answer}
use Rattle.coxeter.specs.declared.Kind.{Kind}
use Rattle.coxeter.specs.Kinds.{pick, kind_of}
use Rattle.coxeter.specs.Checks.{check, ◌then◌, too_short, rank_refusal, word_refusal}
use Rattle.coxeter.specs.Calls.{answer_of, written}
use Rattle.rules.specs.declared.Rewrite.{Rewrite}
use Rattle.rules.specs.declared.Rewrite.TheVariants.{Used, NoneFits}
use Rattle.rules.specs.Rules.{Rule, rules, first_fitting, rewritten}
use Rattle.rules.specs.Calls.{Rewrote, single}
use Rattle.rules.specs.Demand3.{NowhereFits}
use Rattle.traces.specs.answers.ToEnd.{ToEnd}
use Rattle.traces.specs.answers.ToEnd.{Ended, Refused}

-- ---- the rewriting

-- T19: a rule with the place where it fits
pub record Redex : Type 0 where
  pub place : ℕ
  pub rule : Rule

-- T19: the lowest place where a rule fits, among the t places from p on
unfoldable pub lowest_from : Kind → ℕ → List ℕ → ℕ → ℕ → Option Redex
lowest_from k n u p zero = none
lowest_from k n u p (suc t) =
    elim (first_fitting (rules k n) u p) [ none ↦ lowest_from k n u (suc p) t | some r ↦ some (record { place = p; rule = r }) ]

-- T19: among all places of the word
unfoldable pub lowest_redex : Kind → ℕ → List ℕ → Option Redex
lowest_redex k n u = lowest_from k n u 0 (length u)

-- T20: one step of the rewriting: family, place, and the word's length after the step
pub record Line : Type 0 where
  pub family : ℕ
  pub place : ℕ
  pub left : ℕ

-- T19, T21: the steps in their order, and the final word
pub record Trace : Type 0 where
  pub lines : List Line
  pub final : List ℕ

-- T19: the rewriting, but no more than t steps of it
unfoldable pub trace_within : Kind → ℕ → ℕ → List ℕ → Trace
trace_within k n zero u = record { lines = []; final = u }
trace_within k n (suc t) u = elim (lowest_redex k n u) [
  | none ↦ record { lines = []; final = u }
  | some s ↦
      let v = rewritten s.rule u s.place in
      let rest = trace_within k n t v in
      record { lines = record { family = s.rule.family; place = s.place; left = length v } ∷ rest.lines; final = rest.final }
]

-- T19: that many steps are enough for a word of steps: at the end none fits (`trace-ends`), and a greater number
-- gives the same (`trace_enough`)
unfoldable pub trace : Kind → ℕ → List ℕ → Trace
trace k n u = trace_within k n ((n + 1) ^ length u) u

-- ---- the calls

-- C15
unfoldable pub too_few_places : ℕ → List ℕ → List ℕ → List ℕ → Bool
too_few_places steps families places lengths = too_short steps families || (too_short steps places || too_short steps lengths)

-- T20: the first list
abbrev pub families_of : List Line → List ℕ
families_of ls = map (λ (l : Line). l.family) ls

-- T20: the second list
abbrev pub places_of : List Line → List ℕ
places_of ls = map (λ (l : Line). l.place) ls

-- T20: the third list
abbrev pub lengths_of : List Line → List ℕ
lengths_of ls = map (λ (l : Line). l.left) ls

-- T22, G17: the number and the values of each case of `ToEnd`: its refusal, or with none the steps and the final
-- length
unfoldable pub to_end_of : ℕ → ℕ → ℕ → ToEnd
to_end_of r s l = pick (eqb r 0) (Ended s l) (Refused r)

-- I20: the answer, the numbers in the three lists and the bytes of the output afterwards
pub record Traced : Type 0 where
  pub answer : ToEnd
  pub families : List ℕ
  pub places : List ℕ
  pub lengths : List ℕ
  pub bytes : List ℕ

-- T20 to T23, C15, C14: refused with q, or else 15, or else 14, or else lists and output are written; places past
-- the steps keep what they held
unfoldable pub traced_by : ℕ → Trace → List ℕ → List ℕ → List ℕ → List ℕ → Traced
traced_by q t families places lengths out =
    let steps = length t.lines in
    let r = q then check 15 (too_few_places steps families places lengths) then check 14 (too_short (length t.final) out) in
    record {
      answer = to_end_of r steps (length t.final);
      families = written r (families_of t.lines) families;
      places = written r (places_of t.lines) places;
      lengths = written r (lengths_of t.lines) lengths;
      bytes = written r t.final out;
    }

-- I20: checks 5 to 8, then as above
unfoldable pub rewriting_to_end : ℕ → ℕ → List ℕ → List ℕ → List ℕ → List ℕ → List ℕ → Traced
rewriting_to_end k n u families places lengths out =
    traced_by (rank_refusal k n then word_refusal n u) (trace (kind_of k) n u) families places lengths out

-- G1: a call returns a and leaves these in the lists and the output, as the outcome t says
abbrev pub TraceYields : Traced → ToEnd → List ℕ → List ℕ → List ℕ → List ℕ → Type 0
TraceYields t a families places lengths out =
    (a ≡ t.answer) × (families ≡ t.families) × (places ≡ t.places) × (lengths ≡ t.lengths) × (out ≡ t.bytes)

-- I21, T25: how many places each list must have
unfoldable pub number_of_steps : ℕ → ℕ → List ℕ → Answer
number_of_steps k n u = answer_of (rank_refusal k n then word_refusal n u) (length (trace (kind_of k) n u).lines)

-- ---- what a reader of the lists sees

-- T19: at every place below p one rewrite returns that none fits, with any output
abbrev pub NoneFitsBelow : ℕ → ℕ → List ℕ → ℕ → Type 0
NoneFitsBelow k n u p =
    (q : ℕ) → q < p → (before after : List ℕ) (a : Rewrite) → Rewrote single k n u q before after a → a ≡ NoneFits

-- T24: from the word u, with any outputs that have room, each rewrite at a line's place uses a rule of its family
-- and leaves a word of its length; no rule fits at a lower place; after the last line none fits anywhere and the
-- word is v
abbrev pub Replays : ℕ → ℕ → List ℕ → List Line → List ℕ → Type 0
Replays k n u [] v = NowhereFits single k n u × (u ≡ v)
Replays k n u (l ∷ ls) v =
    NoneFitsBelow k n u l.place
    × ((before after : List ℕ) (a : Rewrite) → Rewrote single k n u l.place before after a → too_short l.left before ≡ false
    → ((i j : ℕ) × (a ≡ Used l.family i j l.left)) × Replays k n (take l.left after) ls v)
