-- Wrong answers of the rewriting to its end, each of the type of `rewriting_to_end`, and of the number of its steps.
-- WrongAnswers.antt says where each is wrong.
-- Assumes nothing.
use mathlib.Core.List.{List, [], ◌∷◌}
use mathlib.Core.Option.{none, some}
use Prim.Native.Nat.{ℕ, zero, suc, ◌-◌}
use lib.Dec.{eqb}
use lib.ListN.{length}
use Rattle.coxeter.specs.answers.Answer.{Answer}
use Rattle.coxeter.specs.declared.Kind.{Kind}
use Rattle.coxeter.specs.Kinds.{pick, kind_of}
use Rattle.coxeter.specs.Checks.{check, ◌then◌, too_short, rank_refusal, word_refusal}
use Rattle.coxeter.specs.Calls.{answer_of}
use Rattle.rules.specs.Rules.{rewritten}
use Rattle.traces.specs.Traces.{lowest_from, Trace, trace, families_of, Traced, traced_by}

-- each search starts behind the place of the last step; t steps at most, the first search from place p on
unfoldable pub behind_last : Kind → ℕ → ℕ → ℕ → List ℕ → Trace
behind_last k n zero p u = record { lines = []; final = u }
behind_last k n (suc t) p u = elim (lowest_from k n u p (length u - p)) [
  | none ↦ record { lines = []; final = u }
  | some s ↦
      let v = rewritten s.rule u s.place in
      let rest = behind_last k n t (suc s.place) v in
      record { lines = record { family = s.rule.family; place = s.place; left = length v } ∷ rest.lines; final = rest.final }
]

abbrev pub search_behind_the_last_place : ℕ → ℕ → List ℕ → List ℕ → List ℕ → List ℕ → List ℕ → Traced
search_behind_the_last_place k n u = traced_by (rank_refusal k n then word_refusal n u) (behind_last (kind_of k) n (length u) 0 u)

-- check 14 before check 15
abbrev pub output_before_the_lists : ℕ → ℕ → List ℕ → List ℕ → List ℕ → List ℕ → List ℕ → Traced
output_before_the_lists k n u families places lengths out =
    let t = trace (kind_of k) n u in
    traced_by (rank_refusal k n then word_refusal n u then check 14 (too_short (length t.final) out)) t families places lengths out

-- the letters counted, and only the steps that make the word shorter
abbrev pub letters_counted : ℕ → ℕ → List ℕ → Answer
letters_counted k n u = answer_of (rank_refusal k n then word_refusal n u) (length u)

unfoldable pub ones : List ℕ → ℕ
ones [] = 0
ones (f ∷ fs) = pick (eqb f 1) (suc (ones fs)) (ones fs)

abbrev pub shortening_steps_counted : ℕ → ℕ → List ℕ → Answer
shortening_steps_counted k n u = answer_of (rank_refusal k n then word_refusal n u) (ones (families_of (trace (kind_of k) n u).lines))
