-- Wrong answers of one rewrite, each of the type of `rewrite_at single`. WrongAnswers.antt says where each is wrong.
-- Assumes nothing.
use mathlib.Core.List.{List, [], ◌∷◌, ◌++◌, map}
use mathlib.Core.Option.{none, some}
use Prim.Native.Nat.{ℕ, ◌-◌, ◌*◌}
use lib.Dec.{eqb, ltb}
use lib.ListN.{length}
use Rattle.coxeter.specs.declared.Kind.{Kind}
use Rattle.coxeter.specs.declared.Kind.TheVariants.{B}
use Rattle.coxeter.specs.Kinds.{pick, kind_of}
use Rattle.coxeter.specs.Checks.{check, ◌then◌, too_short, rank_refusal, word_refusal}
use Rattle.coxeter.specs.NormalForm.{rise}
use Rattle.coxeter.specs.Calls.{front}
use Rattle.rules.specs.declared.Rewrite.TheVariants.{Refused}
use Rattle.rules.specs.Rules.{Rule, rule, concat_map, family2, carried, rules, first_fitting, rewritten}
use Rattle.rules.specs.Calls.{past_end, Transition, changed, unchanged, rewrite_by, rewrite_at, single}

-- the right answer: one rewrite by the library's own call
abbrev pub rewrite_single : ℕ → ℕ → List ℕ → ℕ → List ℕ → Transition single
rewrite_single = rewrite_at single

-- one rewrite by other rules
abbrev pub rewrite_with : (Kind → ℕ → List Rule) → ℕ → ℕ → List ℕ → ℕ → List ℕ → Transition single
rewrite_with others k n u p out =
    let r = rank_refusal k n then word_refusal n u then check 12 (past_end u p) in
    pick (eqb r 0) (rewrite_by single (first_fitting (others (kind_of k) n) u p) u p out) (unchanged single (Refused r) u out)

-- Q6
abbrev pub none_fits_without_looking : ℕ → ℕ → List ℕ → ℕ → List ℕ → Transition single
none_fits_without_looking = rewrite_with (λ k n. [])

-- none fits for want of room: where the new word has none, instead of refusal 14
abbrev pub none_fits_for_want_of_room : ℕ → ℕ → List ℕ → ℕ → List ℕ → Transition single
none_fits_for_want_of_room k n u p out = elim (first_fitting (rules (kind_of k) n) u p) [
  | none ↦ rewrite_at single k n u p out
  | some r ↦ pick (too_short (length (rewritten r u p)) out) (rewrite_by single none u p out) (rewrite_at single k n u p out)
]

-- Q9
abbrev pub rule_of_B_in_D : ℕ → ℕ → List ℕ → ℕ → List ℕ → Transition single
rule_of_B_in_D = rewrite_with (λ k n. rules k n ++ family2 B n)

-- family 3 also for j = 2n − i − 1
abbrev pub family3_one_too_far_in_B : ℕ → ℕ → List ℕ → ℕ → List ℕ → Transition single
family3_one_too_far_in_B = rewrite_with (λ k n. rules k n ++ concat_map (λ i. carried k n i (2 * n - i - 1) ∷ []) (rise 1 (n - 1)))

abbrev pub family4_as_family3 : ℕ → ℕ → List ℕ → ℕ → List ℕ → Transition single
family4_as_family3 = rewrite_with (λ k n. map (λ r. rule (pick (eqb r.family 4) 3 r.family) r.i r.j r.left r.right) (rules k n))

-- the right side one place to the left of the left side's place
abbrev pub replaced_one_place_to_the_left : ℕ → ℕ → List ℕ → ℕ → List ℕ → Transition single
replaced_one_place_to_the_left k n u p out = elim (first_fitting (rules (kind_of k) n) u p) [
  | none ↦ rewrite_at single k n u p out
  | some r ↦ changed single r (rewritten r u (p - 1)) out
]

abbrev pub place_at_the_end_accepted : ℕ → ℕ → List ℕ → ℕ → List ℕ → Transition single
place_at_the_end_accepted k n u p out =
    let r = rank_refusal k n then word_refusal n u then check 12 (ltb (length u) p) in
    pick (eqb r 0) (rewrite_by single (first_fitting (rules (kind_of k) n) u p) u p out) (unchanged single (Refused r) u out)

abbrev pub room_checked_before_the_rule : ℕ → ℕ → List ℕ → ℕ → List ℕ → Transition single
room_checked_before_the_rule k n u p out = pick (too_short (length u) out) (unchanged single (Refused 14) u out) (rewrite_at single k n u p out)

-- the output gets the word before a rule is looked for
abbrev pub word_copied_first : ℕ → ℕ → List ℕ → ℕ → List ℕ → Transition single
word_copied_first k n u p out = rewrite_at single k n u p (front u out)
