-- What `carrying::turn` and `carrying::insert` do: the rule that the search hands on is the step of the rewriting,
-- which is noted and made. If there is none, or an equal letter is deleted, what stands is a normal form.
--
-- Sections: the rule that was found; no rule; a letter deleted; a letter carried on; turn after turn.
-- Assumes nothing.
use mathlib.Core.Path.{◌≡◌, refl, sym, ap, subst, ◌∙◌}
use mathlib.Core.List.{List, ◌++◌}
use mathlib.Core.Option.{Option, none, some}
use Prim.Native.Nat.{ℕ, suc, ◌+◌, ◌-◌, ◌≤◌, ◌<◌}
use native.Mathlib.Omega.{arith}
use lib.ListN.{length, get_or, take, drop, set}
use Rattle.coxeter.specs.declared.Kind.{Kind}
use Rattle.coxeter.proofs.TestLaws.{impossible}
use Rattle.traces.specs.Traces.{Redex, lowest_redex}
use Rattle.traces.proofs.Reading.{reading_lower}
use Rattle.traces.proofs.ReadingSteps.{after_moved, after_dropped}
use Rattle.traces.proofs.Tracing.{Ready, Carried, Inserted}
use Rattle.rewriter.specs.declared.ending.Ending.{Ending}
use Rattle.std.specs.Prelude.{Option as Maybe, Some, None, MatchOption}
use Rattle.rewriter.proofs.carrying.Shifting.{put}
use Rattle.rewriter.proofs.carrying.CarriedSteps.{Noted, carried_ready, carried_step, inserted_step, inserted_end, inserted_after}
use Rattle.rewriter.proofs.carrying.Passing.{ready_inside}
use Rattle.rewriter.proofs.ending.Ends.{told, ending_of}

-- ---- the rule that was found

-- r is the step at the lowest place
record StepFound (o : Option Redex) (r : Ending) : Type 0 where
  pub step : Redex
  pub is : o ≡ some step
  pub family : step.rule.family ≡ r.family
  pub place : step.place ≡ r.place
  pub first : get_or step.rule.right 0 0 ≡ r.first

found : (o : Option Redex) (a : Maybe Ending) (r : Ending) → a ≡ ending_of o → a ≡ Some r → StepFound o r
found none a r e z = impossible (cc)
found (some s) a r e z =
    let same : told s.rule.family s.place (get_or s.rule.right 0 0) ≡ r = cc in
    record {
      step = s;
      is = refl;
      family = ap (λ (q : Ending). q.family) same;
      place = ap (λ (q : Ending). q.place) same;
      first = ap (λ (q : Ending). q.first) same;
    }

not_found : (o : Option Redex) (a : Maybe Ending) → a ≡ ending_of o → a ≡ None → o ≡ none
not_found none a e z = refl
not_found (some s) a e z = cc

-- the letter that moves stands at place q
module _ {k : Kind} {n : ℕ} {rest : List ℕ} {s : ℕ} {families places lengths word : List ℕ} {q : ℕ}
    (a : Ready k n rest s families places lengths word q) where
  -- ---- no rule

  pub turn_none : (m : Maybe Ending) → m ≡ ending_of (lowest_redex k n (take (suc q) word)) → m ≡ None
      → Inserted k n rest s families places lengths word s families places lengths word (length word)
  turn_none m e z = inserted_end a (not_found _ m e z) (length word) refl

  -- the letter stands at the word's front
  turn_front : q ≤ 0 → Inserted k n rest s families places lengths word s families places lengths word (length word)
  turn_front l = inserted_end a (nowhere (lowest_redex k n (take (suc q) word)) refl) (length word) refl
    where
      nowhere : (o : Option Redex) → lowest_redex k n (take (suc q) word) ≡ o → o ≡ none
      nowhere none e = refl
      nowhere (some u) e = absurd (omega (arith, reading_lower k n a.rank word q a.reading u e))

  module _ (r : Ending) {m : Maybe Ending} (e : m ≡ ending_of (lowest_redex k n (take (suc q) word))) (z : m ≡ Some r) where
    have : StepFound (lowest_redex k n (take (suc q) word)) r
    have = found _ m r e z

    pub turn_place : r.place < q
    turn_place = omega (arith, reading_lower k n a.rank word q a.reading have.step have.is, have.place)

    -- ---- a letter deleted

    pub turn_pair : r.family ≡ 1 → r.place + 2 ≤ length word
    turn_pair c =
        let d = after_dropped k n a.rank word q a.reading have.step have.is (have.family ∙ c) in
        omega (arith, d.0, have.place, ready_inside a)

    pub turn_deleted : {families' places' lengths' : List ℕ} (word' : List ℕ) → r.family ≡ 1 → families' ≡ set families s 1 → places' ≡ set places s r.place
        → lengths' ≡ set lengths s (length word - 2 + length rest) → take (length word - 2) word' ≡ take r.place word ++ drop (r.place + 2) word
        → Inserted k n rest s families places lengths word (s + 1) families' places' lengths' word' (length word - 2)
    turn_deleted {families'} {places'} {lengths'} word' c i j l w =
        let d = after_dropped k n a.rank word q a.reading have.step have.is (have.family ∙ c) in
        let g : r.place + 2 ≡ suc q = omega (arith, d.0, have.place) in
        let v : take (length word - 2) word' ≡ take have.step.place word ++ drop (suc q) word = rw (have.place, ← g) w in
        inserted_step a have.step have.is (have.family ∙ c) refl
        (i ∙ ap (set families s) (sym (have.family ∙ c))) (j ∙ ap (set places s) (sym have.place))
        (omega (arith, turn_pair c)) l (v ∙ sym d.1)

    -- ---- a letter carried on

    pub turn_carried : {families' places' lengths' word' : List ℕ} → (r.family ≡ 1 → ⊥) → families' ≡ set families s r.family → places' ≡ set places s r.place
        → lengths' ≡ set lengths s (length word + length rest) → word' ≡ put word r.place q r.first
        → Carried k n rest s families places lengths word (s + 1) families' places' lengths' word' r.place
    turn_carried {families'} {places'} {lengths'} {word'} c i j l w =
        let g : (have.step.rule.family ≡ 1 → ⊥) = λ x. c (sym have.family ∙ x) in
        let d = after_moved k n a.rank word q a.reading have.step have.is g in
        let v : word' ≡ put word have.step.place q (get_or have.step.rule.right 0 0) = rw (have.place, have.first) w in
        subst (Carried k n rest s families places lengths word (s + 1) families' places' lengths' word') have.place
        (carried_step a have.step have.is g refl
        (i ∙ ap (set families s) (sym have.family)) (j ∙ ap (set places s) (sym have.place)) l (v ∙ sym d.1))

-- ---- turn after turn

-- from what a has to what b has: the letter stands at a place of a word that is as long as before, or else a normal
-- form of `size` letters stands
abbrev pub Moved : Kind → ℕ → List ℕ → Noted → Noted → ℕ → Maybe ℕ → Type 0
Moved k n rest a b size o =
    MatchOption o (Inserted k n rest a.steps a.families a.places a.lengths a.word b.steps b.families b.places b.lengths b.word size)
    (λ q. (size ≡ length a.word) × Carried k n rest a.steps a.families a.places a.lengths a.word b.steps b.families b.places b.lengths b.word q)

-- at the front of the word the letter stays
pub carried_front : {k : Kind} {n : ℕ} {rest : List ℕ} {s : ℕ} {families places lengths word : List ℕ} {s' : ℕ} {families' places' lengths' word' : List ℕ} {t q : ℕ}
    → Ready k n rest s families places lengths word t → Carried k n rest s families places lengths word s' families' places' lengths' word' q → q ≡ 0
    → Inserted k n rest s families places lengths word s' families' places' lengths' word' (length word)
carried_front a b z = inserted_after b (rw (← b.size) (turn_front (carried_ready b a) (omega (arith, z))))

-- how many places are left for the letter that moves
abbrev pub reach : Maybe ℕ → ℕ
reach None = 0
reach (Some q) = suc q
