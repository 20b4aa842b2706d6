-- What `which_better` and `better_word` answer in each case.
--
-- Sections: whether a word is handed back; the better word.
-- Assumes nothing.
use mathlib.Core.Path.{◌≡◌, refl, sym, ap, ◌∙◌}
use mathlib.Core.Bool.{Bool, true, false, ◌&&◌, beq, false≢true}
use mathlib.Core.List.{List}
use Prim.Native.Nat.{ℕ}
use native.Mathlib.Nat.{zero-add}
use denote.Ref.{Bor}
use native.Mathlib.Decide.{ℕ_discrete}
use borrow.Author.Tests.{ne_eqb}
use borrow.Rule.Slice.PartAt.{sl_partˢ}
use borrow.Rule.Slice.Shared.{by_byte}
use Rattle.std.specs.Prelude.{Result, Ok, Err}
use Rattle.std.specs.Result.{result_eq}
use Rattle.coxeter.specs.answers.Choice as choices
use Rattle.coxeter.specs.answers.Verdict as verdict
use Rattle.coxeter.specs.answers.Verdict.{Verdict, as_verdict}
use Rattle.coxeter.specs.declared.Refusal.{Refusal}
use Rattle.coxeter.specs.Kinds.{pick}
use Rattle.coxeter.specs.Checks.{rank_refusal}
use Rattle.coxeter.specs.Calls.{verdict_of, presets_equal, hands_back, choice, Better}
use Rattle.coxeter.proofs.Outcomes.{same_words}
use Rattle.coxeter.proofs.Orders.{choice_exactly}

-- ---- whether a word is handed back

-- the verdict is yes
abbrev is_yes : Verdict → Bool
is_yes verdict.Yes = true
is_yes verdict.No = false
is_yes (verdict.Refused r) = false

yes_of_checks : (passed same : Bool) (r : ℕ) → (passed && same) ≡ is_yes (pick passed (pick same verdict.Yes verdict.No) (verdict.Refused r))
yes_of_checks true true r = refl
yes_of_checks true false r = refl
yes_of_checks false same r = refl

yes_of_result : (e : Refusal → Refusal → Bool) (r : Result Bool Refusal) → is_yes (as_verdict r) ≡ result_eq beq e r (Ok true)
yes_of_result e (Ok true) = refl
yes_of_result e (Ok false) = refl
yes_of_result e (Err x) = refl

-- a word is handed back exactly when the verdict on the two is yes
hands_back_verdict : (k n : ℕ) (u v : List ℕ) → hands_back k n u v ≡ is_yes (presets_equal k n u k n v)
unfolding hands_back presets_equal verdict_of
hands_back_verdict k n u v =
    elim (ℕ_discrete (rank_refusal k n) 0) [
      | yes z ↦ rw (z, same_words k n u v) (yes_of_checks _ _ _)
      | no f ↦ rw (ne_eqb (rank_refusal k n) 0 f, ne_eqb (rank_refusal k n) 0 f) refl
    ]

pub hands_back_result : (k n : ℕ) (u v : List ℕ) (e : Refusal → Refusal → Bool) (r : Result Bool Refusal) → as_verdict r ≡ presets_equal k n u k n v
    → hands_back k n u v ≡ result_eq beq e r (Ok true)
hands_back_result k n u v e r h = hands_back_verdict k n u v ∙ (ap is_yes (sym h) ∙ yes_of_result e r)

-- ---- the better word

pub choice_neither : (hands second : Bool) → hands ≡ false → choices.Neither ≡ choice hands second
unfolding choice
choice_neither hands second e = rw e

pub choice_second : {hands second : Bool} → hands ≡ true → second ≡ true → choices.Second ≡ choice hands second
unfolding choice
choice_second {second = second} e s = rw (e, s)

pub choice_first : {hands second : Bool} → hands ≡ true → second ≡ false → choices.First ≡ choice hands second
unfolding choice
choice_first {second = second} e s = rw (e, s)

-- the empty part at the start of the first word
pub better-part : {hands second : Bool} {u v : Bor (List ℕ)} → choice hands second ≡ choices.Neither
    → Better hands second u v (sl_partˢ u (by_byte 0 u.ref_ptr.1) 0 0)
better-part {hands} {second} {u} e =
    let f = (choice_exactly hands second).0.0 e in
    record { whole = λ h. absurd (false≢true (sym f ∙ h)); empty = λ h. (refl, ap (λ (o : ℕ). (u.ref_ptr.0, o)) (zero-add u.ref_ptr.1)) }

pub better_second : {hands second : Bool} {u v : Bor (List ℕ)} → choice hands second ≡ choices.Second → Better hands second u v v
better_second {hands} {second} e =
    let p = (choice_exactly hands second).1.0 e in
    record { whole = λ h. rw p.1; empty = λ h. absurd (false≢true (sym h ∙ p.0)) }

pub better_first : {hands second : Bool} {u v : Bor (List ℕ)} → choice hands second ≡ choices.First → Better hands second u v u
better_first {hands} {second} e =
    let p = (choice_exactly hands second).2.0 e in
    record { whole = λ h. rw p.1; empty = λ h. absurd (false≢true (sym h ∙ p.0)) }
