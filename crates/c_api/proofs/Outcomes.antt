-- What calls for C write to a list beyond the call below them: the three counts of a length, a preset its fields,
-- one rewrite its rule. By the cases of the layer's answer.
--
-- Sections: counts and fields; one rewrite; a rule without room.
-- Assumes nothing.
use mathlib.Core.Path.{◌≡◌, refl, ◌∙◌}
use mathlib.Core.Bool.{Bool, true, false}
use mathlib.Core.List.{List, [], ◌∷◌}
use mathlib.Core.Option.{Option, none, some}
use mathlib.Core.Logic.{◌⊎◌, ⊎_elim}
use Prim.Native.Nat.{ℕ, ◌+◌, ◌≤◌, ◌<◌}
use native.Mathlib.Nat.{lt_of_not-le}
use native.Mathlib.Decide.{dec_le}
use native.Mathlib.Omega.{arith}
use lib.Dec.{eqb, leb}
use lib.IntN.{ℤ, pos}
use lib.ListN.{length, drop}
use borrow.Author.Tests.{lt-ltb, le-ltb, lt-leb, le-leb}
use Rattle.coxeter.specs.answers.Counted.{Counted}
use Rattle.coxeter.specs.answers.Counted as counted
use Rattle.coxeter.specs.Kinds.{pick, kind_of}
use Rattle.coxeter.specs.Checks.{check, ◌then◌, too_short, rank_refusal, word_refusal}
use Rattle.coxeter.specs.Calls.{front}
use Rattle.rules.specs.declared.Rewrite.{Rewrite}
use Rattle.rules.specs.declared.Rewrite.TheVariants.{Used, NoneFits, Refused}
use Rattle.rules.specs.Rules.{Rule, rules, first_fitting, rewritten}
use Rattle.rules.specs.Calls.{past_end, changed, unchanged, rewrite_by, rewrite_at, Rewrote, single}
use Rattle.rules.proofs.Unchanged.{rewrite_refused-unchanged, rewrite_none_fits_unchanged}
use Rattle.book_format.specs.answers.Preset.{Preset}
use Rattle.book_format.specs.answers.Preset as preset
use Rattle.c_api.specs.Calls.{refused, crossing_numbers, preset_numbers, listed, listed_beside, for_C, rewriting}
use Rattle.c_api.proofs.Lists.{IsRefusal, roomless, rewrite_numbers, rewrite-numbers, listed_stored, listed_alone, listed-short}
use Rattle.c_api.proofs.Lists.{beside_stored, beside_alone, beside_roomless}

-- ---- counts and fields

pub crossings-refused : (r : ℕ) (list : List ℕ) {z : ℤ} → z ≡ refused r → (z, list) ≡ listed (crossing_numbers (counted.Refused r)) list
unfolding crossing_numbers
crossings-refused r list e = rw (← e) (listed_alone _ list)

module _ (a b c : ℕ) (list : List ℕ) where
  pub crossings-short : {z : ℤ} → length list < 3 → z ≡ refused 14 → (z, list) ≡ listed (crossing_numbers (counted.Crossings a b c)) list
  unfolding crossing_numbers
  crossings-short h e = rw e (listed-short (pos (a + b + c)) (a ∷ b ∷ c ∷ []) list h)

  pub crossings_stored : 3 ≤ length list → (pos (a + b + c), a ∷ b ∷ c ∷ drop 3 list) ≡ listed (crossing_numbers (counted.Crossings a b c)) list
  unfolding crossing_numbers
  crossings_stored h = listed_stored (pos (a + b + c)) (a ∷ b ∷ c ∷ []) list h

-- d is what the call below answers
module _ {d : Preset} (list : List ℕ) where
  pub fields_refused : {r : ℕ} {z : ℤ} → preset.Refused r ≡ d → z ≡ refused r → (z, list) ≡ listed (preset_numbers d) list
  unfolding preset_numbers
  fields_refused q e = rw (← q, ← e) (listed_alone _ list)

  module _ {k n s l : ℕ} (q : preset.Found k n s l ≡ d) where
    pub fields_short : {z : ℤ} → length list < 4 → z ≡ refused 14 → (z, list) ≡ listed (preset_numbers d) list
    unfolding preset_numbers
    fields_short h e = rw (← q, e) (listed-short (pos 4) (k ∷ n ∷ s ∷ l ∷ []) list h)

    pub fields_stored : 4 ≤ length list → (pos 4, k ∷ n ∷ s ∷ l ∷ drop 4 list) ≡ listed (preset_numbers d) list
    unfolding preset_numbers
    fields_stored h = rw (← q) (listed_stored (pos 4) (k ∷ n ∷ s ∷ l ∷ []) list h)

-- ---- one rewrite

-- the call for C writes what the library's own call does, with the rule where it has room for it
pub rewriting-listed : (k n : ℕ) (u : List ℕ) (p : ℕ) (out rule : List ℕ) → let t = rewrite_at single k n u p out in
    rewriting k n u p out rule ≡ listed_beside (rewrite_numbers t.answer) t.outputs out rule
unfolding front rewriting rewrite_at rewrite_by rewrite_numbers listed_beside too_short
rewriting-listed k n u p out rule = rewriting-listed_by_cases (eqb r 0) (first_fitting (rules (kind_of k) n) u p)
  where
    r : ℕ
    r = rank_refusal k n then word_refusal n u then check 12 (past_end u p)

    rewriting-listed_by_cases : (b : Bool) (o : Option Rule)
        → let t = pick b (rewrite_by for_C o u p (out, rule)) (unchanged for_C (refused r) u (out, rule)) in
        let s = pick b (rewrite_by single o u p out) (unchanged single (Refused r) u out) in
        (t.answer, t.outputs) ≡ listed_beside (rewrite_numbers s.answer) s.outputs out rule
    rewriting-listed_by_cases false o = rw (le-ltb (length rule) 0 (omega arith))
    rewriting-listed_by_cases true none = rw (le-ltb (length rule) 0 (omega arith))
    rewriting-listed_by_cases true (some x) = elim (dec_le (length (rewritten x u p)) (length out)) [
      | yes h ↦ elim (dec_le 3 (length rule)) [
        | yes g ↦ rw (le-leb (length (rewritten x u p)) (length out) h, le-leb 3 (length rule) g, le-ltb (length rule) 3 g)
        | no g ↦ rw (le-leb (length (rewritten x u p)) (length out) h, lt-leb 3 (length rule) (lt_of_not-le g), lt-ltb (length rule) 3 (lt_of_not-le g))
      ]
      | no h ↦ rw (lt-leb (length (rewritten x u p)) (length out) (lt_of_not-le h), le-ltb (length rule) 0 (omega arith))
    ]

module _ {k n : ℕ} {u : List ℕ} {p : ℕ} {out after : List ℕ} (rule : List ℕ) {a : Rewrite} (w : Rewrote single k n u p out after a) (z : ℤ) where
  pub rewriting_used : {f i j l : ℕ} → a ≡ Used f i j l → 3 ≤ length rule → z ≡ pos l
      → (z, (after, f ∷ i ∷ j ∷ drop 3 rule)) ≡ rewriting k n u p out rule
  unfolding rewrite_numbers
  rewriting_used {f} {i} {j} q h e =
      rw (rewriting-listed k n u p out rule, ← w.answer, ← w.outputs, q, ← e) (beside_stored z (f ∷ i ∷ j ∷ []) rule after out h)

  pub rewriting_fitless : a ≡ NoneFits → z ≡ refused 100 → (z, (after, rule)) ≡ rewriting k n u p out rule
  unfolding rewrite_numbers
  rewriting_fitless q e = rw (rewriting-listed k n u p out rule, ← w.answer, ← w.outputs, q, ← e) (beside_alone z after out rule)

  pub rewriting-refused : (r : ℕ) → a ≡ Refused r → z ≡ refused r → (z, (after, rule)) ≡ rewriting k n u p out rule
  unfolding rewrite_numbers
  rewriting-refused r q e = rw (rewriting-listed k n u p out rule, ← w.answer, ← w.outputs, q, ← e) (beside_alone z after out rule)

-- a rewrite that is refused, or that finds that none fits, writes nothing
pub rewrite_still : (k n : ℕ) (u : List ℕ) (p : ℕ) (out : List ℕ) → let a = (rewrite_at single k n u p out).answer in
    (a ≡ NoneFits) ⊎ IsRefusal Refused a → (rewrite_at single k n u p out).outputs ≡ out
rewrite_still k n u p out =
    ⊎_elim (λ e. (rewrite_none_fits_unchanged k n u p out e).0) (λ h. (rewrite_refused-unchanged k n u p out h.0 h.1).0)

-- ---- a rule without room

-- the number does not depend on the outputs
roomless_rewrite : (k n : ℕ) (u : List ℕ) (p : ℕ) (out : List ℕ)
    → roomless (rewrite_numbers (rewrite_at single k n u p out).answer) ≡ roomless (rewrite_numbers (rewrite_at single k n u p []).answer)
unfolding rewrite_at rewrite_by roomless rewrite_numbers
roomless_rewrite k n u p out = roomless_rewrite_by_cases (eqb r 0)
  where
    r : ℕ
    r = rank_refusal k n then word_refusal n u then check 12 (past_end u p)

    same : (o : Option Rule) → roomless (rewrite_numbers (rewrite_by single o u p out).answer) ≡ roomless (rewrite_numbers (rewrite_by single o u p []).answer)
    same none = refl
    same (some x) = both (leb (length (rewritten x u p)) (length out)) (leb (length (rewritten x u p)) 0)
      where
        both : (s t : Bool) → roomless (rewrite_numbers (pick s (changed single x (rewritten x u p) out) (unchanged single (Refused 14) u out)).answer)
            ≡ roomless (rewrite_numbers (pick t (changed single x (rewritten x u p) []) (unchanged single (Refused 14) u [])).answer)
        both true true = refl
        both true false = refl
        both false true = refl
        both false false = refl

    roomless_rewrite_by_cases : (t : Bool) → roomless (rewrite_numbers
        (pick t (rewrite_by single (first_fitting (rules (kind_of k) n) u p) u p out) (unchanged single (Refused r) u out)).answer)
        ≡ roomless (rewrite_numbers (pick t (rewrite_by single (first_fitting (rules (kind_of k) n) u p) u p []) (unchanged single (Refused r) u [])).answer)
    roomless_rewrite_by_cases true = same (first_fitting (rules (kind_of k) n) u p)
    roomless_rewrite_by_cases false = refl

rewriting-without : (k n : ℕ) (u : List ℕ) (p : ℕ) (out rule : List ℕ) → length rule < 3
    → rewriting k n u p out rule ≡ (roomless (rewrite_numbers (rewrite_at single k n u p out).answer), (out, rule))
rewriting-without k n u p out rule h =
    rewriting-listed k n u p out rule
    ∙ beside_roomless (rewrite-numbers (rewrite_at single k n u p out).answer) (rewrite_at single k n u p out).outputs out rule (omega arith) h
    (rewrite_still k n u p out)

-- the number that an empty output gives
pub rewriting_narrow : {k n : ℕ} {u : List ℕ} {p : ℕ} {after : List ℕ} {a : Rewrite} → Rewrote single k n u p [] after a
    → roomless (rewrite_numbers a) ≡ (rewriting k n u p [] []).0
rewriting_narrow {k} {n} {u} {p} w = rw (rewriting-without k n u p [] [] (omega arith), ← w.answer)

pub rewriting-roomless : (k n : ℕ) (u : List ℕ) (p : ℕ) {out : List ℕ} (rule : List ℕ) {z : ℤ} → length rule < 3
    → z ≡ (rewriting k n u p [] []).0 → (z, (out, rule)) ≡ rewriting k n u p out rule
rewriting-roomless k n u p {out} rule h e =
    rw (e, rewriting-without k n u p out rule h, rewriting-without k n u p [] [] (omega arith), roomless_rewrite k n u p out)
