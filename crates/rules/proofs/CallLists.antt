-- Lists of rewriting calls of any form: which lists they are, which word they leave, how many of them use a rule (T2
-- to T5, T11 of the specification). Every list of places and outputs belongs to such a list of calls, so nothing that
-- is said of all of them leaves a list out.
--
-- Sections: the word left; the lists; the uses; the library's own answers.
-- Assumes nothing.
use mathlib.Core.Path.{◌≡◌, refl, ap, subst, ◌∙◌}
use mathlib.Core.Logic.{◌↔◌}
use mathlib.Core.List.{List, [], ◌∷◌, ◌++◌, map}
use mathlib.Core.Option.{Option, none, some, none-ne-some}
use Prim.Native.Nat.{ℕ, suc, ◌+◌}
use native.Mathlib.Omega.{arith}
use lib.ListN.{take}
use Rattle.rules.specs.declared.Rewrite.{Rewrite}
use Rattle.rules.specs.declared.Rewrite.TheVariants.{Used, NoneFits, Refused}
use Rattle.rules.specs.Calls.{Interface, rewrite_at, Rewrote, new_word_in, single}
use Rattle.rules.specs.Runs.{Arguments, Call, word_after, word_left, Meets, Run, IsUsed, uses}

module _ (s : Interface) where
  -- ---- the word left

  pub word_left_snoc : (u : List ℕ) (front : List (Call s)) (c : Call s) → word_left s u (front ++ (c ∷ [])) ≡ word_after s (word_left s u front) c.result
  unfolding word_left
  word_left_snoc u [] c = refl
  word_left_snoc u (d ∷ front) c = word_left_snoc (word_after s u d.result) front c

  -- T4: without a call the first word; after a call that used a rule its new word; after any other the word before it
  pub word_left_exactly : (u : List ℕ) → (word_left s u [] ≡ u)
      × ((front : List (Call s)) (c : Call s) (w : List ℕ) → s.new_word c.result.answer c.result.outputs ≡ some w
      → word_left s u (front ++ (c ∷ [])) ≡ w)
      × ((front : List (Call s)) (c : Call s) → (IsUsed s c.result → ⊥) → word_left s u (front ++ (c ∷ [])) ≡ word_left s u front)
  unfolding word_left word_after
  word_left_exactly u = (
    refl,
    λ front c w e. word_left_snoc u front c ∙ rw (e, word_after),
    λ front c f. word_left_snoc u front c ∙ stays (word_left s u front) (s.new_word c.result.answer c.result.outputs) (λ w e. f (w, e)),
  )
    where
      stays : (v : List ℕ) (o : Option (List ℕ)) → ((w : List ℕ) → o ≡ some w → ⊥) → elim o [ none ↦ v | some w ↦ w ] ≡ v
      stays v none f = refl
      stays v (some w) f = absurd (f w refl)

  -- ---- the lists

  run_each : (k n : ℕ) (u : List ℕ) (cs : List (Call s)) → Run s k n u cs
      → (front : List (Call s)) (c : Call s) (rest : List (Call s)) → cs ≡ front ++ (c ∷ rest) → Meets s k n (word_left s u front) c
  unfolding word_left
  run_each k n u cs r [] c rest e = (subst (Run s k n u) e r).0
  run_each k n u cs r (d ∷ front) c rest e =
      run_each k n (word_after s u d.result) (front ++ (c ∷ rest)) (subst (Run s k n u) e r).1 front c rest refl

  run_of_each : (k n : ℕ) (u : List ℕ) (cs : List (Call s))
      → ((front : List (Call s)) (c : Call s) (rest : List (Call s)) → cs ≡ front ++ (c ∷ rest) → Meets s k n (word_left s u front) c) → Run s k n u cs
  unfolding word_left
  run_of_each k n u [] f = tt
  run_of_each k n u (c ∷ cs) f = (
    f [] c cs refl,
    run_of_each k n (word_after s u c.result) cs (λ front d rest e. f (c ∷ front) d rest (ap (λ (l : List (Call s)). c ∷ l) e)),
  )

  -- T2, T3, T5: exactly the lists whose every call is one rewrite of the word that the calls before it left
  pub run_exactly : (k n : ℕ) (u : List ℕ) (cs : List (Call s)) → Run s k n u cs
      ↔ ((front : List (Call s)) (c : Call s) (rest : List (Call s)) → cs ≡ front ++ (c ∷ rest)
      → Rewrote s k n (word_left s u front) c.arguments.place c.arguments.outputs c.result.outputs c.result.answer)
  run_exactly k n u cs = (run_each k n u cs, run_of_each k n u cs)

  -- T2, T12: no list of places and outputs is left out, sensible or not
  pub every_list_runs : (k n : ℕ) (u : List ℕ) (l : List (Arguments s)) → (cs : List (Call s)) × (map (λ (c : Call s). c.arguments) cs ≡ l) × Run s k n u cs
  every_list_runs k n u [] = ([], refl, tt)
  every_list_runs k n u (a ∷ l) =
      let t = rewrite_at s k n u a.place a.outputs in
      let c : Call s = record { arguments = a; result = record { answer = t.answer; outputs = t.outputs } } in
      let r = every_list_runs k n (word_after s u c.result) l in
      (c ∷ r.0, ap (λ (m : List (Arguments s)). a ∷ m) r.1, (record { answer = refl; outputs = refl }, r.2))

  -- ---- the uses

  uses-append : (cs ds : List (Call s)) → uses s (cs ++ ds) ≡ uses s cs + uses s ds
  unfolding uses
  uses-append [] ds = omega arith
  uses-append (c ∷ cs) ds = uses-append_by_cases (s.new_word c.result.answer c.result.outputs) (uses-append cs ds)
    where
      uses-append_by_cases : (o : Option (List ℕ)) → uses s (cs ++ ds) ≡ uses s cs + uses s ds
          → elim o [ none ↦ uses s (cs ++ ds) | some w ↦ suc (uses s (cs ++ ds)) ]
          ≡ elim o [ none ↦ uses s cs | some w ↦ suc (uses s cs) ] + uses s ds
      uses-append_by_cases none e = e
      uses-append_by_cases (some w) e = omega arith

  -- T11: a call that used a rule counts 1, any other 0, and a list the sum
  pub uses_exactly : (uses s [] ≡ 0) × ((cs ds : List (Call s)) → uses s (cs ++ ds) ≡ uses s cs + uses s ds)
      × ((c : Call s) → IsUsed s c.result → uses s (c ∷ []) ≡ 1)
      × ((c : Call s) → (IsUsed s c.result → ⊥) → uses s (c ∷ []) ≡ 0)
  unfolding uses
  uses_exactly = (
    refl,
    uses-append,
    λ c t. rw (t.1, uses),
    λ c f. uses_exactly_by_cases (s.new_word c.result.answer c.result.outputs) (λ w e. f (w, e)),
  )
    where
      uses_exactly_by_cases : (o : Option (List ℕ)) → ((w : List ℕ) → o ≡ some w → ⊥) → ◌≡◌ {A = ℕ} (elim o [ none ↦ 0 | some w ↦ 1 ]) 0
      uses_exactly_by_cases none f = refl
      uses_exactly_by_cases (some w) f = absurd (f w refl)

-- ---- the library's own answers

-- T4, T8: its answer says that a rule was used exactly if it is `Used`, and the new word is the front of the output
pub new_word_exactly : (a : Rewrite) (out w : List ℕ) → (single.new_word a out ≡ some w) ↔ ((f i j l : ℕ) × (a ≡ Used f i j l) × (w ≡ take l out))
unfolding new_word_in
new_word_exactly (Used f i j l) out w = (
  λ e. (f, i, j, l, refl, cc),
  λ t. let q : l ≡ t.3 = let z = t.4 in cc in rw (t.5, q),
)
new_word_exactly NoneFits out w = (λ e. absurd (none-ne-some w e), λ t. let z = t.4 in cc)
new_word_exactly (Refused r) out w = (λ e. absurd (none-ne-some w e), λ t. let z = t.4 in cc)
