-- What demand 3 says of calls of `winnathey_rewrite` beyond the laws over every form of call (IC8 of the
-- specification): when there is room for an answer, which numbers say that a rule was used, what such a call writes,
-- and that the same numbers bound the uses by these calls and by single rewrites.
-- Assumes nothing.
use mathlib.Core.Path.{◌≡◌, refl}
use mathlib.Core.Bool.{true, and-eq-true_iff}
use mathlib.Core.Logic.{◌↔◌}
use mathlib.Core.List.{List, [], ◌∷◌, ◌++◌}
use mathlib.Core.Option.{some, none-ne-some}
use Prim.Native.Nat.{ℕ, ◌≤◌}
use native.Mathlib.Omega.{arith}
use lib.Dec.{leb}
use lib.IntN.{ℤ, pos, negsuc}
use lib.ListN.{length, take, drop, replicate, length-replicate}
use borrow.Author.Tests.{leb-true, le-leb}
use Rattle.rules.specs.Rules.{Rule}
use Rattle.rules.specs.Calls.{single}
use Rattle.rules.specs.Runs.{AcceptedWord, Call, Run, word_left, uses}
use Rattle.rules.specs.Demand3.{Usable}
use Rattle.rules.proofs.Calls.{single_lawful}
use Rattle.rules.proofs.Demand3.{one-number_of}
use Rattle.rules.proofs.SameUses.{bound_of_other}
use Rattle.rules.proofs.Sentences.{used_written}
use Rattle.c_api.specs.Calls.{new_word_in, for_C}
use Rattle.c_api.proofs.Demand3.{for_C_lawful, demand3_calls}
use Rattle.coxeter.specs.Calls.{front}

-- C14, IC3: there is room exactly if the new word fits the one output and three numbers the other
pub room_exactly : (out rule : List ℕ) (l : ℕ) → (for_C.room (out, rule) l ≡ true) ↔ ((l ≤ length out) × (3 ≤ length rule))
room_exactly out rule l =
    let t = and-eq-true_iff (leb l (length out)) (leb 3 (length rule)) in (
      λ e. let b = t.0 e in (leb-true l (length out) b.0, leb-true 3 (length rule) b.1),
      λ b. t.1 (le-leb l (length out) b.0, le-leb 3 (length rule) b.1),
    )

-- T4, IC2: a number 0 or more says that a rule was used, and the new word has so many letters at the front of the
-- output
pub new_word_exactly : (z : ℤ) (out rule w : List ℕ) → (for_C.new_word z (out, rule) ≡ some w) ↔ ((l : ℕ) × (z ≡ pos l) × (w ≡ take l out))
unfolding new_word_in
new_word_exactly (pos l) out rule w = (λ e. (l, refl, cc), λ t. let q : l ≡ t.0 = let z = t.1 in cc in rw (t.2, q))
new_word_exactly (negsuc r) out rule w = (λ e. absurd (none-ne-some w e), λ t. let z = t.1 in cc)

-- outputs with room for every word
zeros : ℕ → List ℕ
zeros l = let z : ℕ = 0 in replicate l z

length_zeros : (l : ℕ) → length (zeros l) ≡ l
unfolding zeros
length_zeros l = let z : ℕ = 0 in length-replicate l z

single_roomy : (l : ℕ) → (o : List ℕ) × (single.room o l ≡ true)
single_roomy l = (zeros l, le-leb l (length (zeros l)) (omega (arith, length_zeros l)))

for_C_roomy : (l : ℕ) → (o : List ℕ × List ℕ) × (for_C.room o l ≡ true)
for_C_roomy l = ((zeros l, zeros 3), (room_exactly (zeros l) (zeros 3) l).1 (omega (arith, length_zeros l), omega (arith, length_zeros 3)))

module _ (k n : ℕ) (u : List ℕ) (h : AcceptedWord k n u) where
  -- R16, IC3: the number is the new length, the new word stands at the front of the output and the rule at the front
  -- of `rule`, and the rest stays
  pub used_numbers : (earlier : List (Call for_C)) (c : Call for_C) (rest : List (Call for_C)) → Run for_C k n u (earlier ++ (c ∷ rest))
      → (x : Rule) → Usable for_C k n (word_left for_C u earlier) c.arguments x → let w = word_left for_C u (earlier ++ (c ∷ [])) in
      (c.result.answer ≡ pos (length w))
      × (c.result.outputs
      ≡ (front w c.arguments.outputs.0, x.family ∷ x.i ∷ x.j ∷ drop 3 c.arguments.outputs.1))
  unfolding front
  used_numbers earlier c rest r x b = used_written for_C demand3_calls k n u h earlier c rest r x b

  -- T11: one number bounds the uses of a rule by calls for C and by single rewrites
  pub one_number : (most : ℕ) × ((cs : List (Call for_C)) → Run for_C k n u cs → uses for_C cs ≤ most)
      × ((ds : List (Call single)) → Run single k n u ds → uses single ds ≤ most)
  one_number = let t = one-number_of k n u h in (t.0, t.1 for_C for_C_lawful, t.1 single single_lawful)

  -- T11: a number bounds the uses by calls for C exactly if it bounds those by single rewrites
  pub same_bounds : (most : ℕ) → ((cs : List (Call for_C)) → Run for_C k n u cs → uses for_C cs ≤ most)
      ↔ ((ds : List (Call single)) → Run single k n u ds → uses single ds ≤ most)
  same_bounds most = (
    bound_of_other single_lawful for_C_lawful for_C_roomy k n u h most,
    bound_of_other for_C_lawful single_lawful single_roomy k n u h most,
  )
