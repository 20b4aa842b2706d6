-- Numbers of calls for C: which number an answer has, what is left of a list of numbers and of the outputs beside it, exactly, and when the number
-- says that there is no fallback (IC3 and IC4 of the specification).
-- Assumes nothing.
use mathlib.Core.Path.{◌≡◌, refl, sym, ap, ◌∙◌}
use mathlib.Core.Bool.{◌&&◌}
use mathlib.Core.Logic.{◌↔◌}
use mathlib.Core.List.{List, [], ◌∷◌, ◌++◌}
use Prim.Native.Nat.{ℕ, zero, suc, ◌≤◌, ◌<◌}
use lib.IntN.{ℤ, pos, negsuc}
use lib.ListN.{length, drop}
use borrow.Author.Tests.{lt-ltb, le-ltb}
use Rattle.coxeter.specs.Kinds.{kind_of}
use Rattle.coxeter.specs.Windows.{window}
use Rattle.coxeter.specs.Length.{window_length}
use Rattle.coxeter.specs.Checks.{RankOf, WordOf, wrong_kind, wrong_rank, too_long, wrong_letter, too_short}
use Rattle.coxeter.proofs.FirstFailing.{first_of-named}
use Rattle.coxeter.proofs.FrontLaws.{front_parts}
use Rattle.coxeter.specs.answers.Answer as answer
use Rattle.rules.specs.Rules.{Rule}
use Rattle.shortest_words.specs.answers.Fallback.{Fallback}
use Rattle.shortest_words.specs.answers.Fallback.{Kept, No, Refused}
use Rattle.shortest_words.specs.Fallback.{FallbackOf, is_fallback}
use Rattle.shortest_words.specs.Calls.{fallback_answer}
use Rattle.shortest_words.proofs.Firsts.{fallback_first_of, fallback_of_exactly}
use Rattle.shortest_words.proofs.Sentences.{no_exactly}
use Rattle.c_api.specs.Calls.{refused, number_of, listed, listed_beside, for_C, rewriting}
use Rattle.c_api.specs.Shortest.{fallback_number, FallbackNumbered}
use Rattle.c_api.proofs.Unchanged.{rewriting-unchanged}

-- ---- one number

-- IC2: a length is its number, and refusal k is −k
pub answers_numbered : ((l : ℕ) → number_of (answer.Length l) ≡ pos l) × ((r : ℕ) → number_of (answer.Refused (suc r)) ≡ negsuc r)
unfolding number_of refused
answers_numbered = (λ l. refl, λ r. refl)

-- IC2, IC4: a rewrite's number is the new length, −100 if none fits, and −k if it is refused with k
pub rewrites_numbered : ((x : Rule) (l : ℕ) → for_C.used x l ≡ pos l) × (for_C.none_fits ≡ negsuc 99) × ((r : ℕ) → for_C.refused (suc r) ≡ negsuc r)
unfolding refused
rewrites_numbered = (λ x l. refl, refl, λ r. refl)

-- IC4: if none fits, nothing is written
pub none_fits_unwritten : (k n : ℕ) (u : List ℕ) (p : ℕ) (out rule : List ℕ) → (rewriting k n u p out rule).0 ≡ negsuc 99
    → (rewriting k n u p out rule).1 ≡ (out, rule)
unfolding refused
none_fits_unwritten k n u p out rule e = rewriting-unchanged k n u p out rule 99 e

-- ---- numbers that go to a list

-- IC3, C14: if the list has room for the numbers they stand at its front; if not, the number is −14 and the list stays
pub listed_exactly : (z : ℤ) (l list : List ℕ)
    → (length l ≤ length list → listed (z, l) list ≡ (z, l ++ drop (length l) list))
    × (length list < length l → listed (z, l) list ≡ (refused 14, list))
unfolding listed too_short
listed_exactly z l list = (λ h. rw (le-ltb (length list) (length l) h, front_parts l list (length l) l refl refl), λ h. rw (lt-ltb (length list) (length l) h))

-- IC3, CO9, C14: the same of a call that would leave `new` in its other outputs, which were `old`: a list without room
-- leaves them as they were
pub beside_exactly : {Outputs : Type 0} (z : ℤ) (l : List ℕ) (new old : Outputs) (list : List ℕ)
    → (length l ≤ length list → listed_beside (z, l) new old list ≡ (z, (new, l ++ drop (length l) list)))
    × (length list < length l → listed_beside (z, l) new old list ≡ (refused 14, (old, list)))
unfolding listed_beside too_short
beside_exactly z l new old list = (
  λ h. rw (le-ltb (length list) (length l) h, front_parts l list (length l) l refl refl),
  λ h. rw (lt-ltb (length list) (length l) h),
)

-- ---- no fallback

-- only `No` has the number −101, of answers that are not refused with 101
no_of_101 : (a : Fallback) → (a ≡ Refused 101 → ⊥) → fallback_number a ≡ refused 101 → a ≡ No
unfolding fallback_number refused
no_of_101 (Kept l) f e = cc
no_of_101 No f e = refl
no_of_101 (Refused zero) f e = cc
no_of_101 (Refused (suc r)) f e = let q : r ≡ 100 = cc in absurd (f (ap (λ (c : ℕ). Refused (suc c)) q))

-- no check has the number 101
never_101 : (k n : ℕ) (present simpler places : List ℕ) → fallback_answer k n present simpler places ≡ Refused 101 → ⊥
never_101 k n present simpler places e =
    let falls = is_fallback (kind_of k) n present simpler in
    let l = window_length (kind_of k) (window (kind_of k) n simpler) in
    first_of-named 100
    ((5, wrong_kind k) ∷ (6, wrong_rank (kind_of k) n) ∷ (7, too_long present) ∷ (8, wrong_letter n present)
    ∷ (7, too_long simpler) ∷ (8, wrong_letter n simpler) ∷ (14, falls && too_short l places) ∷ []) refl
    (((fallback_of_exactly _ falls l).0 101).0 (sym (fallback_first_of k n present simpler places) ∙ e)).0

-- IC4, F2: the number is −101 exactly if no check refuses and no part-list of the present normal form has the simpler
-- window
pub fallback_101_exactly : (k n : ℕ) (present simpler places : List ℕ) (z : ℤ) (after : List ℕ)
    → FallbackNumbered k n present simpler places z after
    → (z ≡ refused 101) ↔ (RankOf k n × WordOf n present × WordOf n simpler × (FallbackOf (kind_of k) n present simpler → ⊥))
unfolding fallback_number
fallback_101_exactly k n present simpler places z after h =
    let a = fallback_answer k n present simpler places in
    let e = no_exactly k n present simpler places a after h.1 in (
      λ q. e.0 (no_of_101 a (never_101 k n present simpler places) (sym h.0 ∙ q)),
      λ p. h.0 ∙ ap fallback_number (e.1 p),
    )
