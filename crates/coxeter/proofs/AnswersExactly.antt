-- What an answer says of the checks behind it (G17 of the specification): the number of the one that failed, or with
-- none the value. One law for each sort of answer, for every refusal and value.
-- Assumes nothing.
use mathlib.Core.Path.{◌≡◌, refl, ap}
use mathlib.Core.Bool.{Bool, true, false}
use mathlib.Core.Logic.Iff
use mathlib.Core.Logic.{◌↔◌}
use Prim.Native.Nat.{ℕ}
use lib.Dec.{eqb}
use Rattle.coxeter.specs.answers.Answer.{Length, Refused}
use Rattle.coxeter.specs.answers.Lanes as lane_count
use Rattle.coxeter.specs.answers.Verdict.{Verdict}
use Rattle.coxeter.specs.answers.Verdict as verdict
use Rattle.coxeter.specs.answers.Counted as counted
use Rattle.coxeter.specs.Kinds.{pick}
use Rattle.coxeter.specs.Length.{Crossings}
use Rattle.coxeter.specs.Calls.{answer_of, lanes_of, verdict_of, counted_of}
use Rattle.coxeter.proofs.TestLaws.{Apart}
use Rattle.coxeter.proofs.Refusals.{refused_exactly, good_exactly}

-- G17, I1, CO3: an answer is a refusal q exactly when q is the number that the checks gave and not 0, and a length m
-- exactly when they gave 0 and m is the length
pub answer_of_exactly : (r l : ℕ) → ((q : ℕ) → (answer_of r l ≡ Refused q) ↔ ((r ≡ q) × (q ≡ 0 → ⊥)))
    × ((m : ℕ) → (answer_of r l ≡ Length m) ↔ ((r ≡ 0) × (l ≡ m)))
unfolding answer_of
answer_of_exactly r l = (
  λ q. refused_exactly Refused (Length l) r q (λ e. cc) (λ e. cc),
  λ m. Iff.trans (good_exactly Refused (Length l) r (Length m) (λ e. cc)) (Iff.and Iff.rfl (λ e. cc, ap Length)),
)

-- G17, K3, I33, CO3: a lane count is refused with q exactly when q is the number that the checks gave and not 0, and
-- is a exactly when they gave 0 and a is the number of lanes
pub lanes_of_exactly : (r m : ℕ) → ((q : ℕ) → (lanes_of r m ≡ lane_count.Refused q) ↔ ((r ≡ q) × (q ≡ 0 → ⊥)))
    × ((a : ℕ) → (lanes_of r m ≡ lane_count.Count a) ↔ ((r ≡ 0) × (m ≡ a)))
unfolding lanes_of
lanes_of_exactly r m = (
  λ q. refused_exactly lane_count.Refused (lane_count.Count m) r q (λ e. cc) (λ e. cc),
  λ a. Iff.trans (good_exactly lane_count.Refused (lane_count.Count m) r (lane_count.Count a) (λ e. cc))
      (Iff.and Iff.rfl (λ e. cc, ap lane_count.Count)),
)

-- G17, V1, CO3: a verdict is a refusal q exactly when q is the number that the checks gave and not 0, and yes or no
-- exactly when they gave 0 and the test says so
pub verdict_of_exactly : (r : ℕ) (t : Bool) → ((q : ℕ) → (verdict_of r t ≡ verdict.Refused q) ↔ ((r ≡ q) × (q ≡ 0 → ⊥)))
    × ((verdict_of r t ≡ verdict.Yes) ↔ ((r ≡ 0) × (t ≡ true))) × ((verdict_of r t ≡ verdict.No) ↔ ((r ≡ 0) × (t ≡ false)))
unfolding verdict_of
verdict_of_exactly r t = (
  λ q. refused_exactly verdict.Refused (pick t verdict.Yes verdict.No) r q (λ e. cc) (number t q),
  Iff.trans (good verdict.Yes (λ e. cc)) (Iff.and Iff.rfl (said t).0),
  Iff.trans (good verdict.No (λ e. cc)) (Iff.and Iff.rfl (said t).1),
)
  where
    number : (t : Bool) (q : ℕ) → Apart (pick t verdict.Yes verdict.No) (verdict.Refused q)
    number true q e = cc
    number false q e = cc

    good : (a : Verdict) → Apart (verdict.Refused r) a → (pick (eqb r 0) (pick t verdict.Yes verdict.No) (verdict.Refused r) ≡ a)
        ↔ ((r ≡ 0) × (pick t verdict.Yes verdict.No ≡ a))
    good = good_exactly verdict.Refused (pick t verdict.Yes verdict.No) r

    said : (t : Bool)
        → ((pick t verdict.Yes verdict.No ≡ verdict.Yes) ↔ (t ≡ true)) × ((pick t verdict.Yes verdict.No ≡ verdict.No) ↔ (t ≡ false))
    said true = ((λ e. refl, λ e. refl), (λ e. cc, λ e. cc))
    said false = ((λ e. cc, λ e. cc), (λ e. refl, λ e. refl))

-- G17, L2, L3, L4, CO3: an answer with counts is a refusal q exactly when q is the number that the checks gave and not
-- 0, and the counts a, b and c exactly when they gave 0 and these are the three counts
pub counted_of_exactly : (r : ℕ) (s : Crossings) → ((q : ℕ) → (counted_of r s ≡ counted.Refused q) ↔ ((r ≡ q) × (q ≡ 0 → ⊥)))
    × ((a b c : ℕ) → (counted_of r s ≡ counted.Crossings a b c)
    ↔ ((r ≡ 0) × (s.inversions ≡ a) × (s.negative_sum_pairs ≡ b) × (s.negatives ≡ c)))
unfolding counted_of
counted_of_exactly r s =
    let all = counted.Crossings s.inversions s.negative_sum_pairs s.negatives in (
      λ q. refused_exactly counted.Refused all r q (λ e. cc) (λ e. cc),
      λ a b c. let good = good_exactly counted.Refused all r (counted.Crossings a b c) (λ e. cc) in
          (λ h. let g = good.0 h in let e = g.1 in (g.0, cc, cc, cc), λ p. good.1 (p.0, rw (p.1, p.2, p.3))),
    )
