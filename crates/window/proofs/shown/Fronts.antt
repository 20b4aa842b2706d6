-- A window at the front of a work window.
-- Assumes nothing.
use mathlib.Core.Path.{◌≡◌, ap, ◌∙◌}
use mathlib.Core.List.{List, ◌++◌, append_assoc}
use Prim.Native.Nat.{ℕ}
use lib.IntN.{ℤ}
use lib.ListN.{length, take, drop}
use lib.Seq.{take_at}
use Rattle.coxeter.specs.Calls.{front}

-- x was stored in the first m entries, and `rest` lies behind
pub made : {m : ℕ} {x r : List ℤ} (rest : List ℤ) → r ≡ x → length x ≡ m → take m (r ++ rest) ≡ x
made {m} {x} rest e l = ap (λ (v : List ℤ). take m (v ++ rest)) e ∙ take_at x rest m l

-- the same, if it was written to the front of a part
pub made_front : {m : ℕ} {x r : List ℤ} (part rest : List ℤ) → r ≡ front x part → length x ≡ m → take m (r ++ rest) ≡ x
unfolding front
made_front {m} {x} part rest e l =
    ap (λ (v : List ℤ). take m (v ++ rest)) e
    ∙ ap (take m) (append_assoc x (drop (length x) part) rest)
    ∙ take_at x (drop (length x) part ++ rest) m l
