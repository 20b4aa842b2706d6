-- What the call from one window to another returns and writes, for every input (I23 and C19 of the specification).
use Rattle.std.specs.Prelude.{Bool, not, List, ℕ, ℤ}
use Rattle.coxeter.specs.declared.Kind.{Kind}
use Rattle.coxeter.specs.Kinds.{kind_of}
use Rattle.coxeter.specs.Checks.{check, ◌then◌, window_refusal}
use Rattle.coxeter.specs.Calls.{Outcome, writes}
use Rattle.shortest_words.specs.Allowed.{allows, set_refusal}
use Rattle.shortest_words.specs.Between.{between, reachable}

-- C19: that the test says so, both ways, is `between_refuses_19` of proofs/BetweenCalls.antt
unfoldable pub unreachable : Kind → ℕ → ℕ → List ℤ → List ℤ → Bool
unreachable k n set v w = not (reachable (allows set) k n v w)

-- I23, CO2: checks 5, 6 and 16, both windows, then 19; 14 comes last
unfoldable pub between_refusal : ℕ → ℕ → ℕ → List ℤ → List ℤ → ℕ
between_refusal k n set v w =
    set_refusal k n set then window_refusal (kind_of k) n v then window_refusal (kind_of k) n w then check 19 (unreachable (kind_of k) n set v w)

-- I23, A1: from the window v to the window w
unfoldable pub between_windows : ℕ → ℕ → ℕ → List ℤ → List ℤ → List ℕ → Outcome ℕ
between_windows k n set v w out = writes (between_refusal k n set v w) (between (kind_of k) n v w) out
