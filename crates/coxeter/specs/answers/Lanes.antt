-- How many lanes a kind and a rank have (K3 and I33 of the specification).
use Rattle.std.specs.Prelude.{ℕ, Result, Ok, Err}
use Rattle.coxeter.specs.declared.Group.{Group}
use Rattle.coxeter.specs.Kinds.{lanes}
use Rattle.coxeter.specs.declared.Refusal.{Refusal}
use Rattle.coxeter.specs.Refusals.{number}

-- K3, I33: the lane count, or the refusal
pub data Lanes : Type 0 where
  Count Refused : ℕ → Lanes

-- K3, I33, G17: the number and the value of each case of the code's result, which is the group
abbrev pub as_lanes : Result Group Refusal → Lanes
as_lanes (Ok g) = Count (lanes g.kind g.rank)
as_lanes (Err r) = Refused (number r)
