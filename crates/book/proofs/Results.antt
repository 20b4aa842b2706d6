-- What a result is that `?` made of a refusal.
-- Assumes nothing.
use mathlib.Core.Path.{◌≡◌, ap}
use Rattle.std.specs.Prelude.{Result, Ok, Err, IsErr, IsErrAnd}
use Rattle.coxeter.specs.declared.Refusal.{Refusal}

pub refused_with : {X : Type 0} (r : Result X Refusal) (e : Refusal) → IsErr r × IsErrAnd r (λ (x : Refusal). x ≡ e) → r ≡ Err e
refused_with (Ok x) e h = absurd h.1
refused_with (Err x) e h = ap Err h.1
