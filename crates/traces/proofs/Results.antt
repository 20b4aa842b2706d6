-- That no two results of the code are one answer, so that a contract which names the answer names the result.
-- Assumes nothing.
use mathlib.Core.Path.{◌≡◌, ap}
use Rattle.std.specs.Prelude.{Result, Ok, Err}
use Rattle.coxeter.specs.declared.Refusal.{Refusal}
use Rattle.coxeter.specs.Refusals.{number}
use Rattle.coxeter.proofs.Results.{number_determines}
use Rattle.coxeter.proofs.TestLaws.{impossible}
use Rattle.traces.specs.declared.Rewriting.{Rewriting}
use Rattle.traces.specs.answers.ToEnd.{as_to_end}

pub as_to_end_determines : (x y : Result Rewriting Refusal) → as_to_end x ≡ as_to_end y → x ≡ y
as_to_end_determines (Ok c) (Ok d) e =
    let a : c.steps ≡ d.steps = cc in
    let b : c.length ≡ d.length = cc in
    λ i. Ok (record { steps = a i; length = b i })
as_to_end_determines (Ok c) (Err s) e = impossible cc
as_to_end_determines (Err r) (Ok d) e = impossible cc
as_to_end_determines (Err r) (Err s) e = let q : number r ≡ number s = cc in ap Err (number_determines r s q)
