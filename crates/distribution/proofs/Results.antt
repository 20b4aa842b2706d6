-- That no two results of the code are one answer, so that a contract which names the answer names the result.
-- Assumes nothing.
use mathlib.Core.Path.{◌≡◌, ap}
use Rattle.std.specs.Prelude.{Result, Ok, Err}
use Rattle.coxeter.specs.declared.Refusal.{Refusal}
use Rattle.coxeter.specs.Refusals.{number}
use Rattle.coxeter.proofs.Results.{number_determines}
use Rattle.coxeter.proofs.TestLaws.{impossible}
use Rattle.distribution.specs.declared.TableLengths.{TableLengths}
use Rattle.distribution.specs.answers.Table.{as_table}

pub as_table_determines : (x y : Result TableLengths Refusal) → as_table x ≡ as_table y → x ≡ y
as_table_determines (Ok c) (Ok d) e =
    let a : c.counts ≡ d.counts = cc in
    let b : c.entries ≡ d.entries = cc in
    let l : c.letters ≡ d.letters = cc in
    λ i. Ok (record { counts = a i; entries = b i; letters = l i })
as_table_determines (Ok c) (Err s) e = impossible cc
as_table_determines (Err r) (Ok d) e = impossible cc
as_table_determines (Err r) (Err s) e = let q : number r ≡ number s = cc in ap Err (number_determines r s q)
