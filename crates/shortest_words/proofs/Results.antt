-- That no two results of the code are one answer, so that a contract which names the answer names the result.
-- Assumes nothing.
use mathlib.Core.Path.{◌≡◌, refl, ap}
use Prim.Native.Nat.{ℕ}
use Rattle.std.specs.Prelude.{Option, Some, None, Result, Ok, Err}
use Rattle.coxeter.specs.declared.Refusal.{Refusal}
use Rattle.coxeter.specs.Refusals.{number}
use Rattle.coxeter.proofs.Results.{number_determines}
use Rattle.coxeter.proofs.TestLaws.{impossible}
use Rattle.shortest_words.specs.declared.SplitLengths.{SplitLengths}
use Rattle.shortest_words.specs.answers.Fallback.{as_fallback}
use Rattle.shortest_words.specs.answers.Split.{as_split}

pub as_fallback_determines : (x y : Result (Option ℕ) Refusal) → as_fallback x ≡ as_fallback y → x ≡ y
as_fallback_determines (Ok (Some l)) (Ok (Some m)) e = let s : l ≡ m = cc in ap (λ (n : ℕ). Ok (Some n)) s
as_fallback_determines (Ok (Some l)) (Ok None) e = impossible cc
as_fallback_determines (Ok None) (Ok (Some m)) e = impossible cc
as_fallback_determines (Ok None) (Ok None) e = refl
as_fallback_determines (Ok (Some l)) (Err s) e = impossible cc
as_fallback_determines (Ok None) (Err s) e = impossible cc
as_fallback_determines (Err r) (Ok (Some m)) e = impossible cc
as_fallback_determines (Err r) (Ok None) e = impossible cc
as_fallback_determines (Err r) (Err s) e = let q : number r ≡ number s = cc in ap Err (number_determines r s q)

pub as_split_determines : (x y : Result SplitLengths Refusal) → as_split x ≡ as_split y → x ≡ y
as_split_determines (Ok c) (Ok d) e =
    let a : c.first ≡ d.first = cc in
    let b : c.second ≡ d.second = cc in
    λ i. Ok (record { first = a i; second = b i })
as_split_determines (Ok c) (Err s) e = impossible cc
as_split_determines (Err r) (Ok d) e = impossible cc
as_split_determines (Err r) (Err s) e = let q : number r ≡ number s = cc in ap Err (number_determines r s q)
