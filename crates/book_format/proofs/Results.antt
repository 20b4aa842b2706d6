-- That no two results of the code are one answer, so that a contract which names the answer names the result.
-- Assumes nothing.
use mathlib.Core.Path.{◌≡◌, refl, sym, ap, ◌∙◌}
use Prim.Native.Nat.{ℕ}
use Rattle.std.specs.Prelude.{Result, Ok, Err}
use Rattle.coxeter.specs.declared.Refusal.{Refusal}
use Rattle.coxeter.specs.Refusals.{number}
use Rattle.coxeter.proofs.Results.{number_determines}
use Rattle.coxeter.proofs.TestLaws.{impossible}
use Rattle.coxeter.specs.Kinds.{kind_of, kind_number}
use Rattle.coxeter.proofs.Groups.{kind_of_number}
use Rattle.book_format.specs.declared.Preset as code
use Rattle.book_format.specs.answers.Opened.{as_opened}
use Rattle.book_format.specs.answers.Preset.{as_preset}

pub as_opened_determines : (x y : Result ℕ Refusal) → as_opened x ≡ as_opened y → x ≡ y
as_opened_determines (Ok c) (Ok d) e = let s : c ≡ d = cc in ap Ok s
as_opened_determines (Ok c) (Err s) e = impossible cc
as_opened_determines (Err r) (Ok d) e = impossible cc
as_opened_determines (Err r) (Err s) e = let q : number r ≡ number s = cc in ap Err (number_determines r s q)

-- a preset, in each of its parts
pub as_preset_determines : (p : code.Preset) (x : Result code.Preset Refusal) → as_preset (Ok p) ≡ as_preset x
    → (q : code.Preset) × ((x ≡ Ok q) × (p.group.kind ≡ q.group.kind) × (p.group.rank ≡ q.group.rank) × (p.start ≡ q.start) × (p.length ≡ q.length))
as_preset_determines p (Ok q) e =
    let k : kind_number p.group.kind ≡ kind_number q.group.kind = cc in
    let n : p.group.rank ≡ q.group.rank = cc in
    let s : p.start ≡ q.start = cc in
    let l : p.length ≡ q.length = cc in
    (q, (refl, sym (kind_of_number p.group.kind) ∙ ap kind_of k ∙ kind_of_number q.group.kind, n, s, l))
as_preset_determines p (Err r) e = impossible cc

pub as_preset_refusal : (r s : Refusal) → as_preset (Err r) ≡ as_preset (Err s) → r ≡ s
as_preset_refusal r s e = let q : number r ≡ number s = cc in number_determines r s q
