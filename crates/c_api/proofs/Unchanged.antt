-- D6 for the calls for C that write more than the call below them does: if the number is negative, every output and
-- the list of numbers are as they were. Each is an instance of the law of Lists.
-- Assumes nothing.
use mathlib.Core.Path.{◌≡◌, sym, ap, ◌∙◌}
use mathlib.Core.List.{List}
use Prim.Native.Nat.{ℕ, suc}
use lib.IntN.{ℤ}
use Rattle.coxeter.specs.answers.Counted.{Counted}
use Rattle.rules.specs.Calls.{rewrite_at, single}
use Rattle.shortest_words.specs.SplitCalls.{splitting}
use Rattle.traces.specs.Traces.{rewriting_to_end}
use Rattle.distribution.specs.Calls.{delay_table}
use Rattle.book_format.specs.answers.Preset.{Preset}
use Rattle.c_api.specs.Calls.{refused, crossing_numbers, preset_numbers, listed, rewriting, rewriting_to_end_listed, splitting_listed, delay_table_listed}
use Rattle.c_api.proofs.Lists.{crossing-numbers, rewrite-numbers, trace-numbers, split-numbers, table-numbers, preset-numbers}
use Rattle.c_api.proofs.Lists.{listed-unchanged, beside_unchanged}
use Rattle.c_api.proofs.Outcomes.{rewriting-listed, rewrite_still}
use Rattle.c_api.proofs.SplitNumbers.{splitting_still}
use Rattle.c_api.proofs.StepNumbers.{rewriting_to_end_still}
use Rattle.c_api.proofs.TableNumbers.{delay_table_still}

pub crossings-unchanged : (a : Counted) (counts : List ℕ) (r : ℕ) → (listed (crossing_numbers a) counts).0 ≡ refused (suc r)
    → (listed (crossing_numbers a) counts).1 ≡ counts
crossings-unchanged a counts r h = listed-unchanged (crossing-numbers a) counts r h

pub preset_unchanged : (a : Preset) (fields : List ℕ) (r : ℕ) → (listed (preset_numbers a) fields).0 ≡ refused (suc r)
    → (listed (preset_numbers a) fields).1 ≡ fields
preset_unchanged a fields r h = listed-unchanged (preset-numbers a) fields r h

-- that none fits is a negative number too, and writes nothing either
pub rewriting-unchanged : (k n : ℕ) (u : List ℕ) (p : ℕ) (out rule : List ℕ) (r : ℕ) → (rewriting k n u p out rule).0 ≡ refused (suc r)
    → (rewriting k n u p out rule).1 ≡ (out, rule)
rewriting-unchanged k n u p out rule r h =
    let t = rewrite_at single k n u p out in
    let e = rewriting-listed k n u p out rule in
    ap (λ (x : ℤ × (List ℕ × List ℕ)). x.1) e
    ∙ beside_unchanged (rewrite-numbers t.answer) t.outputs out rule r (rewrite_still k n u p out)
    (sym (ap (λ (x : ℤ × (List ℕ × List ℕ)). x.0) e) ∙ h)

-- the three lists of the steps, the output and the list for the final length
pub rewriting_to_end_listed-unchanged : (k n : ℕ) (u families places lengths out written : List ℕ) (r : ℕ)
    → (rewriting_to_end_listed k n u families places lengths out written).0 ≡ refused (suc r)
    → (rewriting_to_end_listed k n u families places lengths out written).1 ≡ ((families, places, lengths, out), written)
unfolding rewriting_to_end_listed
rewriting_to_end_listed-unchanged k n u families places lengths out written r h =
    let t = rewriting_to_end k n u families places lengths out in
    beside_unchanged (trace-numbers t.answer) (t.families, t.places, t.lengths, t.bytes) (families, places, lengths, out) written r
    (rewriting_to_end_still k n u families places lengths out) h

-- the two outputs and the lengths
pub splitting_listed-unchanged : (k n set : ℕ) (u first second lengths : List ℕ) (r : ℕ)
    → (splitting_listed k n set u first second lengths).0 ≡ refused (suc r)
    → (splitting_listed k n set u first second lengths).1 ≡ ((first, second), lengths)
unfolding splitting_listed
splitting_listed-unchanged k n set u first second lengths r h =
    let p = splitting k n set u first second in
    beside_unchanged (split-numbers p.answer) (p.first, p.second) (first, second) lengths r (splitting_still k n set u first second) h

-- the three outputs and the lengths
pub delay_table_listed-unchanged : (k n : ℕ) (counts : List ℕ) (window : List ℤ) (form lengths : List ℕ) (r : ℕ)
    → (delay_table_listed k n counts window form lengths).0 ≡ refused (suc r)
    → (delay_table_listed k n counts window form lengths).1 ≡ ((counts, window, form), lengths)
unfolding delay_table_listed
delay_table_listed-unchanged k n counts window form lengths r h =
    let t = delay_table k n counts window form in
    beside_unchanged (table-numbers t.answer) (t.counts, t.entries, t.letters) (counts, window, form) lengths r
    (delay_table_still k n counts window form) h
