-- The checks of a conversion, record after record (B25 and CO5 of the specification): the first record that is
-- refused stops them, and where none is each passes.
-- Assumes nothing.
use mathlib.Core.Path.{◌≡◌, sym, ap, refl, ◌∙◌}
use mathlib.Core.List.{List}
use Prim.Native.Nat.{ℕ, zero, suc, ◌+◌, ◌<◌}
use native.Mathlib.Decide.{ℕ_discrete}
use native.Mathlib.Nat.{add-zero, zero-add, add-suc, suc-add}
use native.Mathlib.Omega.{arith}
use Rattle.coxeter.specs.Checks.{first_of, ◌then◌}
use Rattle.coxeter.proofs.Refusals.{then_zero, then_none, then_some}
use Rattle.book_format.specs.declared.Edition.{Edition}
use Rattle.book_format.specs.Books.{offset}
use Rattle.book_format.specs.Conversion.{record_conversion_refusal, records_conversion_refusal, record_tests}
use Rattle.book_format.proofs.Outcomes.{record_conversion_refusal-first_of}

module _ (ed : Edition) (b : List ℕ) where
  -- the refusal of record i
  abbrev pub at_record : ℕ → ℕ
  at_record i = record_conversion_refusal ed b (offset b i)

  passes_next : (i j : ℕ) → ((x : ℕ) → x < suc j → at_record (i + x) ≡ 0) → (x : ℕ) → x < j → at_record (suc i + x) ≡ 0
  passes_next i j p x h = rw (suc-add i x, ← add-suc i x) (p (suc x) (omega arith))

  passes_all : (i j : ℕ) → at_record i ≡ 0 → ((x : ℕ) → x < j → at_record (suc i + x) ≡ 0) → (x : ℕ) → x < suc j → at_record (i + x) ≡ 0
  passes_all i j z p zero h = rw (add-zero i) z
  passes_all i j z p (suc x) h = rw (add-suc i x, ← suc-add i x) (p x (omega arith))

  -- the first record that is refused stops the walk, and where none is it ends
  pub records_stop : (t i j r : ℕ) → j < t → ((x : ℕ) → x < j → at_record (i + x) ≡ 0) → at_record (i + j) ≡ r → (r ≡ 0 → ⊥)
      → records_conversion_refusal ed b t i ≡ r
  unfolding records_conversion_refusal
  records_stop zero i j r h p e f = absurd (omega arith)
  records_stop (suc t) i zero r h p e f =
      ap (λ q. q then records_conversion_refusal ed b t (suc i)) (rw (add-zero i) at e) ∙ then_some r (records_conversion_refusal ed b t (suc i)) f
  records_stop (suc t) i (suc j) r h p e f =
      then_none (at_record i) (records_conversion_refusal ed b t (suc i)) (rw (add-zero i) at (p 0 (omega arith)))
      ∙ records_stop t (suc i) j r (omega arith) (passes_next i j p) (rw (add-suc i j, ← suc-add i j) at e) f

  pub records_pass : (t i : ℕ) → ((x : ℕ) → x < t → at_record (i + x) ≡ 0) → records_conversion_refusal ed b t i ≡ 0
  unfolding records_conversion_refusal
  records_pass zero i p = refl
  records_pass (suc t) i p =
      then_none (at_record i) (records_conversion_refusal ed b t (suc i)) (rw (add-zero i) at (p 0 (omega arith))) ∙ records_pass t (suc i) (passes_next i t p)

  -- a refusal is that of a record whose predecessors pass
  pub records-refused : (t i r : ℕ) → records_conversion_refusal ed b t i ≡ r → (r ≡ 0 → ⊥)
      → (j : ℕ) × (j < t) × ((x : ℕ) → x < j → at_record (i + x) ≡ 0) × (at_record (i + j) ≡ r)
  unfolding records_conversion_refusal
  records-refused zero i r e f = absurd (f (sym e))
  records-refused (suc t) i r e f = elim (ℕ_discrete (at_record i) 0) [
    | yes z ↦
        let q = records-refused t (suc i) r (sym (then_none (at_record i) (records_conversion_refusal ed b t (suc i)) z) ∙ e) f in
        (suc q.0, omega (arith, q.1), passes_all i q.0 z q.2, rw (add-suc i q.0, ← suc-add i q.0) q.3)
    | no g ↦ (zero, omega arith, λ x h. absurd (omega arith), rw (add-zero i) (sym (then_some (at_record i) (records_conversion_refusal ed b t (suc i)) g) ∙ e))
  ]

  -- where none is refused, each passes
  pub records_each : (t i : ℕ) → records_conversion_refusal ed b t i ≡ 0 → (x : ℕ) → x < t → at_record (i + x) ≡ 0
  unfolding records_conversion_refusal
  records_each zero i z = λ x h. absurd (omega arith)
  records_each (suc t) i z =
      let p = then_zero (at_record i) (records_conversion_refusal ed b t (suc i)) z in
      passes_all i t p.0 (records_each t (suc i) p.1)

  pub passes_tests : (j : ℕ) → ((i : ℕ) → i < j → first_of (record_tests ed b i) ≡ 0) → (x : ℕ) → x < j → at_record (0 + x) ≡ 0
  passes_tests j p x h = rw (zero-add x) (record_conversion_refusal-first_of ed b x ∙ p x h)
