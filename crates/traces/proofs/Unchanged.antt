-- A rewriting to its end that is refused changes none of its three lists and no byte of its output; past the steps
-- the lists keep what they held. By cases on the refusal.
-- Assumes nothing.
use mathlib.Core.Path.{◌≡◌, ◌∙◌}
use mathlib.Core.List.{List, map}
use Prim.Native.Nat.{ℕ}
use lib.ListN.{length, drop, length-map}
use Rattle.coxeter.specs.Kinds.{kind_of}
use Rattle.coxeter.specs.Checks.{check, ◌then◌, too_short, rank_refusal, word_refusal}
use Rattle.coxeter.proofs.Unchanged.{kept_whole, kept_past}
use Rattle.traces.specs.answers.ToEnd as to_end
use Rattle.traces.specs.Traces.{Line, too_few_places, families_of, places_of, lengths_of, traced_by, trace, rewriting_to_end}
use Rattle.traces.proofs.Firsts.{to_end_of_exactly}

module _ (k n : ℕ) (u families places lengths out : List ℕ) where
  abbrev refusal : ℕ
  refusal =
      let t = trace (kind_of k) n u in
      let checks = rank_refusal k n then word_refusal n u in
      checks then check 15 (too_few_places (length t.lines) families places lengths) then check 14 (too_short (length t.final) out)

  -- a refused call changes nothing
  pub to_end_refused-unchanged : (q : ℕ) → (rewriting_to_end k n u families places lengths out).answer ≡ to_end.Refused q
      → ((rewriting_to_end k n u families places lengths out).families ≡ families)
      × ((rewriting_to_end k n u families places lengths out).places ≡ places)
      × ((rewriting_to_end k n u families places lengths out).lengths ≡ lengths)
      × ((rewriting_to_end k n u families places lengths out).bytes ≡ out)
  unfolding rewriting_to_end traced_by
  to_end_refused-unchanged q h =
      let t = trace (kind_of k) n u in
      let e = ((to_end_of_exactly refusal (length t.lines) (length t.final)).0 q).0 h in (
        kept_whole refusal (families_of t.lines) families e,
        kept_whole refusal (places_of t.lines) places e,
        kept_whole refusal (lengths_of t.lines) lengths e,
        kept_whole refusal t.final out e,
      )

  -- T23, I2: list places past the steps and the output past the final word keep what they held
  pub to_end_past : (s l : ℕ) → (rewriting_to_end k n u families places lengths out).answer ≡ to_end.Ended s l
      → (drop s (rewriting_to_end k n u families places lengths out).families ≡ drop s families)
      × (drop s (rewriting_to_end k n u families places lengths out).places ≡ drop s places)
      × (drop s (rewriting_to_end k n u families places lengths out).lengths ≡ drop s lengths)
      × (drop l (rewriting_to_end k n u families places lengths out).bytes ≡ drop l out)
  unfolding rewriting_to_end traced_by
  to_end_past s l h =
      let t = trace (kind_of k) n u in
      let e = ((to_end_of_exactly refusal (length t.lines) (length t.final)).1 s l).0 h in
      let steps : (f : Line → ℕ) → length (map f t.lines) ≡ s = λ f. length-map t.lines f ∙ e.1 in (
        kept_past refusal (families_of t.lines) families (λ z. steps (λ m. m.family)),
        kept_past refusal (places_of t.lines) places (λ z. steps (λ m. m.place)),
        kept_past refusal (lengths_of t.lines) lengths (λ z. steps (λ m. m.left)),
        kept_past refusal t.final out (λ z. e.2),
      )
