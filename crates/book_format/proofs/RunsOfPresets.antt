-- Reading a run of presets in plain terms (I30 and I35 of the specification): which preset stands where in a run, which
-- run in numbers is refused with which number, how many presets an accepted one reads, and the five numbers that it
-- writes for each.
-- Assumes nothing.
use mathlib.Core.Path.{◌≡◌, refl, sym, ap, ◌∙◌}
use mathlib.Core.Logic.{◌↔◌}
use mathlib.Core.List.{List, [], ◌∷◌, ◌++◌, map, append_assoc}
use Prim.Native.Nat.{ℕ, zero, suc, ◌+◌, ◌-◌, ◌*◌, ◌/◌, ◌≤◌, ◌<◌, min}
use native.Mathlib.Nat.{add-zero, add-suc, suc-add}
use native.Mathlib.Omega.{arith}
use lib.ListN.{length, take, drop, get_or, length-map}
use lib.Seq.{take_at, drop_at, drop-drop}
use borrow.Author.Tests.{eq-eqb, le-ltb, lt-leb, leb-false, ltb-false}
use Rattle.coxeter.specs.answers.Answer.{Answer}
use Rattle.coxeter.specs.answers.Answer as answer
use Rattle.coxeter.specs.Kinds.{pick, up}
use Rattle.coxeter.specs.Checks.{first_of, check, ◌then◌, too_short}
use Rattle.coxeter.specs.Calls.{Yields, front, written}
use Rattle.coxeter.proofs.Basics.{length_up}
use Rattle.coxeter.proofs.Products.{get_or-up, get_d_map}
use Rattle.coxeter.proofs.Refusals.{then_zero, check_zero}
use Rattle.coxeter.proofs.FrontLaws.{drop-front, front_parts}
use Rattle.coxeter.proofs.AnswersExactly.{answer_of_exactly}
use Rattle.book_format.specs.declared.Edition.{Edition}
use Rattle.book_format.specs.answers.Opened as opened
use Rattle.book_format.specs.answers.Preset.{Preset}
use Rattle.book_format.specs.answers.Preset as preset
use Rattle.book_format.specs.Books.{count, wrong_size, wrong_count, misplaced, no_such_preset, book_refusal}
use Rattle.book_format.specs.Calls.{checked_book, checked_preset, fields_of, preset_fields, run_length, reading_presets}
use Rattle.coxeter.proofs.FirstFailing.{check_then}
use Rattle.book_format.proofs.PresetLaws.{checked_book_presets, presets_opened}
use Rattle.book_format.proofs.Outcomes.{book_refusal_then}
use Rattle.book_format.proofs.RunLaws.{length-fields_of, length-preset_fields}

-- I35: a run has 128 presets, and the one at place j is what reading the preset with the number i + j answers
pub presets_at : (ed : Edition) (b : List ℕ) (i : ℕ) (run : List Preset) → run ≡ map (checked_preset ed b) (up i 128)
    → (length run ≡ 128) × ((j : ℕ) (d : Preset) → j < 128 → get_or run j d ≡ checked_preset ed b (i + j))
presets_at ed b i run e =
    let s = length_up i 128 in (
      rw e (length-map (up i 128) (checked_preset ed b) ∙ s),
      λ j d h. rw (e, get_d_map (checked_preset ed b) (up i 128) j d 0 (omega arith), get_or-up i 128 j 0 h),
    )

-- the numbers of preset j of a run, with others behind the run
fields_at : (ed : Edition) (b : List ℕ) (t i j : ℕ) (l : List ℕ) → j < t
    → take 5 (drop (5 * j) (preset_fields ed b t i ++ l)) ≡ fields_of (checked_preset ed b (i + j))
unfolding preset_fields
fields_at ed b zero i j l h = absurd (omega arith)
fields_at ed b (suc t) i zero l h =
    let f = fields_of (checked_preset ed b i) in
    rw (add-zero i, append_assoc f (preset_fields ed b t (suc i)) l) (take_at f _ 5 (length-fields_of (checked_preset ed b i)))
fields_at ed b (suc t) i (suc j) l h =
    let f = fields_of (checked_preset ed b i) in
    let next : 5 * suc j ≡ 5 + 5 * j = omega arith in
    let rest = preset_fields ed b t (suc i) ++ l in
    rw (
      next,
      append_assoc f (preset_fields ed b t (suc i)) l,
      ← drop-drop (5 * j) 5 (f ++ rest),
      drop_at f rest 5 (length-fields_of (checked_preset ed b i)),
      add-suc i j,
      ← suc-add i j,
    )
    (fields_at ed b t (suc i) j l (omega arith))

-- the checks of a run
abbrev refusal : Edition → List ℕ → ℕ → List ℕ → ℕ
refusal ed b i out = book_refusal ed b then check 4 (no_such_preset b i) then check 14 (too_short 5 out)

module _ (ed : Edition) (b : List ℕ) (i : ℕ) (out : List ℕ) where
  refusal-first_of : refusal ed b i out
      ≡ first_of ((1, wrong_size b) ∷ (2, wrong_count b) ∷ (3, misplaced ed b) ∷ (4, no_such_preset b i) ∷ (14, too_short 5 out) ∷ [])
  refusal-first_of =
      book_refusal_then ed b (check 4 (no_such_preset b i) then check 14 (too_short 5 out))
      ∙ ap (λ r. pick (wrong_size b) 1 (pick (wrong_count b) 2 (pick (misplaced ed b) 3 r)))
      (check_then 3 (no_such_preset b i) {s = check 14 (too_short 5 out)} refl)

  refusal_none : (refusal ed b i out ≡ 0) ↔ ((book_refusal ed b ≡ 0) × (i < count b) × (5 ≤ length out))
  unfolding no_such_preset too_short
  refusal_none = (
    λ z.
        let four = check 4 (no_such_preset b i) in
        let p = then_zero (book_refusal ed b) (four then check 14 (too_short 5 out)) z in
        let q = then_zero four (check 14 (too_short 5 out)) p.1 in
        let below = leb-false (count b) i (check_zero 4 (no_such_preset b i) refl q.0) in
        (p.0, below, ltb-false (length out) 5 (check_zero 14 (too_short 5 out) refl q.1)),
    λ p. rw (p.0, lt-leb (count b) i p.1, le-ltb (length out) 5 p.2),
  )

module _ (ed : Edition) (b : List ℕ) (i : ℕ) (before after : List ℕ) (a : Answer) (h : Yields (reading_presets ed b i before) a after) where
  -- I30, CO3: a run is refused with the number of the first check that fails: 1, 2 and 3 of the book, 4 of the first
  -- preset, 14 if not even one preset has room
  pub run_refused : (r : ℕ)
      → (a ≡ answer.Refused r)
      ↔ ((first_of ((1, wrong_size b) ∷ (2, wrong_count b) ∷ (3, misplaced ed b) ∷ (4, no_such_preset b i) ∷ (14, too_short 5 before) ∷ []) ≡ r)
      × (r ≡ 0 → ⊥))
  unfolding reading_presets
  run_refused r = rw (h.0, ← refusal-first_of ed b i before) ((answer_of_exactly (refusal ed b i before) (run_length b i before)).0 r)

  -- I30: a run is accepted exactly when the book opens and has the first preset, and one preset has room; the answer
  -- is the number of presets from the first on or the number that have room, whichever is smaller
  pub run_accepted : (t : ℕ)
      → (a ≡ answer.Length t)
      ↔ ((c : ℕ) × (checked_book ed b ≡ opened.Presets c) × (i < c) × (5 ≤ length before) × (t ≡ min (c - i) (length before / 5)))
  unfolding reading_presets run_length
  run_accepted t =
      let q = (answer_of_exactly (refusal ed b i before) (run_length b i before)).1 t in
      let n = refusal_none ed b i before in
      rw h.0 (
        λ e.
            let p = q.0 e in
            let z = n.0 p.0 in
            (count b, checked_book_presets ed b (book_refusal ed b) (count b) refl z.0 refl, z.1, z.2, sym p.1),
        λ p.
            let o = presets_opened ed b p.0 (sym p.1) in
            q.1 (n.1 (o.0, rw (← o.1) p.2, p.3), sym (p.4 ∙ rw o.1)),
      )

  -- I30: the five numbers of a preset that is found are 0, its kind, its rank, where its letters begin and how many
  -- they are, and those of a refused one are its refusal and four zeros; what lies behind the last of them stays
  pub run_written : (t : ℕ) → a ≡ answer.Length t
      → (drop (5 * t) after ≡ drop (5 * t) before)
      × ((j k n s l : ℕ) → j < t → checked_preset ed b (i + j) ≡ preset.Found k n s l → take 5 (drop (5 * j) after) ≡ 0 ∷ k ∷ n ∷ s ∷ l ∷ [])
      × ((j r : ℕ) → j < t → checked_preset ed b (i + j) ≡ preset.Refused r → take 5 (drop (5 * j) after) ≡ r ∷ 0 ∷ 0 ∷ 0 ∷ 0 ∷ [])
  unfolding reading_presets written fields_of
  run_written t e =
      let q = ((answer_of_exactly (refusal ed b i before) (run_length b i before)).1 t).0 (sym h.0 ∙ e) in
      let numbers = preset_fields ed b t i in
      let l = length-preset_fields ed b t i in
      let w : after ≡ front numbers before = rw (← q.1) (rw (eq-eqb (refusal ed b i before) 0 q.0) at h.1) in
      let at : (j : ℕ) → j < t → take 5 (drop (5 * j) after) ≡ fields_of (checked_preset ed b (i + j)) =
      λ j g. rw (w, ← front_parts numbers before (5 * t) numbers l refl) (fields_at ed b t i j (drop (5 * t) before) g) in (
        rw w (drop-front numbers before (5 * t) l),
        λ j k n s m g f. at j g ∙ ap fields_of f,
        λ j r g f. at j g ∙ ap fields_of f,
      )
