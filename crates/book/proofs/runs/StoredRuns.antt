-- Runs of presets as the code stores them: one preset after the other, as it is or in five numbers.
--
-- Sections: presets; numbers.
-- Assumes nothing.
use mathlib.Core.Path.{◌≡◌, refl, sym, ◌∙◌}
use mathlib.Core.List.{List, [], ◌∷◌, ◌++◌, map, map-append}
use Prim.Native.Nat.{ℕ, zero, suc, ◌+◌, ◌-◌, ◌*◌, ◌≤◌, ◌<◌, min}
use native.Mathlib.Decide.{ℕ_discrete, dec_le}
use native.Mathlib.Nat.{add-zero, min-eq_left, min-eq_right}
use native.Mathlib.Numerals.{add-one, add-two, add-three, add-four}
use native.Mathlib.Omega.{arith}
use lib.ListN.{length, get_or, set, take, length-set}
use lib.Seq.{sets, take-suc-set}
use Rattle.coxeter.specs.Kinds.{up}
use Rattle.coxeter.proofs.Basics.{up-append}
use Rattle.coxeter.proofs.Lists.{sets_next}
use Rattle.book_format.specs.declared.Edition.{Edition}
use Rattle.std.specs.Prelude.{Result, Err, replicate}
use Rattle.coxeter.specs.declared.Refusal.{Refusal}
use Rattle.coxeter.specs.Refusals.{number}
use Rattle.coxeter.proofs.Groups.{number_positive}
use Rattle.book_format.specs.declared.Preset as code
use Rattle.book_format.specs.answers.Preset.{Preset, as_preset}
use Rattle.book_format.specs.answers.Preset as preset
use Rattle.book_format.specs.Books.{count, book_refusal}
use Rattle.book_format.specs.Calls.{checked_preset, fields_of, preset_fields}
use Rattle.book_format.proofs.BookLaws.{accepted}
use Rattle.book_format.proofs.PresetLaws.{checked_preset-book, checked_preset-number}
use Rattle.book_format.proofs.RunLaws.{length-fields_of}

-- ---- presets

-- of n presets from preset i on the first j stand in l, which has room for all of them
pub record FirstStored (f : ℕ → Preset) (i n j : ℕ) (l : List (Result code.Preset Refusal)) : Type 0 where
  pub bound : j ≤ n
  pub size : n ≡ length l
  pub front : map f (up i j) ≡ map as_preset (take j l)

module _ (f : ℕ → Preset) (i n : ℕ) where
  pub first_stored_none : (l : List (Result code.Preset Refusal)) → n ≡ length l → FirstStored f i n 0 l
  first_stored_none l e = record { bound = omega arith; size = e; front = unfold up in refl }

  pub first_stored_next : {j : ℕ} {l : List (Result code.Preset Refusal)} (p : Result code.Preset Refusal) → FirstStored f i n j l → j < n → as_preset p ≡ f (i + j)
      → FirstStored f i n (j + 1) (set l j p)
  first_stored_next {j} {l} p b h q =
      let s = b.size in
      let last : map f (up (i + j) 1) ≡ as_preset p ∷ [] = rw q (unfold up in refl) in
      let grown : take (suc j) (set l j p) ≡ take j l ++ p ∷ [] = take-suc-set l j p (omega arith) in
      record {
        bound = omega arith;
        size = s ∙ sym (length-set l j p);
        front = rw (up-append i j 1, map-append f (up i j) (up (i + j) 1), last, b.front, add-one j, grown) (sym (map-append as_preset (take j l) (p ∷ [])));
      }

-- of a book that is refused with e each preset is
pub all_refused : (ed : Edition) (b : List ℕ) (i n : ℕ) (e : Refusal) → number e ≡ book_refusal ed b
    → map as_preset (replicate n (Err e)) ≡ map (checked_preset ed b) (up i n)
unfolding up
all_refused ed b i zero e q = refl
all_refused ed b i (suc n) e q = rw (checked_preset-book ed b i (number e) q (number_positive e), all_refused ed b (suc i) n e q) refl

-- no book has the preset 65,535: what reading a number from there on answers is the same for all
pub preset_from : (ed : Edition) (b : List ℕ) (i s j : ℕ) → s ≡ min i 65535 → checked_preset ed b (s + j) ≡ checked_preset ed b (i + j)
preset_from ed b i s j e = elim (dec_le i 65535) [
  | yes h ↦ let q : s ≡ i = e ∙ min-eq_left h in rw q
  | no f ↦ elim (ℕ_discrete (book_refusal ed b) 0) [
    | yes z ↦
        let a = accepted ed b z in
        let q : s ≡ 65535 = e ∙ min-eq_right (omega arith) in
        let past : (m : ℕ) → 65535 ≤ m → checked_preset ed b m ≡ preset.Refused 4 =
        λ m g. checked_preset-number ed b m _ refl (count b) z refl (omega (arith, a.longer, a.most)) in
        past (s + j) (omega arith) ∙ sym (past (i + j) (omega arith))
    | no g ↦ checked_preset-book ed b (s + j) _ refl g ∙ sym (checked_preset-book ed b (i + j) _ refl g)
  ]
]

-- and so is a run from there on
run_past : (ed : Edition) (b : List ℕ) (i s j n : ℕ) → s ≡ min i 65535 → map (checked_preset ed b) (up (s + j) n) ≡ map (checked_preset ed b) (up (i + j) n)
unfolding up
run_past ed b i s j zero e = refl
run_past ed b i s j (suc n) e =
    let x : suc (s + j) ≡ s + suc j = omega arith in
    let y : suc (i + j) ≡ i + suc j = omega arith in
    rw (preset_from ed b i s j e, x, y, run_past ed b i s (suc j) n e) refl

pub run_from : (ed : Edition) (b : List ℕ) (i s n : ℕ) → s ≡ min i 65535 → map (checked_preset ed b) (up s n) ≡ map (checked_preset ed b) (up i n)
run_from ed b i s n e = rw (add-zero s, add-zero i) at (run_past ed b i s 0 n e)

-- ---- numbers

-- five numbers stored one by one
pub sets_five : (l : List ℕ) (p : ℕ) (u : List ℕ) → length u ≡ 5
    → set (set (set (set (set l p (get_or u 0 0)) (p + 1) (get_or u 1 0)) (p + 2) (get_or u 2 0)) (p + 3) (get_or u 3 0)) (p + 4) (get_or u 4 0) ≡ sets l p u
sets_five l p (a ∷ b ∷ c ∷ d ∷ e ∷ []) h = simp (add-one, add-two, add-three, add-four)
sets_five l p [] h = absurd (omega (arith, h))
sets_five l p (a ∷ []) h = absurd (omega (arith, h))
sets_five l p (a ∷ b ∷ []) h = absurd (omega (arith, h))
sets_five l p (a ∷ b ∷ c ∷ []) h = absurd (omega (arith, h))
sets_five l p (a ∷ b ∷ c ∷ d ∷ []) h = absurd (omega (arith, h))
sets_five l p (a ∷ b ∷ c ∷ d ∷ e ∷ f ∷ u) h = absurd (omega (arith, h))

-- n presets from preset i on, of which those from j on are left
module _ (ed : Edition) (out b : List ℕ) (n i : ℕ) where
  pub run_step : (j : ℕ) {p : Preset} {o : List ℕ} → j < n → p ≡ checked_preset ed b (i + j) → o ≡ sets out (5 * j) (fields_of p)
      → sets out (5 * j) (preset_fields ed b (n - j) (i + j)) ≡ sets o (5 * (j + 1)) (preset_fields ed b (n - (j + 1)) (i + (j + 1)))
  unfolding preset_fields
  run_step j {p} h e q =
      let left : n - j ≡ suc (n - (j + 1)) = omega arith in
      let next : i + (j + 1) ≡ suc (i + j) = omega arith in
      let size = length-fields_of p in
      rw (left, next, q, ← e) (sym (sets_next out (5 * j) (5 * (j + 1)) (fields_of p) (preset_fields ed b (n - (j + 1)) (suc (i + j))) (omega arith)))

  pub run_end : (j : ℕ) → n ≤ j → sets out (5 * j) (preset_fields ed b (n - j) (i + j)) ≡ out
  unfolding preset_fields
  run_end j h = let e : n - j ≡ 0 = omega arith in rw e
