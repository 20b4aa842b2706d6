-- The line of a preset, from what reading it answers: the line is put from the normal form and the window.
--
-- Sections: normal form and window; presets.
-- Assumes nothing.
use mathlib.Core.Path.{◌≡◌, refl, sym}
use mathlib.Core.List.{List}
use Prim.Native.Nat.{ℕ, ◌+◌, ◌-◌, ◌≤◌}
use native.Mathlib.Omega.{arith}
use lib.IntN.{ℤ}
use lib.ListN.{length, take, drop}
use Rattle.coxeter.specs.declared.Kind.{Kind}
use Rattle.coxeter.specs.Windows.{window}
use Rattle.coxeter.specs.NormalForm.{word_normal_form}
use Rattle.coxeter.specs.Calls.{Yields, writes, front}
use Rattle.coxeter.specs.answers.Answer.{Refused}
use Rattle.coxeter.proofs.Lists.{Stored}
use Rattle.coxeter.proofs.Fronts.{length-window_le, length_form_le}
use Rattle.coxeter.proofs.Outcomes.{writes-written}
use Rattle.coxeter.proofs.Writes.{length_or_refused}
use Rattle.coxeter.proofs.Groups.{InRange, by_number, kind_of_number}
use Rattle.std.specs.Prelude.{Result, Ok, Err}
use Rattle.coxeter.specs.declared.Refusal.{Refusal}
use Rattle.coxeter.specs.Refusals.{number}
use Rattle.book_format.specs.declared.Preset as code
use Rattle.book_format.specs.answers.Preset.{as_preset}
use Rattle.listing_text.specs.Text.{preset_line, refused_line, word_line, line_by}

-- ---- normal form and window

-- a word u of a group
module _ (k : Kind) (n : ℕ) (g : InRange k n) (u : List ℕ) where
  pub form_le : length (word_normal_form k n u) ≤ 4096
  form_le = by_number (λ k n. length (word_normal_form k n u) ≤ 4096) (λ j n h. length_form_le j n u h) k n g

  pub window_le : length (window k n u) ≤ 64
  window_le = by_number (λ k n. length (window k n u) ≤ 64) (λ j n h. length-window_le j n u h) k n g

-- a call that is to write l, and has room, is not refused
pub never_refused : {X : Type 0} (l out v : List X) (r : ℕ) → length l ≤ length out → Yields (writes 0 l out) (Refused r) v → ⊥
never_refused l out v r h y =
    let done = writes-written (writes 0 l out) 0 0 l out refl refl (length l) (front l out) refl refl h refl in
    length_or_refused (sym done.0) (sym y.0)

pub word_line_room : (i : ℕ) (k : Kind) (n : ℕ) (u : List ℕ) {f : List ℕ} {w : List ℤ} (m : ℕ) → f ≡ word_normal_form k n u → w ≡ window k n u
    → length (word_line i k n u) ≤ m → length (preset_line i k n f w) ≤ m
unfolding word_line
word_line_room i k n u m p q h = rw (p, q) h

pub word_line-put : (o : List ℕ) (at i : ℕ) (k : Kind) (n : ℕ) (u : List ℕ) {f : List ℕ} {w : List ℤ} {out : List ℕ} {r : ℕ} → f ≡ word_normal_form k n u
    → w ≡ window k n u
    → Stored o at (preset_line i k n f w) out r → Stored o at (word_line i k n u) out r
unfolding word_line
word_line-put o at i k n u p q h = rw (← p, ← q) h

-- ---- presets

-- a is what reading the preset returned
module _ (b : List ℕ) (i : ℕ) {a : Result code.Preset Refusal} where
  pub line_by-found : (p : code.Preset) → a ≡ Ok p
      → word_line i p.group.kind p.group.rank (take (p.start + p.length - p.start) (drop p.start b)) ≡ line_by b i (as_preset a)
  unfolding line_by
  line_by-found p e = let d : p.start + p.length - p.start ≡ p.length = omega arith in rw (e, kind_of_number p.group.kind, d)

  pub line_by-refused : (r : Refusal) → a ≡ Err r → refused_line i (number r) ≡ line_by b i (as_preset a)
  unfolding line_by
  line_by-refused r e = rw e
