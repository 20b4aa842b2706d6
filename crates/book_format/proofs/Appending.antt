-- A book that appending made passes checks 1 to 3, has one preset more, its last preset reads back as the one
-- appended, and those before it read as from the old book. Check 3 walks over the new book as over the old one, and
-- then over one record more.
--
-- Sections: one record of a walk; checks 1 to 3; the presets before; the last preset; the law.
-- Assumes nothing.
use mathlib.Core.Path.{◌≡◌, refl, sym, ap, ◌∙◌}
use mathlib.Core.Bool.{true, false}
use mathlib.Core.List.{List, []}
use Prim.Native.Nat.{ℕ, zero, suc, ◌+◌, ◌*◌, ◌≤◌, ◌<◌}
use native.Mathlib.Nat.{zero-add}
use native.Mathlib.Numerals.{add-one}
use native.Mathlib.Omega.{arith}
use lib.Dec.{eqb}
use lib.ListN.{length}
use borrow.Author.Tests.{eq-eqb, le-ltb, eqb-true, not-false}
use Rattle.coxeter.specs.Kinds.{pick, kind_of, lanes}
use Rattle.coxeter.specs.Checks.{check, ◌then◌, word_refusal}
use Rattle.book_format.specs.declared.Edition.{Edition}
use Rattle.book_format.specs.answers.Preset as preset
use Rattle.book_format.specs.Books.{count, trailer, offset, kind_at, rank_at, lanes_at, letter_count_at}
use Rattle.book_format.specs.Books.{letters_at, end_at, misplaced_from, misplaced, wrong_lane_count, book_rank_refusal, book_refusal}
use Rattle.book_format.specs.Books.{record_refusal, preset_refusal, appended, append_refusal, head_size, added_size}
use Rattle.book_format.specs.Calls.{preset_of, preset_at, checked_preset, letters_of, Grown}
use Rattle.book_format.proofs.BookLaws.{AcceptedBook, accepted, book_size, first, book_refusal-walk, end_at-offset_le}
use Rattle.book_format.proofs.PresetLaws.{preset_refusal_record}
use Rattle.book_format.proofs.WritingLaws.{length-appended, append-book, append_preset, append_size}
use Rattle.book_format.proofs.AppendedParts.{count-appended, trailer-appended, offset-appended, offset-appended_last}
use Rattle.book_format.proofs.AppendedParts.{kind_at-appended, rank_at-appended, lanes_at-appended, letter_count_at-appended}
use Rattle.book_format.proofs.AppendedParts.{letters_at-appended, end_at-appended, kind_at-appended_last, rank_at-appended_last}
use Rattle.book_format.proofs.AppendedParts.{lanes_at-appended_last, letter_count_at-appended_last, letters_at-appended_last, end_at-appended_last}

-- ---- one record of a walk

pub walk-one : (ed : Edition) (m : List ℕ) (j i o e : ℕ) → offset m i ≡ o → end_at ed m o ≡ e → e ≤ trailer m
    → misplaced_from ed m (suc j) i o ≡ misplaced_from ed m j (suc i) e
unfolding misplaced_from
walk-one ed m j i o e p q h = rw (eq-eqb (offset m i) o p, q, le-ltb (trailer m) e h)

pub walk_end : (ed : Edition) (m : List ℕ) (i o : ℕ) → misplaced_from ed m zero i o ≡ false → o ≡ trailer m
unfolding misplaced_from
walk_end ed m i o e = eqb-true o (trailer m) (not-false (eqb o (trailer m)) e)

pub walk_ended : (ed : Edition) (m : List ℕ) (i o : ℕ) → o ≡ trailer m → misplaced_from ed m zero i o ≡ false
unfolding misplaced_from
walk_ended ed m i o e = rw (eq-eqb o (trailer m) e)

-- ---- checks 1 to 3

-- checks 1 to 3 from their tests
pub book_refusal_none : (ed : Edition) (m : List ℕ) → 2 ≤ length m → length m ≤ 65535 → 2 * count m + 2 ≤ length m → misplaced ed m ≡ false
    → book_refusal ed m ≡ 0
unfolding count
book_refusal_none ed m h g f e = book_refusal-walk ed m (count m) (misplaced ed m) h g refl f refl ∙ ap (check 3) e

module _ (ed : Edition) (b : List ℕ) (k n : ℕ) (u : List ℕ) (a : AcceptedBook ed b) (small : book_size b + added_size ed u ≤ 65535) where
  walk-appended : (j i o : ℕ) → i + j ≡ count b → misplaced_from ed b j i o ≡ false → misplaced_from ed (appended ed b k n u) (suc j) i o ≡ false
  walk-appended zero i o s e =
      let z : o ≡ trailer b = walk_end ed b i o e in
      let y : i ≡ count b = omega arith in
      let p = offset-appended_last ed b k n u a small in
      let q = end_at-appended_last ed b k n u a small in
      rw (z, y) (walk-one ed (appended ed b k n u) zero (count b) (trailer b) (trailer (appended ed b k n u)) p q (omega arith)
      ∙ walk_ended ed (appended ed b k n u) _ _ refl)
  walk-appended (suc j) i o s e =
      let f = first ed b j i o e in
      let h = f.ends in
      let t = trailer-appended ed b k n u a small in
      walk-one ed (appended ed b k n u) (suc j) i o (end_at ed b o) (offset-appended ed b k n u a small i (omega arith) ∙ f.begins)
      (end_at-appended ed b k n u a small o (omega arith)) (omega arith)
      ∙ walk-appended j (suc i) (end_at ed b o) (omega arith) f.others

  book_refusal-appended : book_refusal ed (appended ed b k n u) ≡ 0
  unfolding misplaced
  book_refusal-appended =
      let l = length-appended ed b k n u a in
      let d = a.sized in
      let c = count-appended ed b k n u a small in
      book_refusal_none ed (appended ed b k n u) (omega arith) (omega arith) (omega arith)
      (rw (c, add-one (count b)) (walk-appended (count b) 0 0 (zero-add (count b)) a.placed))

-- ---- the presets before

record_refusal_same : (ed : Edition) (l m : List ℕ) (o : ℕ) → kind_at l o ≡ kind_at m o → rank_at l o ≡ rank_at m o → lanes_at ed l o ≡ lanes_at ed m o
    → letters_at ed l o ≡ letters_at ed m o → record_refusal ed l o ≡ record_refusal ed m o
unfolding record_refusal wrong_lane_count
record_refusal_same ed l m o p q s r = rw (s, p, q, r)

-- a preset and its letters, by what its record holds
pub checked_preset_of : (ed : Edition) (m : List ℕ) (i : ℕ) {o k n l r : ℕ} → preset_refusal ed m i ≡ r → offset m i ≡ o → kind_at m o ≡ k → rank_at m o ≡ n
    → letter_count_at ed m o ≡ l
    → checked_preset ed m i ≡ preset_of r k n (o + head_size ed) l
unfolding checked_preset preset_at
checked_preset_of ed m i e f p q g = rw (e, f, p, q, g)

-- two books whose preset i has one refusal, one offset and one record
checked_preset_same : (ed : Edition) (l m : List ℕ) (i : ℕ) {o : ℕ} → preset_refusal ed l i ≡ preset_refusal ed m i → offset l i ≡ o → offset m i ≡ o
    → kind_at l o ≡ kind_at m o → rank_at l o ≡ rank_at m o → letter_count_at ed l o ≡ letter_count_at ed m o → checked_preset ed l i ≡ checked_preset ed m i
unfolding checked_preset preset_at
checked_preset_same ed l m i e f g p q r = rw (e, f, g, p, q, r)

pub letters_of_of : (ed : Edition) (m : List ℕ) (i o r : ℕ) (u : List ℕ) → preset_refusal ed m i ≡ r → offset m i ≡ o → letters_at ed m o ≡ u
    → letters_of ed m i ≡ pick (eqb r 0) u []
unfolding letters_of
letters_of_of ed m i o r u e f p = rw (e, f, p)

module _ (ed : Edition) (b : List ℕ) (k n : ℕ) (u : List ℕ) (z : book_refusal ed b ≡ 0) (small : book_size b + added_size ed u ≤ 65535) (i : ℕ)
    (h : i < count b) where
  preset_refusal-appended : preset_refusal ed (appended ed b k n u) i ≡ preset_refusal ed b i
  preset_refusal-appended =
      let a = accepted ed b z in
      let e = end_at-offset_le ed b i a h in
      let o = offset b i in
      let c = count-appended ed b k n u a small in
      preset_refusal_record ed (appended ed b k n u) i (book_refusal-appended ed b k n u a small) (omega arith)
      ∙ ap (record_refusal ed (appended ed b k n u)) (offset-appended ed b k n u a small i h)
      ∙ record_refusal_same ed (appended ed b k n u) b o (kind_at-appended ed b k n u a small o (omega arith))
      (rank_at-appended ed b k n u a small o (omega arith))
      (lanes_at-appended ed b k n u a small o (omega arith)) (letters_at-appended ed b k n u a small o e)
      ∙ sym (preset_refusal_record ed b i z h)

  checked_preset-appended : checked_preset ed (appended ed b k n u) i ≡ checked_preset ed b i
  checked_preset-appended =
      let a = accepted ed b z in
      let e = end_at-offset_le ed b i a h in
      let o = offset b i in
      checked_preset_of ed (appended ed b k n u) i preset_refusal-appended (offset-appended ed b k n u a small i h)
      (kind_at-appended ed b k n u a small o (omega arith)) (rank_at-appended ed b k n u a small o (omega arith))
      (letter_count_at-appended ed b k n u a small o (omega arith))
      ∙ sym (checked_preset_of ed b i refl refl refl refl refl)

  letters_of-appended : letters_of ed (appended ed b k n u) i ≡ letters_of ed b i
  letters_of-appended =
      let a = accepted ed b z in
      let o = offset b i in
      letters_of_of ed (appended ed b k n u) i o _ _ preset_refusal-appended (offset-appended ed b k n u a small i h)
      (letters_at-appended ed b k n u a small o (end_at-offset_le ed b i a h))
      ∙ sym (letters_of_of ed b i o _ _ refl refl refl)

-- ---- the last preset

pub record_refusal_of : (ed : Edition) (m : List ℕ) (o : ℕ) {k n : ℕ} {u : List ℕ} → kind_at m o ≡ k → rank_at m o ≡ n → lanes_at ed m o ≡ lanes (kind_of k) n
    → letters_at ed m o ≡ u
    → record_refusal ed m o ≡ (book_rank_refusal ed k n then word_refusal n u)
unfolding record_refusal wrong_lane_count
record_refusal_of ed m o {k} {n} p q s r = rw (s, p, q, r, eq-eqb (lanes (kind_of k) n) (lanes (kind_of k) n) refl)

module _ (ed : Edition) (b : List ℕ) (k n : ℕ) (u : List ℕ) (a : AcceptedBook ed b) (small : book_size b + added_size ed u ≤ 65535) where
  preset_refusal-appended_last : preset_refusal ed (appended ed b k n u) (count b) ≡ (book_rank_refusal ed k n then word_refusal n u)
  preset_refusal-appended_last =
      let c = count-appended ed b k n u a small in
      preset_refusal_record ed (appended ed b k n u) (count b) (book_refusal-appended ed b k n u a small) (omega arith)
      ∙ ap (record_refusal ed (appended ed b k n u)) (offset-appended_last ed b k n u a small)
      ∙ record_refusal_of ed (appended ed b k n u) (trailer b) (kind_at-appended_last ed b k n u a small) (rank_at-appended_last ed b k n u a small)
      (lanes_at-appended_last ed b k n u a small) (letters_at-appended_last ed b k n u a small)

  checked_preset-appended_last : checked_preset ed (appended ed b k n u) (count b)
      ≡ preset_of (book_rank_refusal ed k n then word_refusal n u) k n (trailer b + head_size ed) (length u)
  checked_preset-appended_last =
      checked_preset_of ed (appended ed b k n u) (count b)
      preset_refusal-appended_last (offset-appended_last ed b k n u a small)
      (kind_at-appended_last ed b k n u a small) (rank_at-appended_last ed b k n u a small) (letter_count_at-appended_last ed b k n u a small)

  letters_of-appended_last : letters_of ed (appended ed b k n u) (count b) ≡ pick (eqb (book_rank_refusal ed k n then word_refusal n u) 0) u []
  letters_of-appended_last =
      letters_of_of ed (appended ed b k n u) (count b) (trailer b) (book_rank_refusal ed k n then word_refusal n u) u preset_refusal-appended_last
      (offset-appended_last ed b k n u a small)
      (letters_at-appended_last ed b k n u a small)

-- ---- the law

appended_grown : (ed : Edition) (b : List ℕ) (k n : ℕ) (u : List ℕ) → book_refusal ed b ≡ 0 → length (appended ed b k n u) ≤ 65535
    → Grown ed b k n u (appended ed b k n u)
appended_grown ed b k n u z h =
    let a = accepted ed b z in
    let l = length-appended ed b k n u a in
    let small : book_size b + added_size ed u ≤ 65535 = omega arith in
    record {
      unrefused = book_refusal-appended ed b k n u a small;
      one_preset_more = count-appended ed b k n u a small;
      last_preset = checked_preset-appended_last ed b k n u a small;
      last_letters = letters_of-appended_last ed b k n u a small;
      presets_before = λ i g. checked_preset-appended ed b k n u z small i g;
      letters_before = λ i g. letters_of-appended ed b k n u z small i g;
    }

-- every book that the call `append` writes
pub append_grown : (ed : Edition) (b : List ℕ) (k n : ℕ) (u : List ℕ) → append_refusal ed b k n u ≡ 0 → Grown ed b k n u (appended ed b k n u)
append_grown ed b k n u e = appended_grown ed b k n u (append-book ed b k n u e) (append_size ed b k n u e)

-- and its last preset, which is not refused
pub append_reads_back : (ed : Edition) (b : List ℕ) (k n : ℕ) (u : List ℕ) → append_refusal ed b k n u ≡ 0
    → (checked_preset ed (appended ed b k n u) (count b) ≡ preset.Found k n (trailer b + head_size ed) (length u))
    × (letters_of ed (appended ed b k n u) (count b) ≡ u)
unfolding preset_of
append_reads_back ed b k n u e =
    let g = append_grown ed b k n u e in
    let z : eqb (book_rank_refusal ed k n then word_refusal n u) 0 ≡ true = eq-eqb (book_rank_refusal ed k n then word_refusal n u) 0 (append_preset ed b k n u e) in
    (g.last_preset ∙ rw z, g.last_letters ∙ rw z)
