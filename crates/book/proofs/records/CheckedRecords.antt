-- The checks of a record as the code makes them: what is answered after each.
-- Assumes nothing.
use mathlib.Core.Path.{◌≡◌, refl, sym, ◌∙◌}
use mathlib.Core.Bool.{Bool, true, false}
use mathlib.Core.List.{List}
use Prim.Native.Nat.{ℕ, ◌+◌, ◌-◌}
use native.Mathlib.Omega.{arith}
use lib.ListN.{take, drop}
use Rattle.coxeter.specs.Checks.{◌then◌, rank_refusal, word_refusal}
use Rattle.coxeter.proofs.Refusals.{then_none}
use Rattle.book_format.specs.declared.Edition.{Edition}
use Rattle.book_format.specs.answers.Preset as preset
use Rattle.book_format.specs.Books.{head_size, kind_at, rank_at, letter_count_at, letters_at, book_rank_refusal, wrong_lane_count}
use Rattle.book_format.specs.Calls.{checked_record}
use Rattle.book_format.proofs.RankLaws.{book_rank_accepted}
use Rattle.book_format.proofs.PresetLaws.{checked_record_rank, checked_record-lanes, checked_record_word, checked_record-found}

-- the record at byte o, of kind k and rank n: r is the refusal of these by a book's ranges
module _ (ed : Edition) (b : List ℕ) (o : ℕ) {k n r : ℕ} (e : k ≡ kind_at b o) (f : n ≡ rank_at b o) (q : r ≡ book_rank_refusal ed k n) where
  ranked : r ≡ book_rank_refusal ed (kind_at b o) (rank_at b o)
  ranked = rw (← e, ← f) q

  pub rank_refused : (r ≡ 0 → ⊥) → preset.Refused r ≡ checked_record ed b o
  rank_refused g = sym (checked_record_rank ed b o ranked g)

  -- t says whether its lane count is wrong
  module _ (z : r ≡ 0) {t : Bool} (w : t ≡ wrong_lane_count ed b o) where
    pub lanes_refused : t ≡ true → preset.Refused 17 ≡ checked_record ed b o
    lanes_refused y = sym (checked_record-lanes ed b o ranked z w y)

    -- u are its letters, s is their refusal
    module _ (y : t ≡ false) {s : ℕ} {u : List ℕ} (h : u ≡ letters_at ed b o) (v : s ≡ word_refusal n u) where
      -- a rank of a record is one of the calls
      with_rank : s ≡ (rank_refusal k n then word_refusal n u)
      with_rank = v ∙ sym (then_none (rank_refusal k n) (word_refusal n u) (book_rank_accepted ed k n (sym q ∙ z)))

      -- the letters as a part of the book
      as_part : s ≡ (rank_refusal (kind_at b o) (rank_at b o)
          then word_refusal (rank_at b o) (take (o + head_size ed + letter_count_at ed b o - (o + head_size ed)) (drop (o + head_size ed) b)))
      as_part = let d : o + head_size ed + letter_count_at ed b o - (o + head_size ed) ≡ letter_count_at ed b o = omega arith in rw (d, ← h, ← e, ← f) with_rank

      pub word_refused : (s ≡ 0 → ⊥) → preset.Refused s ≡ checked_record ed b o
      word_refused g = sym (checked_record_word ed b o ranked z w y refl refl refl as_part g)

      pub record_found : s ≡ 0 → preset.Found k n (o + head_size ed) (letter_count_at ed b o) ≡ checked_record ed b o
      record_found g = rw (e, f) (sym (checked_record-found ed b o ranked z w y refl refl refl as_part g))
