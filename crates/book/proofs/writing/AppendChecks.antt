-- The checks of appending as the code makes them: what is refused after each.
-- Assumes nothing.
use mathlib.Core.Path.{◌≡◌, sym, ap, ◌∙◌}
use mathlib.Core.Bool.{Bool, true, false}
use mathlib.Core.List.{List}
use Prim.Native.Nat.{ℕ, ◌+◌, ◌≤◌, ◌<◌}
use Rattle.coxeter.specs.declared.Kind.{Kind}
use Rattle.coxeter.specs.Kinds.{kind_of, kind_number}
use Rattle.coxeter.specs.Checks.{◌then◌, rank_refusal, word_refusal}
use Rattle.book_format.specs.declared.Edition.{Edition}
use Rattle.book_format.specs.Books.{added_size, append_refusal, book_rank_refusal, book_refusal, retired}
use Rattle.book_format.proofs.BookLaws.{book_size}
use Rattle.book_format.proofs.RankLaws.{book_rank_accepted}
use Rattle.book_format.proofs.WritingLaws.{append_refusal-book, append_refusal_rank, append_refusal_word, append_refusal-retired}
use Rattle.book_format.proofs.WritingLaws.{Appendable, append_refusal_large, append_refusal_none, preset_word}
use Rattle.book.proofs.records.KindNumbers.{number_kind_of}

-- the code has a kind that a book takes as j
pub kind_back : (ed : Edition) (k n : ℕ) → 0 ≡ book_rank_refusal ed k n → {j : Kind} → j ≡ kind_of k → kind_number j ≡ k
kind_back ed k n q e = ap kind_number e ∙ number_kind_of k n (book_rank_accepted ed k n (sym q))

module _ (ed : Edition) (b : List ℕ) (k n : ℕ) (u : List ℕ) where
  pub book_first : {r : ℕ} → r ≡ book_refusal ed b → (r ≡ 0 → ⊥) → r ≡ append_refusal ed b k n u
  book_first e f = e ∙ sym (append_refusal-book ed b k n u (λ z. f (e ∙ z)))

  -- the book passed
  module _ (o : 0 ≡ book_refusal ed b) where
    pub rank_second : {r : ℕ} → r ≡ book_rank_refusal ed k n → (r ≡ 0 → ⊥) → r ≡ append_refusal ed b k n u
    rank_second e f = e ∙ sym (append_refusal_rank ed b k n u (sym o) (λ z. f (e ∙ z)))

    -- and the kind and the rank
    module _ (q : 0 ≡ book_rank_refusal ed k n) where
      pub word_third : {r : ℕ} → r ≡ (rank_refusal k n then word_refusal n u) → (r ≡ 0 → ⊥) → r ≡ append_refusal ed b k n u
      word_third e f =
          let d = e ∙ preset_word ed k n u (sym q) in
          d ∙ sym (append_refusal_word ed b k n u (sym o) (sym q) (λ z. f (d ∙ z)))

      -- and the word; t says whether kind and rank are retired
      module _ (w : 0 ≡ (rank_refusal k n then word_refusal n u)) {j : Kind} {m : ℕ} (e : (j ≡ kind_of k) × (m ≡ n)) {t : Bool}
          (v : t ≡ retired (kind_number j) m) where
        accepted_word : word_refusal n u ≡ 0
        accepted_word = sym (w ∙ preset_word ed k n u (sym q))

        as_retired : retired k n ≡ t
        as_retired = sym (rw (kind_back ed k n q e.0, e.1) at v)

        pub retired_fourth : t ≡ true → 21 ≡ append_refusal ed b k n u
        retired_fourth y = sym (append_refusal-retired ed b k n u (sym o) (sym q) accepted_word (as_retired ∙ y))

        module _ (y : t ≡ false) {s : ℕ} (l : s ≡ book_size b + added_size ed u) where
          passed : Appendable ed b k n u
          passed = record { opens = sym o; ranked = sym q; word = accepted_word; kept = as_retired ∙ y }

          pub size_last : 65535 < s → 13 ≡ append_refusal ed b k n u
          size_last h = sym (append_refusal_large passed (rw l at h))

          pub none_refused : s ≤ 65535 → 0 ≡ append_refusal ed b k n u
          none_refused h = sym (append_refusal_none passed (rw l at h))
