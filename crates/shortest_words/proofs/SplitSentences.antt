-- When the call for a split answers two lengths, and when 14, in plain terms (section S and I22 of the
-- specification): by the words of S2 to S6, whatever words these are. What is written, and 16, are in
-- AllowedSentences.
-- Assumes nothing.
use mathlib.Core.Path.{◌≡◌, sym, ap₂, ◌∙◌}
use mathlib.Core.Bool.{true}
use mathlib.Core.Logic.{◌⊎◌, ◌↔◌}
use mathlib.Core.List.{List}
use Prim.Native.Nat.{ℕ, ◌≤◌, ◌<◌}
use lib.ListN.{length}
use Rattle.coxeter.specs.Kinds.{kind_of}
use Rattle.coxeter.specs.Windows.{window}
use Rattle.coxeter.specs.Checks.{RankOf, WordOf}
use Rattle.coxeter.proofs.Acceptance.{rank_within}
use Rattle.coxeter.proofs.Theorems.{window_passes}
use Rattle.shortest_words.specs.answers.Split.{Split}
use Rattle.shortest_words.specs.answers.Split.{Words, Refused}
use Rattle.shortest_words.specs.Allowed.{allows}
use Rattle.shortest_words.specs.Split.{IsSplit, first_word, second_word}
use Rattle.shortest_words.specs.SplitCalls.{splitting, SplitYields}
use Rattle.shortest_words.proofs.Splits.{splits, splits_only}
use Rattle.shortest_words.proofs.Firsts.{split_of_exactly, splitting-first_of}
use Rattle.shortest_words.proofs.AllowedSentences.{split_exactly, split_14_exactly}

module _ (k n set : ℕ) (u first second : List ℕ) (a : Split) (x y : List ℕ) (h : SplitYields (splitting k n set u first second) a x y) where
  abbrev word₁ : List ℕ
  word₁ = first_word (allows set) (kind_of k) n (window (kind_of k) n u)

  abbrev word₂ : List ℕ
  word₂ = second_word (allows set) (kind_of k) n (window (kind_of k) n u)

  are : RankOf k n → IsSplit (allows set) (kind_of k) n (window (kind_of k) n u) word₁ word₂
  are r = splits (kind_of k) n (window (kind_of k) n u) (rank_within k n r).0 (window_passes (kind_of k) n u) (allows set)

  only : RankOf k n → {v w : List ℕ} → IsSplit (allows set) (kind_of k) n (window (kind_of k) n u) v w → (v ≡ word₁) × (w ≡ word₂)
  only r {v} {w} = splits_only (kind_of k) n (window (kind_of k) n u) (rank_within k n r).0 (window_passes (kind_of k) n u) (allows set) v w

  sizes : (p q : ℕ) → a ≡ Words p q → (length word₁ ≡ p) × (length word₂ ≡ q)
  sizes p q e =
      let s = ((split_of_exactly _ (length word₁) (length word₂)).1 p q).0 (sym (splitting-first_of k n set u first second) ∙ sym h.0 ∙ e) in
      (s.1, s.2)

  -- I22, S2 to S6: two lengths are answered exactly when checks 5 to 8 and 16 accept and there are words of a split
  -- that have these lengths and for which the outputs have room
  pub split_words_exactly : (p q : ℕ) → (a ≡ Words p q)
      ↔ (RankOf k n × ((s : ℕ) → n < s → allows set s ≡ true → ⊥) × WordOf n u
      × ((v w : List ℕ) × IsSplit (allows set) (kind_of k) n (window (kind_of k) n u) v w
      × (p ≡ length v) × (q ≡ length w) × (p ≤ length first) × (q ≤ length second)))
  split_words_exactly p q =
      let e = split_exactly k n set u first second a x y h in (
        λ r.
            let t = e.0 (p, q, r) in
            let s = sizes p q r in
            (t.0, t.1, t.2, (word₁, word₂, are t.0, sym s.0, sym s.1, rw (← s.0) t.3, rw (← s.1) t.4)),
        λ t.
            let o = only t.0 t.3.2 in
            let l : length word₁ ≡ p = rw (← o.0) (sym t.3.3) in
            let m : length word₂ ≡ q = rw (← o.1) (sym t.3.4) in
            let b = e.1 (t.0, t.1, t.2, rw l t.3.5, rw m t.3.6) in
            let s = sizes b.0 b.1 b.2 in
            b.2 ∙ ap₂ Words (sym s.0 ∙ l) (sym s.1 ∙ m),
      )

  -- I22, C14, CO9: 14 is answered exactly when those checks accept and there are words of a split for one of which its
  -- output has no room
  pub split_room_exactly : (a ≡ Refused 14)
      ↔ (RankOf k n × ((s : ℕ) → n < s → allows set s ≡ true → ⊥) × WordOf n u
      × ((v w : List ℕ) × IsSplit (allows set) (kind_of k) n (window (kind_of k) n u) v w
      × ((length first < length v) ⊎ (length second < length w))))
  split_room_exactly =
      let e = split_14_exactly k n set u first second a x y h in (
        λ q. let t = e.0 q in (t.0, t.1, t.2, (word₁, word₂, are t.0, t.3)),
        λ t. let o = only t.0 t.3.2 in e.1 (t.0, t.1, t.2, rw (← o.0, ← o.1) t.3.3),
      )
