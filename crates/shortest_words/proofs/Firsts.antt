-- Which refusal comes: the checks of the three calls on shortest words, each as one list in the order in which the
-- call makes them (I18, I22, I23, CO2 and CO4 of the specification). The answer is made of the number of the first
-- check in the list that fails, or of 0 if none does; what an answer made of a number is comes first.
--
-- Sections: answers; the three calls.
-- Assumes nothing.
use mathlib.Core.Path.{◌≡◌, refl, sym, ap}
use mathlib.Core.Bool.{Bool, true, false, ◌&&◌, true≢false}
use mathlib.Core.Logic.{◌↔◌}
use mathlib.Core.List.{List, [], ◌∷◌}
use Prim.Native.Nat.{ℕ}
use lib.IntN.{ℤ}
use lib.ListN.{length}
use Rattle.coxeter.specs.Kinds.{pick, kind_of, lanes}
use Rattle.coxeter.specs.Windows.{window}
use Rattle.coxeter.specs.Length.{window_length}
use Rattle.coxeter.specs.Checks.{◌then◌, first_of, wrong_kind, wrong_rank, too_long, wrong_letter, wrong_lanes, wrong_entry, odd_negatives, too_short, word_refusal}
use Rattle.coxeter.specs.Calls.{answer_of, writes}
use Rattle.coxeter.proofs.Refusals.{refused_exactly, then_assoc, good_exactly}
use Rattle.coxeter.proofs.TestLaws.{impossible}
use Rattle.coxeter.proofs.FirstFailing.{check_then, rank_then, word_then, window_then}
use Rattle.coxeter.proofs.FirstRefusals.{word_alone}
use Rattle.shortest_words.specs.answers.Fallback as fallback
use Rattle.shortest_words.specs.answers.Split as split
use Rattle.shortest_words.specs.Allowed.{allows, wrong_set, set_refusal}
use Rattle.shortest_words.specs.Fallback.{is_fallback}
use Rattle.shortest_words.specs.Calls.{fallback_of, fallback_answer}
use Rattle.shortest_words.specs.Split.{first_word, second_word}
use Rattle.shortest_words.specs.SplitCalls.{split_of, split_outcome, splitting}
use Rattle.shortest_words.specs.Between.{between}
use Rattle.shortest_words.specs.BetweenCalls.{unreachable, between_refusal, between_windows}

-- ---- answers

-- G17, CO3: an answer on fallbacks names the refusal if that is not 0; else it says no, or how many places are kept
pub fallback_of_exactly : (r : ℕ) (t : Bool) (l : ℕ)
    → ((c : ℕ) → (fallback_of r t l ≡ fallback.Refused c) ↔ ((r ≡ c) × (c ≡ 0 → ⊥)))
    × ((fallback_of r t l ≡ fallback.No) ↔ ((r ≡ 0) × (t ≡ false)))
    × ((m : ℕ) → (fallback_of r t l ≡ fallback.Kept m) ↔ ((r ≡ 0) × (t ≡ true) × (l ≡ m)))
unfolding fallback_of
fallback_of_exactly r true l = (
  λ c. refused_exactly fallback.Refused (fallback.Kept l) r c (λ e. cc) (λ e. cc),
  let e = good_exactly fallback.Refused (fallback.Kept l) r fallback.No (λ e. cc) in
      (λ q. let p = e.0 q in (p.0, cc p.1), λ p. absurd (true≢false p.1)),
  λ m.
      let e = good_exactly fallback.Refused (fallback.Kept l) r (fallback.Kept m) (λ e. cc) in
      (λ q. let p = e.0 q in (p.0, refl, cc p.1), λ p. e.1 (p.0, ap fallback.Kept p.2)),
)
fallback_of_exactly r false l = (
  λ c. refused_exactly fallback.Refused fallback.No r c (λ e. cc) (λ e. cc),
  let e = good_exactly fallback.Refused fallback.No r fallback.No (λ e. cc) in
      (λ q. ((e.0 q).0, refl), λ p. e.1 (p.0, refl)),
  λ m.
      let e = good_exactly fallback.Refused fallback.No r (fallback.Kept m) (λ e. cc) in
      (λ q. impossible (cc (e.0 q).1), λ p. absurd (true≢false (sym p.1))),
)

-- G17, CO3: an answer on splits names the refusal if that is not 0; else it says the two lengths
pub split_of_exactly : (r a b : ℕ)
    → ((c : ℕ) → (split_of r a b ≡ split.Refused c) ↔ ((r ≡ c) × (c ≡ 0 → ⊥)))
    × ((p q : ℕ) → (split_of r a b ≡ split.Words p q) ↔ ((r ≡ 0) × (a ≡ p) × (b ≡ q)))
unfolding split_of
split_of_exactly r a b = (
  λ c. refused_exactly split.Refused (split.Words a b) r c (λ e. cc) (λ e. cc),
  λ p q.
      let e = good_exactly split.Refused (split.Words a b) r (split.Words p q) (λ e. cc) in
      (λ h. let g = e.0 h in (g.0, cc g.1, cc g.1), λ h. e.1 (h.0, rw (h.1, h.2))),
)

-- ---- the three calls

-- C5, C6, C16: a kind, a rank and a set of steps, followed by other checks
pub set_then : (k n set : ℕ) {s t : ℕ} → s ≡ t
    → (set_refusal k n set then s) ≡ pick (wrong_kind k) 5 (pick (wrong_rank (kind_of k) n) 6 (pick (wrong_set n set) 16 t))
unfolding set_refusal
set_then k n set e = rw then_assoc (rank_then k n (check_then 15 (wrong_set n set) e))

-- I18, F1, F8, CO4: the call on fallbacks makes checks 5, 6, 7 and 8 of the present word, then 7 and 8 of the simpler
-- one, and last 14, which refuses only if there is a fallback
pub fallback_first_of : (k n : ℕ) (present simpler places : List ℕ)
    → let falls = is_fallback (kind_of k) n present simpler in let l = window_length (kind_of k) (window (kind_of k) n simpler) in
    fallback_answer k n present simpler places
    ≡ fallback_of
    (first_of
    ((5, wrong_kind k)
    ∷ (6, wrong_rank (kind_of k) n)
    ∷ (7, too_long present)
    ∷ (8, wrong_letter n present)
    ∷ (7, too_long simpler)
    ∷ (8, wrong_letter n simpler)
    ∷ (14, falls && too_short l places)
    ∷ []))
    falls
    l
unfolding fallback_answer
fallback_first_of k n present simpler places =
    let falls = is_fallback (kind_of k) n present simpler in
    let l = window_length (kind_of k) (window (kind_of k) n simpler) in
    ap (λ r. fallback_of r falls l)
    (rank_then k n (word_then n present (word_then n simpler refl)))

-- I33, C16, CO2: before 14 a split makes checks 5, 6, 16, 7 and 8, in this order
pub split_refusal_first_of : (k n set : ℕ) (u : List ℕ)
    → (set_refusal k n set then word_refusal n u)
    ≡ first_of ((5, wrong_kind k) ∷ (6, wrong_rank (kind_of k) n) ∷ (16, wrong_set n set) ∷ (7, too_long u) ∷ (8, wrong_letter n u) ∷ [])
split_refusal_first_of k n set u = set_then k n set (word_alone n u)

-- I22, C16, CO2, CO9: a split makes checks 5, 6, 16, 7 and 8, then 14 of the first output and 14 of the second
pub splitting-first_of : (k n set : ℕ) (u first second : List ℕ)
    → let w = window (kind_of k) n u in
    let a = length (first_word (allows set) (kind_of k) n w) in
    let b = length (second_word (allows set) (kind_of k) n w) in
    (splitting k n set u first second).answer
    ≡ split_of
    (first_of
    ((5, wrong_kind k)
    ∷ (6, wrong_rank (kind_of k) n)
    ∷ (16, wrong_set n set)
    ∷ (7, too_long u)
    ∷ (8, wrong_letter n u)
    ∷ (14, too_short a first)
    ∷ (14, too_short b second)
    ∷ []))
    a
    b
unfolding splitting split_outcome
splitting-first_of k n set u first second =
    let w = window (kind_of k) n u in
    let a = length (first_word (allows set) (kind_of k) n w) in
    let b = length (second_word (allows set) (kind_of k) n w) in
    ap (λ r. split_of r a b)
    (rw then_assoc (set_then k n set (word_then n u (check_then 13 (too_short a first) refl))))

-- I23, A1, C19, CO2, CO4: a way makes checks 5, 6 and 16, then 9, 10 and 11 of the first window, 9, 10 and 11 of the
-- second, 19, and last 14
pub between-first_of : (k n set : ℕ) (v w : List ℤ) (out : List ℕ)
    → let m = lanes (kind_of k) n in let l = length (between (kind_of k) n v w) in
    (between_windows k n set v w out).answer
    ≡ answer_of
    (first_of
    ((5, wrong_kind k)
    ∷ (6, wrong_rank (kind_of k) n)
    ∷ (16, wrong_set n set)
    ∷ (9, wrong_lanes (kind_of k) n v)
    ∷ (10, wrong_entry (kind_of k) m v)
    ∷ (11, odd_negatives (kind_of k) v)
    ∷ (9, wrong_lanes (kind_of k) n w)
    ∷ (10, wrong_entry (kind_of k) m w)
    ∷ (11, odd_negatives (kind_of k) w)
    ∷ (19, unreachable (kind_of k) n set v w)
    ∷ (14, too_short l out)
    ∷ []))
    l
unfolding between_windows between_refusal writes
between-first_of k n set v w out =
    let l = length (between (kind_of k) n v w) in
    ap (λ r. answer_of r l)
    (simp then_assoc (set_then k n set (window_then (kind_of k) n v (window_then (kind_of k) n w (check_then 18 (unreachable (kind_of k) n set v w) refl)))))
