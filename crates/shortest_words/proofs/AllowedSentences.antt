-- Splits over allowed steps in plain terms (section S and I22 of the specification), at the answer and the bytes that
-- the call left. The records of specs/ are taken apart: each field is read out as strongly as it is stated, and a
-- record that is a hypothesis is put together from its plain parts.
--
-- Sections: a bit above the rank; a split, the two words; a split, refusals.
-- Assumes nothing.
use mathlib.Core.Path.{◌≡◌, refl, sym, ap, ◌∙◌}
use mathlib.Core.Bool.{Bool, true, false, true≢false}
use mathlib.Core.Logic.{◌⊎◌, inl, inr, ⊎_elim, ◌↔◌}
use mathlib.Core.List.{List, [], ◌∷◌}
use Prim.Native.Nat.{ℕ, suc, ◌+◌, ◌≤◌, ◌<◌}
use native.Mathlib.Nat.{min-le_left}
use native.Mathlib.Omega.{arith}
use borrow.Author.Tests.{ne_eqb, ltb-true, ltb-false, lt-ltb, le-ltb}
use lib.ListN.{length, take, drop, length-take}
use Rattle.coxeter.specs.Kinds.{kind_of}
use Rattle.coxeter.specs.Windows.{window, product}
use Rattle.coxeter.specs.Length.{window_length}
use Rattle.coxeter.specs.Checks.{check, ◌then◌, too_short, wrong_letter, rank_refusal, word_refusal, RankOf, WordOf}
use Rattle.coxeter.specs.NormalForm.{IsNormalForm}
use Rattle.coxeter.proofs.Refusals.{then_zero, then_none, then_some, then_assoc, check_zero, rank_refusal_le, word_refusal_le}
use Rattle.coxeter.proofs.Refusals.{then_exactly, then_avoids, check_avoids, check-number, check_exactly}
use Rattle.coxeter.proofs.Acceptance.{rank_within}
use Rattle.coxeter.proofs.Theorems.{window_passes}
use Rattle.shortest_words.specs.answers.Split.{Split}
use Rattle.shortest_words.specs.answers.Split.{Words, Refused}
use Rattle.shortest_words.specs.Allowed.{Over, allows, wrong_set, set_refusal}
use Rattle.shortest_words.specs.Split.{IsSplit, first_word, second_word}
use Rattle.shortest_words.specs.SplitCalls.{split_of, split_outcome, splitting, SplitYields}
use Rattle.shortest_words.proofs.AllowedSets.{wrong_set_exactly}
use Rattle.shortest_words.proofs.Splits.{splitting_accepted, splitting_splits, splitting_only, splitting_lengths}
use Rattle.shortest_words.proofs.Splits.{splitting-past, splitting-unchanged, splits_none, splits_only}
use Rattle.shortest_words.proofs.Firsts.{split_of_exactly}

-- ---- a bit above the rank

-- I33, C16: a set passes checks 5, 6 and 16 exactly when the rank passes its own and no bit stands for a step above it
pub set_passes : (k n set : ℕ) → (set_refusal k n set ≡ 0) ↔ (RankOf k n × ((s : ℕ) → n < s → allows set s ≡ true → ⊥))
unfolding set_refusal
set_passes k n set = (
  λ e.
      let p = then_zero (rank_refusal k n) (check 16 (wrong_set n set)) e in
      (p.0, λ s l q. let f = (check-number 15 (wrong_set n set)).1 ((wrong_set_exactly n set).1 (s, l, q)) in omega (arith, f, p.1)),
  λ h. then_none (rank_refusal k n) _ h.0 ∙ none (wrong_set n set) refl h.1,
)
  where
    none : (t : Bool) → wrong_set n set ≡ t → ((s : ℕ) → n < s → allows set s ≡ true → ⊥) → check 16 t ≡ 0
    none true e f = let b = (wrong_set_exactly n set).0 e in absurd (f b.0 b.1 b.2)
    none false e f = refl

-- no other number than 5, 6 and 16
set_avoids : (k n set c : ℕ) → 6 ≤ c → (16 ≡ suc c → ⊥) → set_refusal k n set ≡ suc c → ⊥
unfolding set_refusal
set_avoids k n set c l f =
    then_avoids (rank_refusal k n) (check 16 (wrong_set n set)) c (λ e. omega (arith, rank_refusal_le k n)) (check_avoids 16 c (wrong_set n set) f)

-- C16: in front of the checks q, none of which has its number
pub set_refuses : (k n set q : ℕ) → (q ≡ 16 → ⊥)
    → ((set_refusal k n set then q) ≡ 16) ↔ (RankOf k n × ((s : ℕ) × (n < s) × (allows set s ≡ true)))
unfolding set_refusal
set_refuses k n set q f =
    let e = check_exactly (rank_refusal k n) 15 (wrong_set n set) q (λ z. omega (arith, rank_refusal_le k n)) f in
    let r = then_assoc (rank_refusal k n) (check 16 (wrong_set n set)) q in (
      λ h. let p = e.0 (sym r ∙ h) in (p.0, (wrong_set_exactly n set).0 p.1),
      λ h. r ∙ e.1 (h.0, (wrong_set_exactly n set).1 h.1),
    )

-- ---- a split, the two words

take_le : (j : ℕ) (l : List ℕ) → length (take j l) ≤ j
take_le j l = rw (length-take j l) (min-le_left j (length l))

module _ (k n set : ℕ) (u first second : List ℕ) (a b : ℕ) (x y : List ℕ) (h : SplitYields (splitting k n set u first second) (Words a b) x y) where
  split : IsSplit (allows set) (kind_of k) n (window (kind_of k) n u) (take a x) (take b y)
  split = rw (h.1, h.2) (splitting_splits k n set u first second a b (sym h.0))

  -- S2
  pub first_over : Over (allows set) (take a x)
  first_over = split.over

  -- S3: of all words, of any length
  pub second_none_begins : (s : ℕ) (v : List ℕ) → allows set s ≡ true → wrong_letter n (s ∷ v) ≡ false
      → ((z : List ℕ) → wrong_letter n z ≡ false → window (kind_of k) n z ≡ window (kind_of k) n (s ∷ v) → length (s ∷ v) ≤ length z)
      → window (kind_of k) n (s ∷ v) ≡ window (kind_of k) n (take b y) → ⊥
  second_none_begins s v q letters shortest = split.none_begins s v q (record { steps = letters; none_shorter = shortest })

  -- S4
  pub both_normal : IsNormalForm (kind_of k) n (window (kind_of k) n (take a x)) (take a x)
      × IsNormalForm (kind_of k) n (window (kind_of k) n (take b y)) (take b y)
  both_normal = (split.first_normal, split.second_normal)

  -- S5
  pub windows_join : product (window (kind_of k) n (take a x)) (window (kind_of k) n (take b y)) ≡ window (kind_of k) n u
  windows_join = split.joins

  -- S6: those of the words written and the numbers answered
  pub lengths_add_up : (length (take a x) + length (take b y) ≡ window_length (kind_of k) (window (kind_of k) n u))
      × (a + b ≡ window_length (kind_of k) (window (kind_of k) n u))
  lengths_add_up = (split.lengths, splitting_lengths k n set u first second a b (sym h.0))

  -- S7
  pub just_one_pair : (v w : List ℕ) → Over (allows set) v
      → ((s : ℕ) (z : List ℕ) → allows set s ≡ true → wrong_letter n (s ∷ z) ≡ false
      → ((t : List ℕ) → wrong_letter n t ≡ false → window (kind_of k) n t ≡ window (kind_of k) n (s ∷ z) → length (s ∷ z) ≤ length t)
      → window (kind_of k) n (s ∷ z) ≡ window (kind_of k) n w → ⊥)
      → IsNormalForm (kind_of k) n (window (kind_of k) n v) v → IsNormalForm (kind_of k) n (window (kind_of k) n w) w
      → product (window (kind_of k) n v) (window (kind_of k) n w) ≡ window (kind_of k) n u
      → length v + length w ≡ window_length (kind_of k) (window (kind_of k) n u)
      → (v ≡ take a x) × (w ≡ take b y)
  just_one_pair v w over begins p q joins lengths =
      rw (h.1, h.2) (splitting_only k n set u first second a b (sym h.0) v w (record {
        over = over;
        none_begins = λ s z t m. begins s z t m.steps m.none_shorter;
        first_normal = p;
        second_normal = q;
        joins = joins;
        lengths = lengths;
      }))

  -- I22: each word written is as long as the answer says
  pub words_long : (length (take a x) ≡ a) × (length (take b y) ≡ b)
  words_long =
      let q = lengths_add_up in
      (omega (arith, q.0, q.1, take_le a x, take_le b y), omega (arith, q.0, q.1, take_le a x, take_le b y))

  -- CO7, I2: what lies behind it keeps what it held
  pub split_past : (drop a x ≡ drop a first) × (drop b y ≡ drop b second)
  split_past = rw (h.1, h.2) (splitting-past k n set u first second a b (sym h.0))

-- S8
pub first_empty : (k n : ℕ) (u first second : List ℕ) {a : ℕ} (b : ℕ) (x y : List ℕ) → SplitYields (splitting k n 0 u first second) (Words a b) x y
    → (a ≡ 0) × (take a x ≡ [])
first_empty k n u first second {a} b x y h =
    let r = (rank_within k n (splitting_accepted k n 0 u first second a b (sym h.0))).0 in
    let p = window_passes (kind_of k) n u in
    let s = split k n 0 u first second a b x y h in
    let only = splits_only (kind_of k) n (window (kind_of k) n u) r p (allows 0) (take a x) (take b y) s in
    let e = only.0 ∙ splits_none (kind_of k) n (window (kind_of k) n u) r p in
    (sym (words_long k n 0 u first second a b x y h).0 ∙ ap (λ (z : List ℕ). length z) e, e)

-- ---- a split, refusals

room_exactly : (s t : Bool) → ((check 14 s then check 14 t) ≡ 14) ↔ ((s ≡ true) ⊎ (t ≡ true))
room_exactly true t = (λ e. inl refl, λ e. refl)
room_exactly false true = (λ e. inr refl, λ e. refl)
room_exactly false false = (λ e. absurd (omega arith), λ e. ⊎_elim (λ p. absurd (true≢false (sym p))) (λ p. absurd (true≢false (sym p))) e)

room_avoids : (s t : Bool) → (check 14 s then check 14 t) ≡ 16 → ⊥
room_avoids s t = then_avoids (check 14 s) (check 14 t) 15 (check_avoids 14 15 s (λ z. omega arith)) (check_avoids 14 15 t (λ z. omega arith))

module _ (k n set : ℕ) (u first second : List ℕ) (a : Split) (x y : List ℕ) (h : SplitYields (splitting k n set u first second) a x y) where
  abbrev first_short : Bool
  first_short = too_short (length (first_word (allows set) (kind_of k) n (window (kind_of k) n u))) first

  abbrev second_short : Bool
  second_short = too_short (length (second_word (allows set) (kind_of k) n (window (kind_of k) n u))) second

  abbrev room : ℕ
  room = check 14 first_short then check 14 second_short

  checks_14 : (set_refusal k n set then word_refusal n u) ≡ 14 → ⊥
  checks_14 =
      then_avoids (set_refusal k n set) (word_refusal n u) 13 (set_avoids k n set 13 (omega arith) (λ z. omega arith))
      (λ z. omega (arith, word_refusal_le n u))

  refused_exactly : (c : ℕ) → (a ≡ Refused (suc c)) ↔ (((set_refusal k n set then word_refusal n u) then room) ≡ suc c)
  unfolding splitting split_outcome
  refused_exactly c =
      let e = (split_of_exactly ((set_refusal k n set then word_refusal n u) then room) _ _).0 (suc c) in
      (λ q. (e.0 (sym h.0 ∙ q)).0, λ q. h.0 ∙ e.1 (q, λ z. omega arith))

  -- C16: right after the rank
  pub split_16_exactly : (a ≡ Refused 16) ↔ (RankOf k n × ((s : ℕ) × (n < s) × (allows set s ≡ true)))
  split_16_exactly =
      let e = refused_exactly 15 in
      let r = then_assoc (set_refusal k n set) (word_refusal n u) room in
      let s = set_refuses k n set (word_refusal n u then room)
      (then_avoids (word_refusal n u) room 15 (λ z. omega (arith, word_refusal_le n u)) (room_avoids first_short second_short)) in
      (λ q. s.0 (sym r ∙ e.0 q), λ q. e.1 (r ∙ s.1 q))

  -- C14, CO9: 14 exactly when checks 5 to 8 and 16 accept and one of the outputs is too short for its word
  pub split_14_exactly : (a ≡ Refused 14)
      ↔ (RankOf k n × ((s : ℕ) → n < s → allows set s ≡ true → ⊥) × WordOf n u
      × ((length first < length (first_word (allows set) (kind_of k) n (window (kind_of k) n u)))
      ⊎ (length second < length (second_word (allows set) (kind_of k) n (window (kind_of k) n u)))))
  unfolding too_short
  split_14_exactly =
      let e = refused_exactly 13 in
      let t = then_exactly (set_refusal k n set then word_refusal n u) room 13 in
      let o = room_exactly first_short second_short in (
        λ q.
            let p = ⊎_elim (λ z. absurd (checks_14 z)) (λ z. z) (t.0 (e.0 q)) in
            let z = then_zero (set_refusal k n set) (word_refusal n u) p.0 in
            let s = (set_passes k n set).0 z.0 in
            (s.0, s.1, z.1, ⊎_elim (λ c. inl (ltb-true (length first) _ c)) (λ c. inr (ltb-true (length second) _ c)) (o.0 p.1)),
        λ p.
            e.1 (t.1 (inr (
              then_none (set_refusal k n set) _ ((set_passes k n set).1 (p.0, p.1)) ∙ p.2,
              o.1 (⊎_elim (λ c. inl (lt-ltb (length first) _ c)) (λ c. inr (lt-ltb (length second) _ c)) p.3),
            ))),
      )

  -- I22: words are answered exactly when checks 5 to 8 and 16 accept and both outputs have room
  pub split_exactly : ((p q : ℕ) × (a ≡ Words p q))
      ↔ (RankOf k n × ((s : ℕ) → n < s → allows set s ≡ true → ⊥) × WordOf n u
      × (length (first_word (allows set) (kind_of k) n (window (kind_of k) n u)) ≤ length first)
      × (length (second_word (allows set) (kind_of k) n (window (kind_of k) n u)) ≤ length second))
  unfolding splitting split_outcome too_short
  split_exactly =
      let q = set_refusal k n set then word_refusal n u in
      let l = length (first_word (allows set) (kind_of k) n (window (kind_of k) n u)) in
      let m = length (second_word (allows set) (kind_of k) n (window (kind_of k) n u)) in (
        λ w.
            let z = then_zero q room (((split_of_exactly (q then room) l m).1 w.0 w.1).0 (sym h.0 ∙ w.2)).0 in
            let c = then_zero (set_refusal k n set) (word_refusal n u) z.0 in
            let s = (set_passes k n set).0 c.0 in
            let r = then_zero (check 14 first_short) (check 14 second_short) z.1 in (
              s.0,
              s.1,
              c.1,
              ltb-false (length first) l (check_zero 14 first_short refl r.0),
              ltb-false (length second) m (check_zero 14 second_short refl r.1),
            ),
        λ w.
            let c = then_none (set_refusal k n set) (word_refusal n u) ((set_passes k n set).1 (w.0, w.1)) ∙ w.2 in
            let r : room ≡ 0 = rw (le-ltb (length first) l w.3, le-ltb (length second) m w.4) in
            (l, m, h.0 ∙ ((split_of_exactly (q then room) l m).1 l m).1 (then_none q room c ∙ r, refl, refl)),
      )

  -- CO3: and otherwise the first check's number
  pub split_first_refusal : (r : ℕ) → (r ≡ 0 → ⊥) → (set_refusal k n set then word_refusal n u) ≡ r → a ≡ Refused r
  unfolding splitting split_outcome split_of
  split_first_refusal r f e =
      let q = set_refusal k n set then word_refusal n u in
      h.0 ∙ rw (then_some q room (λ z. f (sym e ∙ z)), e, ne_eqb r 0 f)

  -- D6, CO9: a refused call changes no byte of either output
  pub split_unchanged : (r : ℕ) → a ≡ Refused r → (x ≡ first) × (y ≡ second)
  split_unchanged r e = rw (h.1, h.2) (splitting-unchanged k n set u first second r (sym h.0 ∙ e))
