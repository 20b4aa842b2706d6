-- The order of words and the better of two words in plain terms (O1, O2, N1, V3, V5, I15 to I17 of the
-- specification): when each test holds, for every input, refused ones included.
--
-- Sections: the order of words; equal windows; the better word.
-- Not here: that the orders are strict and total (Order), the verdict on two presets (Sentences).
-- Assumes nothing.
use mathlib.Core.Path.{◌≡◌, refl, sym, ap, ◌∙◌}
use mathlib.Core.Bool.{Bool, true, false, false≢true, true≢false, and-eq-true_iff}
use mathlib.Core.Logic.{◌↔◌, ◌⊎◌, inl, inr, ⊎_elim}
use mathlib.Core.List.{List, [], ◌∷◌, ◌++◌}
use denote.Ref.{Bor}
use Prim.Native.Nat.{ℕ, ◌<◌}
use lib.Dec.{eqb}
use lib.ListN.{length}
use borrow.Author.Tests.{eqb-true, eq-eqb}
use Rattle.coxeter.specs.answers.Choice as choices
use Rattle.coxeter.specs.declared.Kind.{Kind}
use Rattle.coxeter.specs.Kinds.{pick, kind_of, lanes}
use Rattle.coxeter.specs.Windows.{window}
use Rattle.coxeter.specs.Dictionary.{before, shortlex}
use Rattle.coxeter.specs.Checks.{◌then◌, rank_refusal, word_refusal, RankOf, WordOf}
use Rattle.coxeter.specs.Calls.{same_window, equal_words, same_presets, hands_back, choice, Better}
use Rattle.coxeter.proofs.TestLaws.{not_true_false}
use Rattle.coxeter.proofs.Order.{before_higher, before_cons, before_cases, before_continuation}
use Rattle.coxeter.proofs.Order.{shortlex_shorter, shortlex-before, shortlex_cases, shortlex_irrefl, shortlex-total, shortlex_asymm}
use Rattle.coxeter.proofs.Order.{same_window_true, same_window_of_eq}
use Rattle.coxeter.proofs.Acceptance.{words_accepted}

-- ---- the order of words

-- with the same letters in front the higher letter comes first
before-front : (x : List ℕ) (a b : ℕ) (y z : List ℕ) → b < a → before (x ++ (a ∷ y)) (x ++ (b ∷ z)) ≡ true
before-front [] a b y z h = before_higher a b y z h
before-front (c ∷ x) a b y z h = before_cons c (x ++ (a ∷ y)) (x ++ (b ∷ z)) ∙ before-front x a b y z h

before_parts : (u v : List ℕ) → before u v ≡ true
    → ((x y z : List ℕ) × (a b : ℕ) × (b < a) × (u ≡ x ++ (a ∷ y)) × (v ≡ x ++ (b ∷ z))) ⊎ ((a : ℕ) × (z : List ℕ) × (v ≡ u ++ (a ∷ z)))
unfolding before
before_parts [] [] h = absurd (false≢true h)
before_parts [] (b ∷ v) h = inr (b, v, refl)
before_parts (a ∷ u) [] h = absurd (false≢true h)
before_parts (a ∷ u) (b ∷ v) h = elim (before_cases a b u v h) [
  | inl l ↦ inl ([], u, v, a, b, l, refl, refl)
  | inr r ↦ elim (before_parts u v r.1) [
    | inl p ↦ inl (a ∷ p.0, p.1, p.2, p.3, p.4, p.5, ap (λ (l : List ℕ). a ∷ l) p.6, rw r.0 (ap (λ (l : List ℕ). b ∷ l) p.7))
    | inr p ↦ inr (p.0, p.1, rw r.0 (ap (λ (l : List ℕ). b ∷ l) p.2))
  ]
]

-- O1, O2: a word comes before another exactly when it has the higher letter at the first place where the two differ,
-- or the other continues it
pub before_exactly : (u v : List ℕ) → (before u v ≡ true)
    ↔ (((x y z : List ℕ) × (a b : ℕ) × (b < a) × (u ≡ x ++ (a ∷ y)) × (v ≡ x ++ (b ∷ z))) ⊎ ((a : ℕ) × (z : List ℕ) × (v ≡ u ++ (a ∷ z))))
before_exactly u v = (
  before_parts u v,
  ⊎_elim
      (λ p. rw (p.6, p.7) (before-front p.0 p.3 p.4 p.1 p.2 p.5))
      (λ p. rw p.2 (before_continuation u p.0 p.1)),
)

-- N1, V3: a word comes before another by length and dictionary exactly when it is shorter, or as long and before it
pub shortlex_exactly : (u v : List ℕ) → (shortlex u v ≡ true) ↔ ((length u < length v) ⊎ ((length u ≡ length v) × (before u v ≡ true)))
shortlex_exactly u v = (shortlex_cases u v, ⊎_elim (shortlex_shorter u v) (λ p. shortlex-before u v p.0 p.1))

-- ---- equal windows

-- V1, I15: two presets look alike exactly when their lane counts and their windows are equal
pub same_presets_exactly : (k n : ℕ) (u : List ℕ) (l m : ℕ) (v : List ℕ) → (same_presets k n u l m v ≡ true)
    ↔ ((lanes (kind_of k) n ≡ lanes (kind_of l) m) × (window (kind_of k) n u ≡ window (kind_of l) m v))
unfolding same_presets
same_presets_exactly k n u l m v =
    let a = window (kind_of k) n u in
    let b = window (kind_of l) m v in
    let both = and-eq-true_iff (eqb (lanes (kind_of k) n) (lanes (kind_of l) m)) (same_window a b) in (
      λ h. (eqb-true _ _ (both.0 h).0, same_window_true a b (both.0 h).1),
      λ p. both.1 (eq-eqb _ _ p.0, same_window_of_eq a b p.1),
    )

-- V3: two words are equal exactly if they have one window, whatever they are
pub equal_words_exactly : (k : Kind) (n : ℕ) (u v : List ℕ) → (equal_words k n u v ≡ true) ↔ (window k n u ≡ window k n v)
unfolding equal_words
equal_words_exactly k n u v = (same_window_true (window k n u) (window k n v), same_window_of_eq (window k n u) (window k n v))

-- V3, V5, I16, I17: one of two words is handed back exactly when no check refuses and they have one window
pub hands_back_exactly : (k n : ℕ) (u v : List ℕ) → (hands_back k n u v ≡ true)
    ↔ (RankOf k n × WordOf n u × WordOf n v × (window (kind_of k) n u ≡ window (kind_of k) n v))
unfolding hands_back equal_words
hands_back_exactly k n u v =
    let r = rank_refusal k n then word_refusal n u then word_refusal n v in
    let both = and-eq-true_iff (eqb r 0) (same_window (window (kind_of k) n u) (window (kind_of k) n v)) in (
      λ h. let b = both.0 h in
          let a = words_accepted k n u v r refl (eqb-true r 0 b.0) in
          (a.0, a.1.0, a.1.1, same_window_true _ _ b.1),
      λ p. both.1 (eq-eqb r 0 (rw (p.0, p.1, p.2)), same_window_of_eq _ _ p.3),
    )

-- ---- the better word

-- G17, I17: the choice is neither exactly when no word is handed back, and else the second or the first as `second` says
pub choice_exactly : (hands second : Bool) → ((choice hands second ≡ choices.Neither) ↔ (hands ≡ false))
    × ((choice hands second ≡ choices.Second) ↔ ((hands ≡ true) × (second ≡ true)))
    × ((choice hands second ≡ choices.First) ↔ ((hands ≡ true) × (second ≡ false)))
unfolding choice
choice_exactly true true = ((λ e. cc, λ e. cc), (λ e. (refl, refl), λ p. refl), (λ e. (refl, cc), λ p. let e = p.1 in cc))
choice_exactly true false = ((λ e. cc, λ e. cc), (λ e. (refl, cc), λ p. let e = p.1 in cc), (λ e. (refl, refl), λ p. refl))
choice_exactly false second = ((λ e. refl, λ e. refl), (λ e. (cc, cc), λ p. let e = p.0 in cc), (λ e. (cc, cc), λ p. let e = p.0 in cc))

-- what `which_better` answers on two words of one kind and rank
module _ (k n : ℕ) (u v : List ℕ) where
  -- V5, I17: the better word is neither exactly when a check refuses or the windows differ
  pub neither_better : (choice (hands_back k n u v) (shortlex v u) ≡ choices.Neither)
      ↔ (RankOf k n × WordOf n u × WordOf n v × (window (kind_of k) n u ≡ window (kind_of k) n v) → ⊥)
  neither_better =
      let c = (choice_exactly (hands_back k n u v) (shortlex v u)).0 in
      let h = hands_back_exactly k n u v in
      (λ e p. false≢true (sym (c.0 e) ∙ h.1 p), λ f. c.1 (not_true_false (hands_back k n u v) (λ e. f (h.0 e))))

  -- V3, I17: it is the second exactly when no check refuses, the windows are equal and the second is shorter, or as long
  -- and earlier in the dictionary
  pub second_better : (choice (hands_back k n u v) (shortlex v u) ≡ choices.Second)
      ↔ (RankOf k n × WordOf n u × WordOf n v × (window (kind_of k) n u ≡ window (kind_of k) n v)
      × ((length v < length u) ⊎ ((length v ≡ length u) × (before v u ≡ true))))
  second_better =
      let c = (choice_exactly (hands_back k n u v) (shortlex v u)).1 in
      let h = hands_back_exactly k n u v in
      let s = shortlex_exactly v u in (
        λ e. let p = c.0 e in let a = h.0 p.0 in (a.0, a.1, a.2, a.3, s.0 p.1),
        λ p. c.1 (h.1 (p.0, p.1, p.2, p.3), s.1 p.4),
      )

  -- V3, I17: it is the first exactly when no check refuses, the windows are equal and the first is shorter, or as long
  -- and earlier in the dictionary or the same word
  pub first_better : (choice (hands_back k n u v) (shortlex v u) ≡ choices.First)
      ↔ (RankOf k n × WordOf n u × WordOf n v × (window (kind_of k) n u ≡ window (kind_of k) n v)
      × ((length u < length v) ⊎ ((length u ≡ length v) × ((before u v ≡ true) ⊎ (u ≡ v)))))
  first_better =
      let c = (choice_exactly (hands_back k n u v) (shortlex v u)).2 in
      let h = hands_back_exactly k n u v in (
        λ e. let p = c.0 e in let a = h.0 p.0 in (a.0, a.1, a.2, a.3, forth p.1),
        λ p. c.1 (h.1 (p.0, p.1, p.2, p.3), back p.4),
      )
    where
      forth : shortlex v u ≡ false → (length u < length v) ⊎ ((length u ≡ length v) × ((before u v ≡ true) ⊎ (u ≡ v)))
      forth f = elim (shortlex-total u v) [
        | inl e ↦ inr (ap length e, inr e)
        | inr (inl t) ↦ ⊎_elim (λ l. inl l) (λ q. inr (q.0, inl q.1)) (shortlex_cases u v t)
        | inr (inr t) ↦ absurd (true≢false (sym t ∙ f))
      ]

      back : (length u < length v) ⊎ ((length u ≡ length v) × ((before u v ≡ true) ⊎ (u ≡ v))) → shortlex v u ≡ false
      back (inl l) = shortlex_asymm u v (shortlex_shorter u v l)
      back (inr (e, inl b)) = shortlex_asymm u v (shortlex-before u v e b)
      back (inr (e, inr q)) = rw q (shortlex_irrefl v)

-- V3 to V6, I16: what is handed back is exactly what I17 answers: the first word itself, or the second, or an empty part
-- at the start of the first
pub better_exactly : (hands second : Bool) (u v r : Bor (List ℕ)) → Better hands second u v r
    ↔ ((choice hands second ≡ choices.First → r ≡ u)
    × (choice hands second ≡ choices.Second → r ≡ v)
    × (choice hands second ≡ choices.Neither → (r.now ≡ []) × (r.ref_ptr ≡ u.ref_ptr)))
better_exactly hands second u v r = (
  λ b.
      let c = choice_exactly hands second in (
        λ e. let p = c.2.0 e in b.whole p.0 ∙ rw p.1,
        λ e. let p = c.1.0 e in b.whole p.0 ∙ rw p.1,
        λ e. b.empty (c.0.0 e),
      ),
  λ t. record { whole = whole second t.0 t.1; empty = λ h. t.2 ((choice_exactly hands second).0.1 h) },
)
  where
    whole : (which : Bool) → (choice hands which ≡ choices.First → r ≡ u) → (choice hands which ≡ choices.Second → r ≡ v) → hands ≡ true → r ≡ pick which v u
    whole true f g h = g ((choice_exactly hands true).1.1 (h, refl))
    whole false f g h = f ((choice_exactly hands false).2.1 (h, refl))
