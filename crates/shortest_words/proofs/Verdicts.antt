-- What the fallback call's definition says in each case, in the checking order: from what a walk through an
-- accepted word leaves to the call's outcome.
--
-- Sections: a word and a target; two words; what an outcome says.
-- Assumes nothing.
use mathlib.Core.Path.{◌≡◌, refl, sym, ap, ◌∙◌}
use mathlib.Core.Bool.{Bool, true, false, ◌&&◌, true≢false}
use mathlib.Core.Logic.{◌↔◌}
use mathlib.Core.List.{List, []}
use Prim.Native.Nat.{ℕ, ◌≤◌, ◌<◌}
use native.Mathlib.Decide.{ℕ_discrete}
use lib.Dec.{eqb}
use lib.IntN.{ℤ}
use lib.ListN.{length, take, drop}
use borrow.Author.Tests.{eq-eqb, ne_eqb, lt-ltb, le-ltb}
use Rattle.coxeter.specs.declared.Kind.{Kind}
use Rattle.coxeter.specs.Kinds.{pick, kind_of, least, lanes}
use Rattle.coxeter.specs.Windows.{identity, window}
use Rattle.coxeter.specs.Length.{window_length}
use Rattle.coxeter.specs.Checks.{check, ◌then◌, too_short, rank_refusal, word_refusal, wrong_letter}
use Rattle.coxeter.specs.NormalForm.{word_normal_form}
use Rattle.coxeter.specs.Calls.{front, same_window}
use Rattle.coxeter.proofs.Levels.{Accepted, window_accepted}
use Rattle.coxeter.proofs.Acceptance.{lanes_le}
use Rattle.coxeter.proofs.PairWeights.{window_length_le_4096}
use Rattle.coxeter.proofs.Refusals.{then_assoc, then_zero}
use Rattle.coxeter.proofs.Order.{same_window_true, same_window_of_eq}
use Rattle.coxeter.proofs.FrontLaws.{take-front, drop-front}
use Rattle.coxeter.proofs.TestLaws.{impossible}
use Rattle.shortest_words.specs.answers.Fallback.{Fallback}
use Rattle.shortest_words.specs.answers.Fallback.{Kept, No, Refused}
use Rattle.shortest_words.specs.Fallback.{ShortestSubwordPlaces, some_subword, is_fallback}
use Rattle.shortest_words.specs.Calls.{fallback_of, simpler_length, fallback_answer, kept_count, FellBack}
use Rattle.shortest_words.proofs.Places.{some_subword_exactly}
use Rattle.shortest_words.proofs.Firsts.{fallback_of_exactly}
use Rattle.shortest_words.proofs.FallbackWalk.{left_over, places_kept, walk_decides, walk_shortest_subword}

-- ---- a word and a target

-- the verdict on a word u and a target w, and the list of places before and after
pub record Decided (k : Kind) (n : ℕ) (u : List ℕ) (w : List ℤ) (places : List ℕ) (a : Fallback) (after : List ℕ) : Type 0 where
  pub answer : a ≡ pick (some_subword k n (identity (lanes k n)) u w)
      (pick (too_short (window_length k w) places) (Refused 14) (Kept (window_length k w))) No
  pub kept : (l : ℕ) → a ≡ Kept l → ShortestSubwordPlaces k n u w (take l after)
  pub others : drop (kept_count a) after ≡ drop (kept_count a) places

same_test : {P : Type 0} (s t : Bool) → (s ≡ true) ↔ P → (t ≡ true) ↔ P → s ≡ t
same_test true t f g = sym (g.1 (f.0 refl))
same_test false true f g = f.1 (g.0 refl)
same_test false false f g = refl

module _ (k : Kind) (n : ℕ) (u : List ℕ) (w : List ℤ) (places : List ℕ) (h : least k ≤ n) (e : wrong_letter n u ≡ false) (a : Accepted k n w) where
  -- x is what the walk leaves of the target, and t whether it is straight
  module _ (x : List ℤ) (t : Bool) (q : x ≡ left_over k n u (length u) w) (s : t ≡ same_window x (identity (lanes k n))) where
    decided : some_subword k n (identity (lanes k n)) u w ≡ t
    decided =
        let walk = walk_decides k n u h e w a in
        same_test _ t (some_subword_exactly k n u w)
        (λ y. walk.1 (sym q ∙ same_window_true x (identity (lanes k n)) (sym s ∙ y)), λ f. s ∙ same_window_of_eq x (identity (lanes k n)) (q ∙ walk.0 f))

    pub decided_no : t ≡ false → Decided k n u w places No places
    unfolding kept_count
    decided_no z = record {
      answer = rw (decided ∙ z);
      kept = λ l y. impossible (cc);
      others = refl;
    }

    -- the places kept are ps, m of them
    module _ (z : t ≡ true) (ps : List ℕ) (m : ℕ) (g : ps ≡ places_kept k n u (length u) w []) (c : m ≡ length ps) where
      kept_subword : ShortestSubwordPlaces k n u w ps
      kept_subword = rw g (walk_shortest_subword k n u h e w a (sym q ∙ same_window_true x (identity (lanes k n)) (sym s ∙ z)))

      count : window_length k w ≡ m
      count = sym (c ∙ kept_subword.count)

      pub decided_short : length places < m → Decided k n u w places (Refused 14) places
      unfolding too_short kept_count
      decided_short l = record {
        answer = rw (decided ∙ z, count, lt-ltb (length places) m l);
        kept = λ i y. impossible (cc);
        others = refl;
      }

      pub decided_kept : (after : List ℕ) → m ≤ length places → after ≡ front ps places → Decided k n u w places (Kept m) after
      unfolding too_short kept_count
      decided_kept after l f = record {
        answer = rw (decided ∙ z, count, le-ltb (length places) m l);
        kept = λ i y. let o : m ≡ i = cc in rw (f, ← o, take-front ps places m (sym c)) kept_subword;
        others = rw (f, c) (drop-front ps places (length ps) refl);
      }

-- ---- two words

-- check 14 comes after the others
pub then_last : (p q r s : ℕ) → (p then q then r then s) ≡ ((p then q then r) then s)
then_last p q r s = sym (then_assoc p (q then r) s ∙ ap (λ (x : ℕ). p then x) (then_assoc q r s))

by_verdict : (t short : Bool) (l : ℕ) → pick t (pick short (Refused 14) (Kept l)) No ≡ fallback_of (check 14 (t && short)) t l
unfolding fallback_of
by_verdict true true l = refl
by_verdict true false l = refl
by_verdict false short l = refl

module _ (k n : ℕ) (present simpler places : List ℕ) {r : ℕ} (e : r ≡ (rank_refusal k n then word_refusal n present then word_refusal n simpler)) where
  last : (s : ℕ) → (rank_refusal k n then word_refusal n present then word_refusal n simpler then s) ≡ (r then s)
  last s = then_last (rank_refusal k n) (word_refusal n present) (word_refusal n simpler) s ∙ ap (λ (x : ℕ). x then s) (sym e)

  pub fell_back_refused : (r ≡ 0 → ⊥) → FellBack k n present simpler places (Refused r) places
  unfolding fallback_answer fallback_of kept_count
  fell_back_refused f = record {
    answer = rw (last, ne_eqb r 0 f) (rw (ne_eqb r 0 f));
    kept = λ i y. impossible (cc);
    others = refl;
  }

  pub fell_back_decided : {a : Fallback} {after : List ℕ} → r ≡ 0
      → Decided (kind_of k) n (word_normal_form (kind_of k) n present) (window (kind_of k) n simpler) places a after → FellBack k n present simpler places a after
  unfolding fallback_answer is_fallback
  fell_back_decided z s = let l = simpler_length k n simpler in record {
    answer = s.answer ∙ rw (last, z) (by_verdict (is_fallback (kind_of k) n present simpler) (too_short l places) l);
    kept = s.kept;
    others = s.others;
  }

-- ---- what an outcome says

-- what the answer is: q is the refusal of the checks before 14, t the verdict, l the length of the simpler window
pub data FallbackCase (q : ℕ) (t short : Bool) (l : ℕ) : Fallback → Type 0 where
  is_refused : (q ≡ 0 → ⊥) → FallbackCase q t short l (Refused q)
  is_no : q ≡ 0 → t ≡ false → FallbackCase q t short l No
  is_short : q ≡ 0 → t ≡ true → short ≡ true → FallbackCase q t short l (Refused 14)
  is_kept : q ≡ 0 → t ≡ true → short ≡ false → FallbackCase q t short l (Kept l)

pub fallback_case : (q : ℕ) (t short : Bool) (l : ℕ) → FallbackCase q t short l (fallback_of (q then check 14 (t && short)) t l)
unfolding fallback_of
fallback_case q t short l = elim (ℕ_discrete q 0) [
  | yes z ↦ rw (eq-eqb q 0 z) (fallback_case_by_cases z t short refl refl)
  | no f ↦ rw (ne_eqb q 0 f) (rw (ne_eqb q 0 f) (is_refused f))
]
  where
    fallback_case_by_cases : q ≡ 0 → (b c : Bool) → t ≡ b → short ≡ c → FallbackCase q t short l
        (pick (eqb (check 14 (b && c)) 0) (pick b (Kept l) No) (Refused (check 14 (b && c))))
    fallback_case_by_cases z true true e d = is_short z e d
    fallback_case_by_cases z true false e d = is_kept z e d
    fallback_case_by_cases z false c e d = is_no z e

module _ {q : ℕ} {t short : Bool} {l : ℕ} where
  pub no_means : {a : Fallback} → FallbackCase q t short l a → a ≡ No → (q ≡ 0) × (t ≡ false)
  no_means (is_refused f) e = impossible (cc)
  no_means (is_no z n) e = (z, n)
  no_means (is_short z y s) e = impossible (cc)
  no_means (is_kept z y s) e = impossible (cc)

  pub kept_means : {a : Fallback} (m : ℕ) → FallbackCase q t short l a → a ≡ Kept m → (q ≡ 0) × (t ≡ true) × (short ≡ false) × (m ≡ l)
  kept_means m (is_refused f) e = impossible (cc)
  kept_means m (is_no z n) e = impossible (cc)
  kept_means m (is_short z y s) e = impossible (cc)
  kept_means m (is_kept z y s) e = (z, y, s, cc)

  pub short_means : {a : Fallback} → (q ≡ 14 → ⊥) → FallbackCase q t short l a → a ≡ Refused 14 → (q ≡ 0) × (t ≡ true) × (short ≡ true)
  short_means g (is_refused f) e = absurd (g cc)
  short_means g (is_no z n) e = impossible (cc)
  short_means g (is_short z y s) e = (z, y, s)
  short_means g (is_kept z y s) e = impossible (cc)

  pub answer_is_no : {a : Fallback} → FallbackCase q t short l a → q ≡ 0 → t ≡ false → a ≡ No
  answer_is_no (is_refused f) z n = absurd (f z)
  answer_is_no (is_no x y) z n = refl
  answer_is_no (is_short x y s) z n = absurd (true≢false (sym y ∙ n))
  answer_is_no (is_kept x y s) z n = absurd (true≢false (sym y ∙ n))

  pub answer_is_kept : {a : Fallback} → FallbackCase q t short l a → q ≡ 0 → t ≡ true → short ≡ false → a ≡ Kept l
  answer_is_kept (is_refused f) z n r = absurd (f z)
  answer_is_kept (is_no x y) z n r = absurd (true≢false (sym n ∙ y))
  answer_is_kept (is_short x y s) z n r = absurd (true≢false (sym s ∙ r))
  answer_is_kept (is_kept x y s) z n r = refl

  pub answer_is_short : {a : Fallback} → FallbackCase q t short l a → q ≡ 0 → t ≡ true → short ≡ true → a ≡ Refused 14
  answer_is_short (is_refused f) z n r = absurd (f z)
  answer_is_short (is_no x y) z n r = absurd (true≢false (sym n ∙ y))
  answer_is_short (is_short x y s) z n r = refl
  answer_is_short (is_kept x y s) z n r = absurd (true≢false (sym r ∙ s))

  pub answer_is_refused : {a : Fallback} → FallbackCase q t short l a → (q ≡ 0 → ⊥) → a ≡ Refused q
  answer_is_refused (is_refused f) g = refl
  answer_is_refused (is_no x y) g = absurd (g x)
  answer_is_refused (is_short x y s) g = absurd (g x)
  answer_is_refused (is_kept x y s) g = absurd (g x)

-- checks 5 and 6 refuse before anything else is looked at
fallback_answer-refused : (k n : ℕ) (present simpler places : List ℕ) → (rank_refusal k n ≡ 0 → ⊥)
    → fallback_answer k n present simpler places ≡ Refused (rank_refusal k n)
unfolding fallback_answer fallback_of
fallback_answer-refused k n present simpler places f = rw (ne_eqb (rank_refusal k n) 0 f) (rw (ne_eqb (rank_refusal k n) 0 f))

fallback_of_kept : (r : ℕ) (t : Bool) (m l : ℕ) → fallback_of r t m ≡ Kept l → l ≡ m
unfolding fallback_of
fallback_of_kept r t m l e = fallback_of_kept_by_cases (eqb r 0) t e
  where
    fallback_of_kept_by_cases : (s t : Bool) → pick s (pick t (Kept m) No) (Refused r) ≡ Kept l → l ≡ m
    fallback_of_kept_by_cases true true e = cc
    fallback_of_kept_by_cases true false e = impossible (cc)
    fallback_of_kept_by_cases false t e = impossible (cc)

module _ (k n : ℕ) (present simpler places after : List ℕ) where
  -- F5: a no writes nothing, nor does a refusal
  pub no_unchanged : FellBack k n present simpler places No after → after ≡ places
  unfolding kept_count
  no_unchanged h = h.others

  pub refused-unchanged : (r : ℕ) → FellBack k n present simpler places (Refused r) after → after ≡ places
  unfolding kept_count
  refused-unchanged r h = h.others

  -- at most 4,096 places are kept
  pub kept_le : (l : ℕ) → FellBack k n present simpler places (Kept l) after → l ≤ 4096
  unfolding fallback_answer
  kept_le l h =
      let p = ((fallback_of_exactly _ _ _).2 l).0 (sym h.answer) in
      let w = window_accepted (kind_of k) n simpler in
      rw (← p.2) (window_length_le_4096 (kind_of k) n (window (kind_of k) n simpler) w (lanes_le k n _ (then_zero (rank_refusal k n) _ p.0).0 w.size))

  -- a call that checks 5 and 6 refuse depends on nothing else of its kind and rank
  pub fell_back_alike : (a : Fallback) (l m : ℕ) → rank_refusal l m ≡ rank_refusal k n → (rank_refusal k n ≡ 0 → ⊥)
      → FellBack l m present simpler places a after → FellBack k n present simpler places a after
  fell_back_alike a l m e f h =
      let refused : a ≡ Refused (rank_refusal k n) =
      h.answer ∙ fallback_answer-refused l m present simpler places (λ z. f (sym e ∙ z)) ∙ ap Refused e in
      record {
        answer = refused ∙ sym (fallback_answer-refused k n present simpler places f);
        kept = λ i y. impossible (cc);
        others = h.others;
      }
