-- Every entry of the table is a fact: a test of one entry, sound for every entry, computes to true over the whole
-- table. The two entries that speak of every rank pass the test unseen; `sound` proves them from the laws of the
-- window and the rewriter layer.
--
-- Sections: one rewrite; every kind and rank; the test; the table.
-- Assumes nothing.
use mathlib.Core.Path.{◌≡◌, refl, sym, ap, ◌∙◌}
use mathlib.Core.Bool.{Bool, true, false, not, ◌&&◌, true≢false, and-eq-true_iff}
use mathlib.Core.Logic.{⊎_elim}
use mathlib.Core.List.Memᴰ
use mathlib.Core.List.{List, [], ◌∷◌, Memᴰ}
use mathlib.Core.Option.{Option, none, some}
use Prim.Native.Nat.{ℕ, suc, ◌-◌, ◌≤◌}
use native.Mathlib.Omega.{arith}
use lib.Dec.{eqb, leb-zero}
use lib.ListN.{length}
use borrow.Author.Tests.{eqb-true, not-true, le-ltb, le-leb}
use Rattle.coxeter.specs.declared.Kind.{Kind}
use Rattle.coxeter.specs.declared.Kind.TheVariants.{A, B, D}
use Rattle.coxeter.specs.Kinds.{kind_of, least, greatest, up}
use Rattle.coxeter.specs.Windows.{from, swap, negate_first, act, window_from, identity, window, signed, place_from, inverse}
use Rattle.coxeter.specs.Length.{later, negative, one, later_than, inversions, negative_sum_pairs, negatives, crossings, total, window_length}
use Rattle.coxeter.specs.Relations.{twice, forth, alone, next}
use Rattle.coxeter.specs.Checks.{wrong_kind, wrong_rank, too_long, wrong_letter, wrong_lanes, has_size, negative_in_A, wrong_at, wrong_entry, odd}
use Rattle.coxeter.specs.Checks.{odd_negatives, rank_refusal, word_refusal, window_refusal, RankOf}
use Rattle.coxeter.specs.NormalForm.{down, rise, fall, block, without, index_of, rest_of, normal_from, normal_form, word_normal_form}
use Rattle.coxeter.specs.Calls.{same_entry, same_window}
use Rattle.coxeter.proofs.Order.{same_window_true}
use Rattle.coxeter.proofs.Relations.{congruent_window}
use Rattle.coxeter.proofs.NormalForms.{normal_form-identity}
use Rattle.coxeter.proofs.KindLaws.{one_le}
use Rattle.rules.specs.Rules.{Rule, rule, concat_map, family1, family2, family3, family4, families5to7, rules, begins, fits, first_fitting, rewritten}
use Rattle.rules.specs.Calls.{past_end, rewrite_by, single}
use Rattle.rules.specs.Runs.{AcceptedWord}
use Rattle.rules.proofs.Calls.{rewrite_at_accepted}
use Rattle.rules.specs.declared.Rewrite.TheVariants.{NoneFits, Refused}
use Rattle.examples.specs.Examples.{Example, word_window, word_form, word_length, window_form, own_inverse, gives, none_fits}
use Rattle.examples.specs.Examples.{square_vanishes, empty_stays, rule_count, refused, accepted, number, Gives, Stays, Fact, table}

-- ---- one rewrite

kind_of-number : (k : Kind) → kind_of (number k) ≡ k
unfolding kind_of
kind_of-number A = refl
kind_of-number B = refl
kind_of-number D = refl

-- a word that no check refuses at this place
record Reaches (k : Kind) (n : ℕ) (u : List ℕ) (p : ℕ) : Type 0 where
  word : AcceptedWord (number k) n u
  place : past_end u p ≡ false

module _ (k : Kind) (n : ℕ) (u : List ℕ) (p : ℕ) (h : Reaches k n u p) where
  gives_of_some : (v : List ℕ) (r : Rule) → first_fitting (rules k n) u p ≡ some r → rewritten r u p ≡ v → Gives k n u p v r.family r.i r.j
  unfolding rewrite_by
  gives_of_some v r e w out l =
      rewrite_at_accepted single (number k) n u p out h.word ∙ rw (h.place, kind_of-number k, e, w, le-leb (length v) (length out) l)

  stays_of_none : first_fitting (rules k n) u p ≡ none → Stays k n u p NoneFits
  unfolding rewrite_by
  stays_of_none e out = rewrite_at_accepted single (number k) n u p out h.word ∙ rw (h.place, kind_of-number k, e)

-- ---- every kind and rank

rank_passes : (k : Kind) (n : ℕ) → least k ≤ n → n ≤ greatest k → RankOf (number k) n
unfolding rank_refusal wrong_kind wrong_rank kind_of
rank_passes A n low high = rw (le-ltb n 1 low, le-ltb 63 n high)
rank_passes B n low high = rw (le-ltb n 2 low, le-ltb 64 n high)
rank_passes D n low high = rw (le-ltb n 4 low, le-ltb 64 n high)

module _ (k : Kind) (n : ℕ) (low : least k ≤ n) (high : n ≤ greatest k) where
  empty_form : word_normal_form k n [] ≡ []
  unfolding window window_from
  empty_form = normal_form-identity k n

  square_form : word_normal_form k n (1 ∷ 1 ∷ []) ≡ []
  square_form = ap (normal_form k n) (congruent_window k n (next (forth [] [] (twice (omega arith) (one_le k n low))) alone)) ∙ empty_form

  -- the rule 1 1 → empty is the first of the list
  square_fits : first_fitting (rules k n) (1 ∷ 1 ∷ []) 0 ≡ some (rule 1 1 0 (1 ∷ 1 ∷ []) [])
  unfolding rules family1 concat_map rise up first_fitting fits begins
  square_fits =
      let o = one_le k n low in
      let e : suc n - 1 ≡ suc (n - 1) = omega arith in
      rw e

  square_gives : Gives k n (1 ∷ 1 ∷ []) 0 [] 1 1 0
  unfolding word_refusal too_long wrong_letter past_end rewritten
  square_gives =
      let w : AcceptedWord (number k) n (1 ∷ 1 ∷ []) = record { rank = rank_passes k n low high; word = rw (le-ltb n 1 (one_le k n low)) } in
      gives_of_some k n (1 ∷ 1 ∷ []) 0 (record { word = w; place = refl }) [] (rule 1 1 0 (1 ∷ 1 ∷ []) []) square_fits refl

  empty-stays : (p : ℕ) → Stays k n [] p (Refused 12)
  unfolding word_refusal too_long wrong_letter past_end
  empty-stays p out =
      rewrite_at_accepted single (number k) n [] p out (record { rank = rank_passes k n low high; word = refl }) ∙ rw (leb-zero p)

-- ---- the test

same_word : List ℕ → List ℕ → Bool
same_word [] [] = true
same_word [] (b ∷ v) = false
same_word (a ∷ u) [] = false
same_word (a ∷ u) (b ∷ v) = eqb a b && same_word u v

same_word_true : (u v : List ℕ) → same_word u v ≡ true → u ≡ v
unfolding same_word
same_word_true [] [] h = refl
same_word_true [] (b ∷ v) h = absurd (true≢false (sym h))
same_word_true (a ∷ u) [] h = absurd (true≢false (sym h))
same_word_true (a ∷ u) (b ∷ v) h =
    let t = (and-eq-true_iff (eqb a b) (same_word u v)).0 h in
    cc (eqb-true a b t.0, same_word_true u v t.1)

reaches : Kind → ℕ → List ℕ → ℕ → Bool
reaches k n u p = eqb (rank_refusal (number k) n) 0 && (eqb (word_refusal n u) 0 && not (past_end u p))

reaches_true : (k : Kind) (n : ℕ) (u : List ℕ) (p : ℕ) → reaches k n u p ≡ true → Reaches k n u p
unfolding reaches
reaches_true k n u p h =
    let s = (and-eq-true_iff (eqb (rank_refusal (number k) n) 0) (eqb (word_refusal n u) 0 && not (past_end u p))).0 h in
    let t = (and-eq-true_iff (eqb (word_refusal n u) 0) (not (past_end u p))).0 s.1 in
    record {
      word = record { rank = eqb-true (rank_refusal (number k) n) 0 s.0; word = eqb-true (word_refusal n u) 0 t.0 };
      place = not-true (past_end u p) t.1;
    }

-- the rule found has these numbers and leaves v
uses_rule : Option Rule → List ℕ → ℕ → List ℕ → ℕ → ℕ → ℕ → Bool
uses_rule none u p v f i j = false
uses_rule (some r) u p v f i j = same_word (rewritten r u p) v && (eqb r.family f && (eqb r.i i && eqb r.j j))

is_none : Option Rule → Bool
is_none none = true
is_none (some r) = false

-- the test of an entry
pub holds : Example → Bool
holds (word_window k n u w) = same_window (window k n u) w
holds (word_form k n u v) = same_word (word_normal_form k n u) v
holds (word_length k n u l) = eqb (window_length k (window k n u)) l
holds (window_form k n w v) = same_word (normal_form k n w) v
holds (own_inverse w) = same_window (inverse w) w
holds (gives k n u p v f i j) = reaches k n u p && uses_rule (first_fitting (rules k n) u p) u p v f i j
holds (none_fits k n u p) = reaches k n u p && is_none (first_fitting (rules k n) u p)
holds square_vanishes = true
holds empty_stays = true
holds (rule_count k n m) = eqb (length (rules k n)) m
holds (refused k n w r) = eqb (window_refusal k n w) r
holds (accepted k n w) = eqb (window_refusal k n w) 0

gives_of_uses_rule : {k : Kind} {n : ℕ} {u : List ℕ} {p : ℕ} → Reaches k n u p → (v : List ℕ) (f i j : ℕ) (o : Option Rule) → first_fitting (rules k n) u p ≡ o
    → uses_rule o u p v f i j ≡ true → Gives k n u p v f i j
unfolding uses_rule
gives_of_uses_rule h v f i j none e t = absurd (true≢false (sym t))
gives_of_uses_rule {k} {n} {u} {p} h v f i j (some r) e t =
    let s = (and-eq-true_iff (same_word (rewritten r u p) v) (eqb r.family f && (eqb r.i i && eqb r.j j))).0 t in
    let q = (and-eq-true_iff (eqb r.family f) (eqb r.i i && eqb r.j j)).0 s.1 in
    let z = (and-eq-true_iff (eqb r.i i) (eqb r.j j)).0 q.1 in
    rw (← eqb-true r.family f q.0, ← eqb-true r.i i z.0, ← eqb-true r.j j z.1)
    (gives_of_some k n u p h v r e (same_word_true (rewritten r u p) v s.0))

stays_of_is_none : (k : Kind) (n : ℕ) (u : List ℕ) (p : ℕ) → Reaches k n u p → (o : Option Rule) → first_fitting (rules k n) u p ≡ o → is_none o ≡ true
    → Stays k n u p NoneFits
unfolding is_none
stays_of_is_none k n u p h none e t = stays_of_none k n u p h e
stays_of_is_none k n u p h (some r) e t = absurd (true≢false (sym t))

-- an entry that passes is a fact
pub sound : (e : Example) → holds e ≡ true → Fact e
unfolding holds
sound (word_window k n u w) h = same_window_true (window k n u) w h
sound (word_form k n u v) h = same_word_true (word_normal_form k n u) v h
sound (word_length k n u l) h = eqb-true (window_length k (window k n u)) l h
sound (window_form k n w v) h = same_word_true (normal_form k n w) v h
sound (own_inverse w) h = same_window_true (inverse w) w h
sound (gives k n u p v f i j) h =
    let o = first_fitting (rules k n) u p in
    let t = (and-eq-true_iff (reaches k n u p) (uses_rule o u p v f i j)).0 h in
    gives_of_uses_rule (reaches_true k n u p t.0) v f i j o refl t.1
sound (none_fits k n u p) h =
    let o = first_fitting (rules k n) u p in
    let t = (and-eq-true_iff (reaches k n u p) (is_none o)).0 h in
    stays_of_is_none k n u p (reaches_true k n u p t.0) o refl t.1
sound square_vanishes h = λ k n low high. (square_form k n low high, square_gives k n low high)
sound empty_stays h = λ k n low high. (empty_form k n low high, empty-stays k n low high)
sound (rule_count k n m) h = eqb-true (length (rules k n)) m h
sound (refused k n w r) h = eqb-true (window_refusal k n w) r h
sound (accepted k n w) h = eqb-true (window_refusal k n w) 0 h

-- ---- the table

pub all_hold : List Example → Bool
all_hold [] = true
all_hold (e ∷ es) = holds e && all_hold es

-- the one computed fact, with the definitions that the entries pass through, layer by layer
pub all-hold : all_hold table ≡ true
unfolding table all_hold holds same_word reaches uses_rule is_none
    up from swap negate_first act window_from identity window signed place_from inverse
    later negative one later_than inversions negative_sum_pairs negatives crossings total window_length
    kind_of wrong_kind wrong_rank too_long wrong_letter wrong_lanes has_size negative_in_A wrong_at wrong_entry odd odd_negatives rank_refusal word_refusal window_refusal
    down rise fall block without index_of rest_of normal_from normal_form same_entry same_window
    concat_map family1 family2 family3 family4 families5to7 rules begins fits first_fitting rewritten past_end
all-hold = refl

all_sound : (es : List Example) → all_hold es ≡ true → (e : Example) → Memᴰ e es → Fact e
unfolding all_hold
all_sound [] h e m = absurd (Memᴰ.not-nil m)
all_sound (x ∷ es) h e m =
    let t = (and-eq-true_iff (holds x) (all_hold es)).0 h in
    ⊎_elim (λ q. sound e (ap holds q ∙ t.0)) (all_sound es t.1 e) (Memᴰ.cases_cons m)

-- every entry of the table is a fact
pub proved : (e : Example) → Memᴰ e table → Fact e
proved = all_sound table all-hold

-- so many entries, lest one be lost
pub table-length : length table ≡ 18
unfolding table
table-length = refl
