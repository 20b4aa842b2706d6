-- The call from one window to another from its parts: letters asked for one by one, work arrays that always have
-- room, and the outcome in each case.
--
-- Sections: letters; the window between two windows and its normal form; the call.
-- Assumes nothing.
use mathlib.Core.Path.{◌≡◌, refl, sym, ap, ◌∙◌}
use mathlib.Core.Bool.{Bool, true, false, not, ◌&&◌}
use mathlib.Core.List.{List, [], ◌∷◌, ◌++◌}
use Prim.Native.Nat.{ℕ, ◌*◌, ◌≤◌, ◌<◌}
use native.Mathlib.Omega.{arith}
use lib.IntN.{ℤ}
use lib.ListN.{length, get_or, take, drop, replicate, length-replicate}
use lib.Seq.{take-length}
use borrow.Author.Tests.{ne_eqb, le-ltb}
use Rattle.std.specs.List.{list_all}
use Rattle.std.proofs.lemmas.Grind.{get_or_default_zero}
use Rattle.coxeter.specs.answers.Answer.{Answer}
use Rattle.coxeter.specs.answers.Answer as answer
use Rattle.coxeter.specs.declared.Kind.{Kind}
use Rattle.coxeter.specs.Kinds.{kind_of}
use Rattle.coxeter.specs.Windows.{product, inverse}
use Rattle.coxeter.specs.Checks.{check, ◌then◌, too_long, wrong_letter, rank_refusal, word_refusal, window_refusal, WordOf, WindowOf}
use Rattle.coxeter.specs.NormalForm.{normal_form}
use Rattle.coxeter.specs.Calls.{front, Yields, writes}
use Rattle.coxeter.proofs.Acceptance.{letters_accepted, length_accepted}
use Rattle.coxeter.proofs.Groups.{InRange, by_number, rank_le}
use Rattle.coxeter.proofs.Levels.{Accepted, accepted_of_refusal, refusal_of_accepted}
use Rattle.coxeter.proofs.LetterLaws.{letter_at, letter_within_cons}
use Rattle.coxeter.proofs.Theorems.{normal_form-fits}
use Rattle.coxeter.proofs.Refusals.{then_none, then_some, then_assoc}
use Rattle.coxeter.proofs.Outcomes.{writes-refused}
use Rattle.coxeter.proofs.FrontLaws.{front_parts}
use Rattle.shortest_words.specs.Allowed.{over, allows, set_refusal}
use Rattle.shortest_words.specs.Between.{between, reachable}
use Rattle.shortest_words.specs.BetweenCalls.{unreachable, between_refusal, between_windows}
use Rattle.shortest_words.proofs.Between.{between_accepted}
use Rattle.shortest_words.proofs.BetweenCalls.{rank_of_set}
use Rattle.descents.proofs.Answers.{told_length, written_front, never_refused}
use Rattle.window.proofs.Squares.{form_le_square}

-- ---- letters

-- each letter is allowed
pub list_all-over : (allowed : ℕ → Bool) (u : List ℕ) → list_all allowed u ≡ over allowed u
unfolding over
list_all-over allowed [] = refl
list_all-over allowed (s ∷ u) = ap (λ (b : Bool). allowed s && b) (list_all-over allowed u)

-- a letter that is met in an accepted word
pub letter_met : (n : ℕ) (u : List ℕ) (k x : ℕ) → WordOf n u → k < length u → x ≡ get_or u k x → (1 ≤ x) × (x ≤ n)
letter_met n u k x w h e =
    let is : x ≡ get_or u k 0 = e ∙ get_or_default_zero u k x h in rw is (letter_at n u k h (letters_accepted n u w))

-- a word of a smaller rank is one of a greater one
letters_le : (n m : ℕ) (u : List ℕ) → n ≤ m → wrong_letter n u ≡ false → wrong_letter m u ≡ false
unfolding wrong_letter
letters_le n m [] l e = refl
letters_le n m (s ∷ u) l e =
    let a = letter_within_cons n s u e in
    rw (ne_eqb s 0 (omega (arith, a.0)), le-ltb m s (omega (arith, a.1))) (letters_le n m u l a.2)

word_le : (n m : ℕ) (u : List ℕ) → n ≤ m → WordOf n u → WordOf m u
unfolding word_refusal too_long
word_le n m u l h = rw (le-ltb 4096 (length u) (length_accepted n u h), letters_le n m u l (letters_accepted n u h))

-- a word is refused with 19 where t, whether it is over the allowed steps, is not so
pub not_over : {t u : Bool} → t ≡ u → not t ≡ true → 19 ≡ check 19 (not u)
not_over e f = rw (← e, f)

pub all_over : {t u : Bool} → t ≡ u → not t ≡ false → 0 ≡ check 19 (not u)
all_over e f = rw (← e, f)

-- and one that is copied whole is written
pub copied : (u out after : List ℕ) → after ≡ take (length u) u ++ drop (length u) out → after ≡ front u out
copied u out after e = e ∙ front_parts u out (length u) (take (length u) u) refl (take-length u)

-- ---- the window between two windows and its normal form

module _ (k : Kind) (n : ℕ) (v w : List ℤ) (h : InRange k n) (a : WindowOf k n v) (b : WindowOf k n w) where
  abbrev form : List ℕ
  form = normal_form k n (product (inverse v) w)

  middle : Accepted k n (product (inverse v) w)
  middle = between_accepted k n v w (accepted_of_refusal k n v a) (accepted_of_refusal k n w b)

  fits : WordOf n form
  fits =
      by_number (λ k n. (x : List ℤ) → WindowOf k n x → WordOf n (normal_form k n x)) (λ j n r x p. normal_form-fits j n x r p) k n h
      (product (inverse v) w) (refusal_of_accepted k n _ middle)

  -- the work array has `size` zeros, room for every normal form, and `after` is what the call on the two windows left there
  module _ (size : ℕ) (room : n * n ≤ size) where
    zeros : length {A = ℕ} (replicate size 0) ≡ size
    zeros = let z : ℕ = 0 in length-replicate size z

    pub form_never : {after : List ℕ} (s : ℕ) → Yields (writes 0 form (replicate size 0)) (answer.Refused s) after → ⊥
    form_never s y = never_refused form (replicate size 0) s y (omega (arith, form_le_square k n _ middle, room, zeros))

    module _ {after : List ℕ} (m : ℕ) (y : Yields (writes 0 form (replicate size 0)) (answer.Length m) after) where
      held : take m after ≡ form
      held = (written_front form (replicate size 0) m y).part

      pub form_room : m ≤ size
      form_room = omega (arith, (told_length 0 form (replicate size 0) after (answer.Length m) refl y m refl).1, zeros)

      pub form_word : WordOf 64 (take m after)
      form_word = rw held (word_le n 64 form (rank_le k n h).1 fits)

      pub answered : (set : ℕ) (out : List ℕ) (x : Answer) (end : List ℕ)
          → Yields (writes (check 19 (not (over (allows set) (take m after)))) (take m after) out) x end
          → Yields (writes (check 19 (unreachable k n set v w)) (between k n v w) out) x end
      unfolding unreachable reachable between
      answered set out x end d = rw held at d

-- ---- the call

pub refused_by_set : (k n set : ℕ) (v w : List ℤ) {out : List ℕ} {p : ℕ} → p ≡ set_refusal k n set → (p ≡ 0 → ⊥)
    → Yields (between_windows k n set v w out) (answer.Refused p) out
unfolding between_windows between_refusal
refused_by_set k n set v w {out} {p} e f = writes-refused _ _ p _ out refl (e ∙ sym (then_some _ _ (λ z. f (e ∙ z)))) f

-- checks 5, 6 and 16 refuse nothing
module _ (k n set : ℕ) (v w : List ℤ) (z : 0 ≡ set_refusal k n set) where
  abbrev checks : ℕ
  checks = rank_refusal k n then window_refusal (kind_of k) n v then window_refusal (kind_of k) n w

  -- the windows' checks, then 19
  rest : between_refusal k n set v w ≡ (checks then check 19 (unreachable (kind_of k) n set v w))
  unfolding between_refusal
  rest =
      then_none _ _ (sym z)
      ∙ sym (then_assoc (window_refusal (kind_of k) n v) (window_refusal (kind_of k) n w) _)
      ∙ ap (λ (x : ℕ). x then check 19 (unreachable (kind_of k) n set v w)) (sym (then_none _ _ (rank_of_set k n set (sym z))))

  pub refused_by_windows : {out : List ℕ} {p : ℕ} → p ≡ checks → (p ≡ 0 → ⊥) → Yields (between_windows k n set v w out) (answer.Refused p) out
  unfolding between_windows
  refused_by_windows {out} {p} e f = writes-refused _ _ p _ out refl (e ∙ sym (rest ∙ then_some checks _ (λ q. f (e ∙ q)))) f

  -- nor do those of the windows
  pub led : (out : List ℕ) {x : Answer} {end : List ℕ} → 0 ≡ checks
      → Yields (writes (check 19 (unreachable (kind_of k) n set v w)) (between (kind_of k) n v w) out) x end → Yields (between_windows k n set v w out) x end
  unfolding between_windows
  led out c d = rw (rest, sym c) d
