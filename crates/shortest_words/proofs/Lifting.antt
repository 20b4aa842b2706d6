-- The lifting property: whether a word with a step at its end has a part-list with the window w is told by the word
-- without the step, and by w stepped back where the step makes w shorter. By deleting one letter of a part-list
-- (Exchange).
--
-- Sections: the target after one letter; a letter less; a step at the end.
-- Assumes nothing.
use mathlib.Core.Path.{◌≡◌, refl, sym, ap, subst, ◌∙◌}
use mathlib.Core.Bool.{Bool, true, false}
use mathlib.Core.Logic.{◌↔◌}
use mathlib.Core.List.{List, [], ◌∷◌, ◌++◌, append-nil}
use Prim.Native.Nat.{ℕ, ◌≤◌, ◌<◌}
use native.Mathlib.Omega.{arith}
use lib.IntN.{ℤ}
use Rattle.coxeter.specs.declared.Kind.{Kind}
use Rattle.coxeter.specs.Kinds.{pick, least}
use Rattle.coxeter.specs.Windows.{act, window}
use Rattle.coxeter.specs.Length.{window_length}
use Rattle.coxeter.specs.Checks.{wrong_letter}
use Rattle.coxeter.proofs.Basics.{by_pick}
use Rattle.coxeter.proofs.Levels.{Accepted, act_accepted}
use Rattle.coxeter.proofs.Steps.{act_involution}
use Rattle.shortest_words.specs.OneLetter.{drop_at, added}
use Rattle.shortest_words.specs.Descents.{is_descent}
use Rattle.shortest_words.specs.Fallback.{HasSubword}
use Rattle.shortest_words.proofs.Subwords.{Subword, none, keep, leave, subword_trans, subword_append, subword_letters}
use Rattle.shortest_words.proofs.Subwords.{subword_of_drop_at, Split, both, subword_split}
use Rattle.shortest_words.proofs.Exchange.{window_snoc, exchange}
use Rattle.shortest_words.proofs.Places.{SubwordWith, subword_of_fallback, fallback_of_subword}
use Rattle.shortest_words.proofs.Descents.{length_of_descent, length_of_ascent}

-- ---- the target after one letter

-- a letter that makes the target shorter steps it back
unfoldable pub descended : Kind → ℕ → ℕ → List ℤ → List ℤ
descended k n s w = pick (is_descent k n s w) (act k n s w) w

pub descended_step : (k : Kind) (n s : ℕ) (w : List ℤ) → is_descent k n s w ≡ true → descended k n s w ≡ act k n s w
unfolding descended
descended_step k n s w t = rw t

pub descended_same : (k : Kind) (n s : ℕ) (w : List ℤ) → is_descent k n s w ≡ false → descended k n s w ≡ w
unfolding descended
descended_same k n s w t = rw t

pub descended_accepted : (k : Kind) (n s : ℕ) (w : List ℤ) → Accepted k n w → Accepted k n (descended k n s w)
unfolding descended
descended_accepted k n s w a = by_pick (Accepted k n) (is_descent k n s w) (act k n s w) w (act_accepted k n s w a) a

module _ (k : Kind) (n : ℕ) (u : List ℕ) (s : ℕ) (h : least k ≤ n) (e : wrong_letter n u ≡ false) (o : 1 ≤ s) (l : s ≤ n) where
  -- ---- a letter less

  -- a step that makes the window of a part-list shorter: a letter of the part-list can be left out for it
  stepped_back : (w : List ℤ) → window_length k (act k n s w) < window_length k w → SubwordWith k n u w → HasSubword k n u (act k n s w)
  stepped_back w g p =
      let v : List ℕ = p.word in
      let steps : added k n v s ≡ act k n s w = window_snoc k n v s ∙ ap (act k n s) p.shows in
      let shorter : window_length k (added k n v s) < window_length k (window k n v) = rw (steps, p.shows) g in
      let (i, r) = exchange k n v s h (subword_letters n p.subword e) o l shorter in
      fallback_of_subword k n u (drop_at i v) (act k n s w) (subword_trans p.subword (subword_of_drop_at i v)) (r.1 ∙ steps)

  -- ---- a step at the end

  with_step : (w : List ℤ) → SubwordWith k n u (act k n s w) → HasSubword k n (u ++ (s ∷ [])) w
  with_step w p =
      fallback_of_subword k n (u ++ (s ∷ [])) (p.word ++ (s ∷ [])) w (subword_append p.subword (keep none))
      (window_snoc k n p.word s ∙ ap (act k n s) p.shows ∙ act_involution k n s w)

  without_step : (w : List ℤ) → SubwordWith k n u w → HasSubword k n (u ++ (s ∷ [])) w
  without_step w p =
      fallback_of_subword k n (u ++ (s ∷ [])) p.word w
      (subst (Subword (u ++ (s ∷ []))) (append-nil p.word) (subword_append p.subword (leave none))) p.shows

  -- the part-list keeps the step at the end, or not
  data LastStep (w : List ℤ) : Type 0 where
    kept : SubwordWith k n u (act k n s w) → LastStep w
    left : SubwordWith k n u w → LastStep w

  ends : (w : List ℤ) → HasSubword k n (u ++ (s ∷ [])) w → LastStep w
  ends w f = ends_by_cases (subword_split u p.subword) refl
    where
      p : SubwordWith k n (u ++ (s ∷ [])) w
      p = subword_of_fallback k n (u ++ (s ∷ [])) w f

      last : {v y : List ℕ} → Subword u v → Subword (s ∷ []) y → window k n (v ++ y) ≡ w → LastStep w
      last {v} q (keep none) g =
          kept (record { word = v; subword = q; shows = sym (act_involution k n s (window k n v)) ∙ ap (act k n s) (sym (window_snoc k n v s) ∙ g) })
      last {v} q (leave none) g = left (record { word = v; subword = q; shows = ap (window k n) (sym (append-nil v)) ∙ g })

      ends_by_cases : {x : List ℕ} → Split u (s ∷ []) x → x ≡ p.word → LastStep w
      ends_by_cases (both q r) g = last q r (ap (window k n) g ∙ p.shows)

  -- w is a fallback of u with the step added exactly when w stepped back is one of u
  lifting_shorter : (w : List ℤ) → Accepted k n w → is_descent k n s w ≡ true → HasSubword k n (u ++ (s ∷ [])) w ↔ HasSubword k n u (act k n s w)
  lifting_shorter w a t = (forth, λ f. with_step w (subword_of_fallback k n u (act k n s w) f))
    where
      forth : HasSubword k n (u ++ (s ∷ [])) w → HasSubword k n u (act k n s w)
      forth f = elim (ends w f) [
        | kept p ↦ fallback_of_subword k n u p.word (act k n s w) p.subword p.shows
        | left p ↦ stepped_back w (omega (arith, length_of_descent k n s w h o l a t)) p
      ]

  -- exactly when w itself is one of u
  lifting_longer : (w : List ℤ) → Accepted k n w → is_descent k n s w ≡ false → HasSubword k n (u ++ (s ∷ [])) w ↔ HasSubword k n u w
  lifting_longer w a t = (forth, λ f. without_step w (subword_of_fallback k n u w f))
    where
      forth : HasSubword k n (u ++ (s ∷ [])) w → HasSubword k n u w
      forth f = elim (ends w f) [
        | kept p ↦
            subst (HasSubword k n u) (act_involution k n s w)
            (stepped_back (act k n s w) (rw act_involution (omega (arith, length_of_ascent k n s w h o l a t))) p)
        | left p ↦ fallback_of_subword k n u p.word w p.subword p.shows
      ]

  -- both at once: exactly when the target after the letter s is one of u
  pub lifting : (w : List ℤ) → Accepted k n w → HasSubword k n (u ++ (s ∷ [])) w ↔ HasSubword k n u (descended k n s w)
  lifting w a = lifting_by_cases (is_descent k n s w) refl
    where
      lifting_by_cases : (t : Bool) → is_descent k n s w ≡ t → HasSubword k n (u ++ (s ∷ [])) w ↔ HasSubword k n u (descended k n s w)
      lifting_by_cases true t = rw (descended_step k n s w t) (lifting_shorter w a t)
      lifting_by_cases false t = rw (descended_same k n s w t) (lifting_longer w a t)
