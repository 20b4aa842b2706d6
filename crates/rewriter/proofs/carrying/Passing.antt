-- What `carrying::pass` does: where a letter passes another, that is a step of the rewriting, and it is noted.
--
-- Sections: letters; a letter that passes another; letters passed one by one.
-- Assumes nothing.
use mathlib.Core.Path.{◌≡◌, refl, sym, ap₂, subst, ◌∙◌}
use mathlib.Core.Bool.{true, false}
use mathlib.Core.List.{List, ◌∷◌, ◌++◌}
use Prim.Native.Nat.{ℕ, zero, suc, ◌+◌, ◌-◌, ◌≤◌, ◌<◌}
use native.Mathlib.Omega.{arith}
use lib.ListN.{length, get_or, drop, set, length-set}
use lib.Seq.{set_split, drop-cons, take-set-le, drop-set-lt, get_or-set_same}
use borrow.Author.Tests.{le-ltb}
use Rattle.coxeter.specs.declared.Kind.{Kind}
use Rattle.coxeter.specs.Checks.{too_long, word_refusal, WordOf}
use Rattle.coxeter.specs.NormalForm.{levels}
use Rattle.coxeter.proofs.LetterLaws.{letter_at}
use Rattle.rules.specs.Rules.{rewritten, commuted}
use Rattle.traces.proofs.TwoLetters.{commuting}
use Rattle.traces.proofs.Reading.{reading_inside}
use Rattle.traces.proofs.ReadingSteps.{commute_redex}
use Rattle.traces.proofs.Tracing.{stores, Ready, Carried}
use Rattle.rewriter.proofs.carrying.Noting.{stores_start, stores-suc}
use Rattle.rewriter.proofs.carrying.Shifting.{put, put_none, put_read, put-commuted, CommutesFrom}
use Rattle.rewriter.proofs.carrying.CarriedSteps.{Noted, noted, carried_start, carried_ready, carried_trans, carried_step}

-- ---- letters

module _ {k : Kind} {n : ℕ} {rest : List ℕ} {s : ℕ} {families places lengths word : List ℕ} {q : ℕ}
    (a : Ready k n rest s families places lengths word q) where
  pub ready_inside : q < length word
  ready_inside = reading_inside k n a.rank word q a.reading

  pub ready_word : WordOf n word
  unfolding word_refusal too_long
  ready_word = rw (le-ltb 4096 (length word) (omega (arith, a.short)), a.reading.letters)

  ready_letter : (t : ℕ) → t < length word → (1 ≤ get_or word t 0) × (get_or word t 0 ≤ n)
  ready_letter t h = letter_at n word t h a.reading.letters

-- ---- a letter that passes another

commuted_set : (w : List ℕ) (p l x : ℕ) → suc p < length w → rewritten (commuted l x) w p ≡ set (set w (suc p) l) p x
unfolding rewritten
commuted_set w p l x h =
    let e : p + 2 ≡ suc (suc p) = omega arith in
    let f : suc p ≡ suc p + 0 = omega arith in
    let g : drop (suc p) (set w (suc p) l) ≡ l ∷ drop (suc (suc p)) w =
    drop-cons (set w (suc p) l) (suc p) 0 (rw length-set h)
    ∙ ap₂ (λ (y : ℕ) (v : List ℕ). y ∷ v) (get_or-set_same w (suc p) l 0 h) (drop-set-lt (suc (suc p)) w (suc p) l (omega arith)) in
    rw e
    (sym (set_split (set w (suc p) l) p x (rw length-set (omega arith))
    ∙ ap₂ (λ (u v : List ℕ). u ++ (x ∷ v)) (take-set-le p w (suc p) l (omega arith)) g))

module _ {k : Kind} {n : ℕ} {rest : List ℕ} {s : ℕ} {families places lengths word : List ℕ} where
  commute_step : {p : ℕ} → Ready k n rest s families places lengths word (suc p) → {s' : ℕ} {families' places' lengths' : List ℕ}
      → commuting n (levels k n) (get_or word p 0) (get_or word (suc p) 0) ≡ true → s' ≡ s + 1 → families' ≡ set families s 2 → places' ≡ set places s p
      → lengths' ≡ set lengths s (length word + length rest)
      → Carried k n rest s families places lengths word s' families' places' lengths' (set (set word (suc p) (get_or word p 0)) p (get_or word (suc p) 0)) p
  commute_step {p} a {s'} {families'} {places'} {lengths'} t i f g m =
      let l = ready_letter a (suc p) (ready_inside a) in
      carried_step a _ (commute_redex k n a.rank word p a.reading l.1 t)
      (omega arith) i f g m (sym (commuted_set word p (get_or word p 0) (get_or word (suc p) 0) (ready_inside a)))

  -- the letter x, at the place behind p
  pass_step : {p x left s' : ℕ} {families' places' lengths' : List ℕ} → Ready k n rest s families places lengths word (suc p)
      → get_or word (suc p) 0 ≡ x → commuting n (levels k n) (get_or word p 0) x ≡ true → s' ≡ s + 1 → families' ≡ set families s 2
      → places' ≡ set places s p → left ≡ length word + length rest → lengths' ≡ set lengths s left
      → Carried k n rest s families places lengths word s' families' places' lengths' (set (set word (suc p) (get_or word p 0)) p x) p
      × (get_or (set (set word (suc p) (get_or word p 0)) p x) p 0 ≡ x)
  pass_step {p} {x} {s'} {families'} {places'} {lengths'} a y z i f g b m = (
    rw (← y) (commute_step a (rw y z) i f g (rw (← b) m)),
    get_or-set_same (set word (suc p) (get_or word p 0)) p x 0 (rw length-set (omega (arith, ready_inside a))),
  )

-- ---- letters passed one by one

-- the letter x has come from place q to t, from what a has to what b has
abbrev CameTo : Kind → ℕ → List ℕ → Noted → ℕ → Noted → ℕ → ℕ → Type 0
CameTo k n rest a q b t x =
    (t ≤ q) × (get_or b.word t 0 ≡ x)
    × Carried k n rest a.steps a.families a.places a.lengths a.word b.steps b.families b.places b.lengths b.word t

module _ {k : Kind} {n : ℕ} {rest : List ℕ} {s : ℕ} {families places lengths word : List ℕ} {q : ℕ}
    (a : Ready k n rest s families places lengths word q) where
  pass_start : CameTo k n rest (noted s families places lengths word) q (noted (s + (q - q)) families places lengths word) q (get_or word q 0)
  pass_start = let e : s + (q - q) ≡ s = omega arith in (omega arith, refl, rw e (carried_start a))

  module _ {left : ℕ} (l : left ≡ length word + length rest) where
    pass_again : {families' places' lengths' word' : List ℕ} {p x : ℕ} {families'' places'' lengths'' word'' : List ℕ}
        → CameTo k n rest (noted s families places lengths word) q (noted (s + (q - suc p)) families' places' lengths' word') (suc p) x
        → commuting n (levels k n) (get_or word' p 0) x ≡ true → families'' ≡ set families' (s + (q - suc p)) 2
        → places'' ≡ set places' (s + (q - suc p)) p → lengths'' ≡ set lengths' (s + (q - suc p)) left
        → set (set word' (suc p) (get_or word' p 0)) p x ≡ word''
        → CameTo k n rest (noted s families places lengths word) q (noted (s + (q - p)) families'' places'' lengths'' word'') p x
    pass_again {p = p} {x = x} {families'' = families''} {places'' = places''} {lengths'' = lengths''} b z f g m w =
        let c = pass_step {s' = s + (q - p)} (carried_ready b.2 a) b.1 z
        (omega (arith, b.0)) f g (omega (arith, b.2.size)) m in
        rw (← w) (omega (arith, b.0), c.1, carried_trans b.2 c.0)

    -- the letter at q has passed m others and come to t, and the steps are noted
    abbrev LettersPassed : ℕ → ℕ → Type 0
    LettersPassed m t =
        CameTo k n rest (noted s families places lengths word) q
        (noted (s + (q - t)) (stores (λ i. 2) families s m) (stores (λ i. q - suc i) places s m) (stores (λ i. left) lengths s m)
        (put word t q (get_or word q 0)))
        t (get_or word q 0)

    letters_none : LettersPassed 0 q
    letters_none =
        rw (
          ← put_none word q (ready_inside a),
          ← stores_start (λ i. 2) families s,
          ← stores_start (λ i. q - suc i) places s,
          ← stores_start (λ i. left) lengths s,
        ) pass_start

    letters_next : (m p : ℕ) → p + suc m ≡ q → commuting n (levels k n) (get_or word p 0) (get_or word q 0) ≡ true → LettersPassed m (suc p)
        → LettersPassed (suc m) p
    letters_next m p e z b =
        let x : ℕ = get_or word q 0 in
        let i : q - suc p ≡ m = omega arith in
        let j : suc p - 1 ≡ p = omega arith in
        let read = rw j at (put_read word (put word (suc p) q x) q (ready_inside a) (suc p) x (omega arith) (omega arith) refl) in
        pass_again b (rw read z)
        (stores-suc (λ i. 2) families s m (q - suc p) 2 i refl)
        (stores-suc (λ i. q - suc i) places s m (q - suc p) p i (omega arith))
        (stores-suc (λ i. left) lengths s m (q - suc p) left i refl)
        (put-commuted word q p x (ready_inside a) (omega arith))

    letters : (m t : ℕ) → t + m ≡ q → CommutesFrom n (levels k n) word q (get_or word q 0) t → LettersPassed m t
    letters zero t e w = let z : q ≡ t = omega arith in subst (LettersPassed 0) z letters_none
    letters (suc m) t e w = letters_next m t e (w t (omega arith) (omega arith)) (letters m (suc t) (omega arith) (λ j h. w j (omega arith)))

    -- the letter has come to place r, where it stops
    pub passed : {c r : ℕ} {families' places' lengths' word' : List ℕ} → c ≡ levels k n → r ≤ q → word' ≡ put word r q (get_or word q 0)
        → CommutesFrom n c word q (get_or word q 0) r → (1 ≤ r → commuting n c (get_or word (r - 1) 0) (get_or word q 0) ≡ false)
        → families' ≡ stores (λ i. 2) families s (q - r) → places' ≡ stores (λ i. q - suc i) places s (q - r)
        → lengths' ≡ stores (λ i. left) lengths s (q - r)
        → (r ≤ q) × Carried k n rest s families places lengths word (s + (q - r)) families' places' lengths' word' r
        × (1 ≤ r → commuting n (levels k n) (get_or word' (r - 1) 0) (get_or word' r 0) ≡ false)
    passed {c} {r} {word' = word'} d h e w o f g m =
        let b = letters (q - r) r (omega arith) (rw (← d) w) in
        let stop : get_or word' r 0 ≡ get_or word q 0 = rw e b.1 in
        (h, rw (e, f, g, m) b.2, λ u. rw (put_read word word' q (ready_inside a) r (get_or word q 0) u h e, stop, ← d) (o u))
